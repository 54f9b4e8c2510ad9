-- The order of turns that may be asked for: which of those that may come is next is drawn from a number.
use Rattle.std.specs.Prelude.{ℕ, ◌+◌, ◌*◌, ◌/◌, ◌%◌, List, fold, Option, Some, None}
use Rattle.drive_scene.specs.Scene.{Beat}

-- the number that the order of turns is drawn from, one turn on; none where no order was asked for
abbrev pub drawn : Option ℕ → Option ℕ
drawn None = None
drawn (Some x) = Some ((x * 1103515245 + 12345) % 2147483648)

-- the number that picks a turn
abbrev pub number_of : Option ℕ → ℕ
number_of None = 0
number_of (Some x) = x / 65536

-- the order after turns of a phase: it is drawn once for each
abbrev pub order_after : Option ℕ → List Beat → Option ℕ
order_after order own = fold (λ x t. drawn x) order own
