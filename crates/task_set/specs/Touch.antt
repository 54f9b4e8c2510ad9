-- The blocks that a command touches.
use Rattle.std.specs.Prelude.{◌↔◌, ℕ, ◌+◌, ◌<◌, ◌≤◌, max, Bool, true, false, ◌&&◌, ◌||◌, nat_lt, IsTrue, ◌⊎◌}
use Rattle.task_set.specs.declared.task.Touch.{Touch}
use Rattle.task_set.specs.declared.task.Touch.TheVariants.{Nothing, Range, All}

-- whether two ranges, each from an address so many blocks long, have a block in common; the later of the two first
-- blocks is then in both. An address has no greatest value here.
abbrev pub ranges_meet : ℕ → ℕ → ℕ → ℕ → Bool
ranges_meet a m b n = nat_lt (max a b) (a + m) && nat_lt (max a b) (b + n)

-- whether two commands touch a common block, one of the two writing
abbrev pub collide : Touch → Touch → Bool
collide Nothing b = false
collide a Nothing = false
collide All All = true
collide All (Range from count writes) = nat_lt 0 count
collide (Range from count writes) All = nat_lt 0 count
collide (Range a m w) (Range b n v) = (w || v) && ranges_meet a m b n

-- this block is among those that a command touches
abbrev pub Touches : Touch → ℕ → Type 0
Touches Nothing block = ⊥
Touches (Range from count writes) block = (from ≤ block) × (block < from + count)
Touches All block = Unit {0}

-- a command writes the blocks that it touches
abbrev pub Writes : Touch → Type 0
Writes Nothing = ⊥
Writes (Range from count writes) = IsTrue writes
Writes All = Unit {0}

-- a law: two commands collide exactly where there is a block that both touch, and one of them writes
abbrev pub CollideAtABlock : Type 0
CollideAtABlock = (a b : Touch) → IsTrue (collide a b) ↔ ((block : ℕ) × Touches a block × Touches b block × (Writes a ⊎ Writes b))
