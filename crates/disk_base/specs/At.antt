-- Functions from numbers, changed at one place.
use Rattle.std.specs.Prelude.{ℕ, ◌==◌, if◌then◌else◌}

-- f, but v at k
abbrev pub put_at : {V : Type 0} → ℕ → V → (ℕ → V) → ℕ → V
put_at k v f n = if n == k then v else f n
