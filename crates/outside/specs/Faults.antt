-- Counts that are kept in 64 bits: they rise by one at a time, and stay at their end.
use Rattle.std.specs.Prelude.{ℕ, ◌+◌, ◌-◌, ◌^◌, ◌≤◌, min}

-- a count after one more
abbrev pub counted : ℕ → ℕ
counted n = min (n + 1) (2 ^ 64 - 1)

-- a count rose, or stands at its end
abbrev pub Rises : ℕ → ℕ → Type 0
Rises old new = counted old ≤ new
