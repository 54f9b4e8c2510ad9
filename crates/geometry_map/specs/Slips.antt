-- How a place slips past primary defects.
use Rattle.std.specs.Prelude.{ℕ, ◌+◌, nat_le, if◌then◌else◌, List, [], ◌∷◌}
use Rattle.disk_base.specs.declared.address.Psn.{Psn}

-- what is left of `at` once each of these ascending sectors that is at or below it moves it up by one
abbrev pub slipped : ℕ → List Psn → ℕ
slipped at [] = at
slipped at (q ∷ qs) = if nat_le q.0 at then slipped (at + 1) qs else at
