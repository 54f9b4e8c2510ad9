-- What a background scan found.
use Rattle.std.specs.Prelude.{◌≡◌, ◌-◌, Bool, ◌&&◌, nat_lt, List, [], ◌∷◌, ◌++◌, length, drop, IsTrue}
use Rattle.std.specs.List.{list_all}
use Rattle.scan_log.specs.declared.finding.Finding.{Finding}

-- whether status and sense key have four bits each
abbrev pub fits_a_byte : Finding → Bool
fits_a_byte f = nat_lt f.status 16 && nat_lt f.key 16

-- each finding's status and sense key have
abbrev pub AllFit : List Finding → Type 0
AllFit findings = IsTrue (list_all fits_a_byte findings)

-- the newest 64, the oldest of them first
abbrev pub newest_64 : List Finding → List Finding
newest_64 findings = drop (length findings - 64) findings

-- a law: to add to the newest of some findings and keep the newest is to keep the newest of all
abbrev pub NewestOfAll : Type 0
NewestOfAll = (findings : List Finding) (f : Finding) → newest_64 (newest_64 findings ++ f ∷ []) ≡ newest_64 (findings ++ f ∷ [])
