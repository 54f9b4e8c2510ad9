-- Where the last write of each sector ends, as counting strays keeps it.
use Rattle.std.specs.Prelude.{◌≡◌, ℕ, ◌<◌, ◌≤◌, nat_lt, min, List, length, get_or, take, if◌then◌else◌}
use Rattle.disk_base.specs.declared.address.Psn.{Psn}
use Rattle.platter_model.specs.declared.op.Op.{Op}
use Rattle.platter_model.specs.Sector.{meant}

-- from the first so many operations on, what is meant on p stays the same
abbrev pub IsMeantSince : Psn → List Op → ℕ → Type 0
IsMeantSince p ops end = (k : ℕ) → end ≤ k → k ≤ length ops → meant p (take k ops) ≡ meant p (take end ops)

-- for each of the first 4,096 sectors, an end within the operations from which on what is meant stays the same
pub record AreEnds (ops : List Op) (ends : List ℕ) : Type 0 where
  pub within : (p : Psn) → p.0 < 4096 → get_or ends p.0 0 ≤ length ops
  pub since : (p : Psn) → p.0 < 4096 → IsMeantSince p ops (get_or ends p.0 0)

-- how many of the first operations are looked at for what is meant on p after so many of them
abbrev pub back_from : List ℕ → Psn → ℕ → ℕ
back_from ends p at = if nat_lt p.0 4096 then min at (get_or ends p.0 0) else at
