-- What operations leave on a sector: what is meant to be there, its flaws, its write fault.
use Rattle.std.specs.Prelude.{ℕ, ◌==◌, Bool, true, false, ◌||◌, List, [], ◌++◌, Option, Some, None, option_to_list, fold, filter, if◌then◌else◌}
use Rattle.disk_base.specs.declared.address.Psn.{Psn}
use Rattle.disk_base.specs.declared.payload.Payload.{Payload}
use Rattle.platter_model.specs.declared.damage.Damage.{Damage}
use Rattle.platter_model.specs.declared.damage.Lasting.{Lasting}
use Rattle.platter_model.specs.declared.damage.Lasting.TheVariants.{Hard}
use Rattle.platter_model.specs.declared.damage.Left.{Left}
use Rattle.platter_model.specs.declared.damage.Left.TheVariants.{Old, New, Nothing}
use Rattle.platter_model.specs.declared.op.Op.{Op}
use Rattle.platter_model.specs.declared.op.Op.TheVariants.{Wrote, Torn, Damaged, Faulty}

-- a flaw of a sector: a damage, or the scar of a torn write over so many samples from the first
pub data Flaw : Type 0 where
  harm : Damage → Flaw
  scar : ℕ → Flaw

-- q is the sector p
abbrev pub is_sector : Psn → Psn → Bool
is_sector p q = q.0 == p.0

-- the operation is a write that was carried out on p, or torn
abbrev pub writes : Psn → Op → Bool
writes p (Wrote payload) = is_sector p payload.psn
writes p (Torn payload tear) = is_sector p payload.psn
writes p _ = false

-- what a torn write leaves as the payload that is meant, of its own and the one before
abbrev pub left_of : Left → Payload → Option Payload → Option Payload
left_of Old payload before = before
left_of New payload before = Some payload
left_of Nothing payload before = None

-- what is meant on p after an operation
abbrev pub meant_after : Psn → Option Payload → Op → Option Payload
meant_after p before (Wrote payload) = if is_sector p payload.psn then Some payload else before
meant_after p before (Torn payload tear) = if is_sector p payload.psn then left_of tear.left payload before else before
meant_after p before _ = before

-- the payload that is meant on p: what the last write left there, or none
abbrev pub meant : Psn → List Op → Option Payload
meant p ops = fold (meant_after p) None ops

-- a write doesn't take the flaw away
abbrev pub is_lasting : Lasting → Bool
is_lasting Hard = true
is_lasting _ = false

abbrev pub is_hard : Flaw → Bool
is_hard (harm damage) = is_lasting damage.lasting
is_hard (scar samples) = false

-- the flaw that an operation brings to p: a damage, or a torn write's scar
abbrev pub flaw_of : Psn → Op → Option Flaw
flaw_of p (Damaged damage) = if is_sector p damage.p then Some (harm damage) else None
flaw_of p (Torn payload tear) = if is_sector p payload.psn then Some (scar tear.scar) else None
flaw_of p _ = None

-- the flaws of p after an operation: a write takes away all that aren't hard, and the operation's own comes last
abbrev pub flaws_after : Psn → List Flaw → Op → List Flaw
flaws_after p flaws op = (if writes p op then filter is_hard flaws else flaws) ++ option_to_list (flaw_of p op)

-- the flaws of p, in the order in which they came
abbrev pub flaws : Psn → List Op → List Flaw
flaws p ops = fold (flaws_after p) [] ops

-- p has a write fault after an operation
abbrev pub faulty_after : Psn → Bool → Op → Bool
faulty_after p before (Faulty q) = before || is_sector p q
faulty_after p before _ = before

-- p has a write fault
abbrev pub is_faulty : Psn → List Op → Bool
is_faulty p ops = fold (faulty_after p) false ops
