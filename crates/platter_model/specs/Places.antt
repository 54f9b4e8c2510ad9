-- Where the platter finds in its list of operations what it needs of a sector, and what it keeps for that.
use Rattle.std.specs.Prelude.{◌≡◌, ℤ, ℕ, zero, suc, ◌+◌, ◌<◌, ◌≤◌, nat_le, Bool, true, false, ◌&&◌, ◌||◌, List, [], ◌∷◌, ◌++◌, length, Option, Some, None, is_some, option_and_then, slice_get, if◌then◌else◌}
use Rattle.std.specs.Option.{option_map_or}
use Rattle.disk_base.specs.declared.address.Psn.{Psn}
use Rattle.disk_base.specs.declared.payload.Payload.{Payload}
use Rattle.platter_model.specs.declared.damage.Left.{Left}
use Rattle.platter_model.specs.declared.damage.Left.TheVariants.{Old, New, Nothing}
use Rattle.platter_model.specs.declared.op.Op.{Op}
use Rattle.platter_model.specs.declared.op.Op.TheVariants.{Wrote, Torn, WriteFailed, Damaged, Faulty, Fetched, Tried, Cut, Power}
use Rattle.platter_model.specs.declared.sector.Sector.{Sector}
use Rattle.platter_model.specs.Sector.{Flaw, is_sector, writes, left_of, meant, is_hard, flaw_of, is_faulty}
use Rattle.platter_model.specs.Given.{IsUnflawed}

-- the operation at place n is there and passes a test
abbrev pub passes_at : (Op → Bool) → List Op → ℕ → Bool
passes_at test ops n = option_map_or test (slice_get ops n) false

-- the newest of the first n operations that passes a test
abbrev pub newest : (Op → Bool) → List Op → ℕ → Option ℕ
newest test ops zero = None
newest test ops (suc n) = if passes_at test ops n then Some n else newest test ops n

-- a torn write that leaves this changes what is meant
abbrev pub changes_meant : Left → Bool
changes_meant Old = false
changes_meant New = true
changes_meant Nothing = true

-- the operation settles what is meant on p
abbrev pub settles : Psn → Op → Bool
settles p (Wrote payload) = is_sector p payload.psn
settles p (Torn payload tear) = is_sector p payload.psn && changes_meant tear.left
settles p _ = false

-- the payload that such an operation settles
abbrev pub payload_of : Op → Option Payload
payload_of (Wrote payload) = Some payload
payload_of (Torn payload tear) = left_of tear.left payload None
payload_of _ = None

abbrev pub payload_at : List Op → Option ℕ → Option Payload
payload_at ops None = None
payload_at ops (Some k) = option_and_then payload_of (slice_get ops k)

-- the operation brings a flaw to p
abbrev pub brings : Psn → Op → Bool
brings p op = is_some (flaw_of p op)

abbrev pub flaw_at : Psn → List Op → ℕ → Option Flaw
flaw_at p ops k = option_and_then (flaw_of p) (slice_get ops k)

-- place k isn't before the newest write
abbrev pub is_since : Option ℕ → ℕ → Bool
is_since None k = true
is_since (Some written) k = nat_le written k

-- a flaw, where it is hard or came since the newest write
abbrev pub standing_if : Bool → Option Flaw → List Flaw
standing_if since None = []
standing_if since (Some flaw) = if is_hard flaw || since then flaw ∷ [] else []

abbrev pub standing : Option ℕ → ℕ → Option Flaw → List Flaw
standing written k flaw = standing_if (is_since written k) flaw

-- the flaws that the first n operations brought to p, and that stand
abbrev pub standing_in : Psn → Option ℕ → List Op → ℕ → List Flaw
standing_in p written ops zero = []
standing_in p written ops (suc n) = standing_in p written ops n ++ standing written n (flaw_at p ops n)

-- the standing flaws of these places, the last place first
abbrev pub gathered : Psn → Option ℕ → List Op → List ℕ → List Flaw
gathered p written ops [] = []
gathered p written ops (k ∷ ks) = gathered p written ops ks ++ standing written k (flaw_at p ops k)

-- how many operations reach to a place
abbrev pub reach : Option ℕ → ℕ
reach None = 0
reach (Some k) = suc k

-- what is kept beside an operation: with a flaw, the place of the sector's flaw before it; with a fetch, the place that
-- settled what is meant
abbrev pub link_for : List Op → ℕ → Op → Option ℕ
link_for ops n (Torn payload tear) = newest (brings payload.psn) ops n
link_for ops n (Damaged damage) = newest (brings damage.p) ops n
link_for ops n (Fetched p attempt) = newest (settles p) ops n
link_for ops n _ = None

-- the operation names a sector of so many, and keeps to its samples
abbrev pub IsWithin : ℕ → Op → Type 0
IsWithin count (Wrote payload) = payload.psn.0 < count
IsWithin count (Torn payload tear) = (payload.psn.0 < count) × (tear.scar ≤ 9478)
IsWithin count (WriteFailed p) = p.0 < count
IsWithin count (Damaged damage) = (damage.p.0 < count) × (damage.first + damage.count ≤ 9478)
IsWithin count (Faulty p) = p.0 < count
IsWithin count (Fetched p attempt) = p.0 < count
IsWithin count (Tried at p stage found) = p.0 < count
IsWithin count Cut = Unit {0}
IsWithin count Power = Unit {0}

-- what is kept for p is what the operations say
pub record IsSector (ops : List Op) (p : Psn) (s : Sector) : Type 0 where
  pub meant_at : s.meant ≡ newest (settles p) ops (length ops)
  pub written_at : s.written ≡ newest (writes p) ops (length ops)
  pub flaw_at : s.flaw ≡ newest (brings p) ops (length ops)
  pub fault : s.faulty ≡ is_faulty p ops
  pub unflawed : IsUnflawed (meant p ops) s.unflawed

abbrev pub AreSectors : List Op → List Sector → Type 0
AreSectors ops sectors = (p : Psn) (s : Sector) → slice_get sectors p.0 ≡ Some s → IsSector ops p s

-- what is kept beside the operations, and for the sectors, is what they say
pub record IsKept (ops : List Op) (links : List (Option ℕ)) (sectors : List Sector) : Type 0 where
  pub beside : length links ≡ length ops
  pub linked : (k : ℕ) (op : Op) → slice_get ops k ≡ Some op → slice_get links k ≡ Some (link_for ops k op)
  pub within : (k : ℕ) (op : Op) → slice_get ops k ≡ Some op → IsWithin (length sectors) op
  pub are_sectors : AreSectors ops sectors

-- what a torn write leaves of a sector's samples
abbrev pub LeavesSamples : Left → Payload → List ℤ → List ℤ → Type 0
LeavesSamples Old payload before after = after ≡ before
LeavesSamples New payload before after = IsUnflawed (Some payload) after
LeavesSamples Nothing payload before after = IsUnflawed None after
