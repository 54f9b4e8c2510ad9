-- A commit and a recovery, whole: the writes one after the other.
use Rattle.std.proofs.Common.{◌≡◌, ℕ, ◌+◌, ◌-◌, ◌*◌, ◌/◌, ◌%◌, ◌<◌, ◌≤◌, zero, suc, subst, arith, lit≤}
use Rattle.geometry_map.specs.DefectMap.{DefectMap}
use Rattle.map_generations.specs.Recovery.{Reads}
use Rattle.map_generations.specs.SafeMaps.{KeptPair, with_map, alone, StandsTo, IsPresent, MayBeWritten, written, written_to}
use Rattle.map_generations.specs.SafetyLaws.{WrittenMapsArePresent, CommitsStaySafe, RecoveriesStaySafe}
use Rattle.map_generations.proofs.SafeWrites.{commits-begin, recoveries-begin, recoveries-go_on, writes-safe, one_more, others-stand}

-- at each moment the next record may be written
at_each_write : (meant : Reads) (pair : KeptPair) (m : DefectMap) → MayBeWritten meant pair m
    → (count : ℕ) → count ≤ 8 → MayBeWritten (written_to m count meant) pair m
at_each_write meant pair m may zero few = may
at_each_write meant pair m may (suc k) few =
    writes-safe (written_to m k meant) pair m (k / 4) (k % 4) (at_each_write meant pair m may k (omega arith))

-- and those before it stand
stand_at_each_write : (meant : Reads) (m : DefectMap) (count : ℕ) → count ≤ 8 → StandsTo (written_to m count meant) m count
stand_at_each_write meant m zero few = λ c i c_low i_low none. absurd (omega arith)
stand_at_each_write meant m (suc k) few =
    let so_far : Reads = written_to m k meant in
    let here : k ≡ 4 * (k / 4) + k % 4 = omega arith in
    let next : 4 * (k / 4) + k % 4 + 1 ≡ suc k = omega arith in
    let from = subst (λ (n : ℕ). StandsTo so_far m n) here (stand_at_each_write meant m k (omega arith)) in
    subst (λ (n : ℕ). StandsTo (written m (k / 4) (k % 4) so_far) m n) next
    (one_more so_far m (k / 4) (k % 4) (omega arith) (omega arith) from)

-- the other slot's map stands through it
other_at_each_write : (meant : Reads) (m other : DefectMap) → m.slot < 2 → other.slot ≡ 1 - m.slot → StandsTo meant other 8
    → (count : ℕ) → count ≤ 8 → StandsTo (written_to m count meant) other 8
other_at_each_write meant m other a_slot apart stands zero few = stands
other_at_each_write meant m other a_slot apart stands (suc k) few =
    others-stand (written_to m k meant) m other (k / 4) (k % 4) 8 a_slot apart (omega arith) (omega arith)
    (other_at_each_write meant m other a_slot apart stands k (omega arith))

-- after eight the map is present, where one with a smaller number stands whole in the other slot
ends_present : (meant : Reads) (m older : DefectMap) → m.slot < 2 → older.slot ≡ 1 - m.slot → older.number < m.number
    → StandsTo meant older 8 → IsPresent (written_to m 8 meant) m
ends_present meant m older a_slot behind smaller stands = record {
  a_slot = a_slot;
  whole = stand_at_each_write meant m 8 (lit≤ tt);
  older = older;
  behind = behind;
  smaller = smaller;
  older_whole = other_at_each_write meant m older a_slot behind stands 8 (lit≤ tt);
}

pub written-present : WrittenMapsArePresent
written-present meant m older a_slot behind smaller =
    ends_present (written_to older 8 meant) m older a_slot behind smaller (stand_at_each_write meant older 8 (lit≤ tt))

pub commits-safe : CommitsStaySafe
commits-safe meant m next present valid next_valid number slot =
    let pair : KeptPair = with_map (alone m) next in
    let may : MayBeWritten meant pair next = commits-begin meant m next present valid next_valid number slot in
    let a_slot : m.slot < 2 = present.a_slot in (
      at_each_write meant pair next may,
      ends_present meant next m may.a_slot (omega (arith, slot)) (omega (arith, number)) present.whole,
    )

pub recoveries-safe : RecoveriesStaySafe
recoveries-safe size meant pair m first second safe taken first_same first_number first_slot same number slot =
    let may : MayBeWritten meant pair first = recoveries-begin size meant pair m first safe taken first_same first_number first_slot in
    let middle : Reads = written_to first 8 meant in
    let goes_on : MayBeWritten middle pair second =
    recoveries-go_on middle pair first second (at_each_write meant pair first may 8 (lit≤ tt)) same number slot in
    let a_slot : first.slot < 2 = may.a_slot in (
      at_each_write meant pair first may,
      at_each_write middle pair second goes_on,
      ends_present middle second first goes_on.a_slot (omega (arith, slot)) (omega (arith, number)) (stand_at_each_write meant first 8 (lit≤ tt)),
    )
