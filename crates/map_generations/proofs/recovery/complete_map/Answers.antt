-- Four records that are found make the map that they say; and a map that the slot is complete for is the one that they say.
use Rattle.std.proofs.Common.{◌≡◌, Some, None, sym, ◌∙◌, subst}
use Rattle.std.proofs.lemmas.Option.{same_Some}
use Rattle.geometry_map.specs.DefectMap.{DefectMap}
use Rattle.map_generations.specs.Recovery.{reads_of, counted, IsComplete}
use Rattle.map_generations.specs.Reading.{AreRecordsOf}
use Rattle.map_generations.proofs.Rule.{complete_from, are_records, numbered}
use Rattle.map_generations.proofs.recovery.complete_map.Goals.{After-map_read}
use Rattle.map_generations.proofs.recovery.complete_map.Goals as goal

-- the records that were found are those of such a map, which is then the one that was read
read_from_them : (c : After-map_read) (m : DefectMap) → m.slot ≡ c.args.slot → m.number ≡ c.args.number
    → IsComplete c.args.size.now (counted (reads_of c.args.reads.now)) m
    → (c.map_read.result ≡ Some m) × AreRecordsOf m c.in_ok-record_in.field-0.now c.in_ok-record_in-2.field-0.now
    c.in_ok-record_in-3.field-0.now c.in_ok-record_in-4.field-0.now
read_from_them c m of_slot of_number complete =
    let reads = counted (reads_of c.args.reads.now) in
    let is = numbered c.args.size.now reads m c.args.slot c.args.number complete of_slot of_number in
    let are =
    are_records c.args.size.now reads m c.args.slot c.args.number _ _ _ _ complete of_slot of_number (sym c.in_ok-record_in.ensures)
    (sym c.in_ok-record_in-2.ensures) (sym c.in_ok-record_in-3.ensures) (sym c.in_ok-record_in-4.ensures) in
    (c.map_read.ensures.only m is (sym are.of_sectors.state) (sym are.of_sectors.bytes) (sym are.of_pairs.bytes) (sym are.of_later_pairs.bytes) (sym are.of_measures.bytes), are)

pub returns-then-are_of-clause-complete : goal.returns-then-are_of-clause-complete
returns-then-are_of-clause-complete c =
    let is = c.in_ok-map.ensures.numbered in (
      is.of_slot,
      is.of_number,
      complete_from c.args.size.now (counted (reads_of c.args.reads.now)) c.args.slot c.args.number c.in_ok-map.map
          _ _ _ _ is (sym c.in_ok-record_in.ensures) (sym c.in_ok-record_in-2.ensures) (sym c.in_ok-record_in-3.ensures) (sym c.in_ok-record_in-4.ensures)
          (c.are_of.ensures.0 c.if-are_of.true),
    )

pub returns-then-are_of-clause-only : goal.returns-then-are_of-clause-only
returns-then-are_of-clause-only c m of_slot of_number complete =
    let read = read_from_them (goal.at.returns-then-are_of-clause-only c).After-map_read m of_slot of_number complete in
    sym c.in_ok-map.was ∙ read.0

pub returns-else-are_of-clause-only : goal.returns-else-are_of-clause-only
returns-else-are_of-clause-only c m of_slot of_number complete =
    let read = read_from_them (goal.at.returns-else-are_of-clause-only c).After-map_read m of_slot of_number complete in
    let same = same_Some c.in_ok-map.map m (sym c.in_ok-map.was ∙ read.0) in
    let true_then = c.are_of.ensures.1
    (subst (λ (k : DefectMap). AreRecordsOf k c.in_ok-record_in.field-0.now c.in_ok-record_in-2.field-0.now
    c.in_ok-record_in-3.field-0.now c.in_ok-record_in-4.field-0.now) (sym same) read.1) in
    absurd (cc (true_then, c.if-are_of.false))

pub returns-in_err-map-clause-only : goal.returns-in_err-map-clause-only
returns-in_err-map-clause-only c m of_slot of_number complete =
    let read = read_from_them (goal.at.returns-in_err-map-clause-only c).After-map_read m of_slot of_number complete in
    let none : c.map_read.result ≡ None = c.in_err-map.was in
    absurd (cc (none, read.0))
