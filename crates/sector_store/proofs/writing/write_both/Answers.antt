use Rattle.sector_store.specs.Maps.{records_of}
use Rattle.sector_store.proofs.WritesInOrder.{not_true, not_false, both_cut, both_done, sectors_then, room_then, eight_records}
use Rattle.sector_store.proofs.writing.write_both.Goals as goal

pub returns-then-not-write_records-clause-written : goal.returns-then-not-write_records-clause-written
returns-then-not-write_records-clause-written c =
    both_cut c.args.platter.now c.write_records.new.platter (records_of c.args.first.now) (records_of c.args.second.now) c.write_records.ensures.written
    (not_false _ _ c.if-not-write_records.true c.write_records.ensures.whole)

pub write_records-requires-2-clause-sectors : goal.write_records-requires-2-clause-sectors
write_records-requires-2-clause-sectors c =
    sectors_then c.args.platter.now c.write_records.new.platter (records_of c.args.first.now) c.write_records.ensures.written c.requires.sectors

pub write_records-requires-2-clause-room : goal.write_records-requires-2-clause-room
write_records-requires-2-clause-room c =
    room_then c.args.platter.now c.write_records.new.platter (records_of c.args.first.now) c.write_records.ensures.written (eight_records c.args.first.now)
    (not_true _ _ c.if-not-write_records.false c.write_records.ensures.whole) c.requires.room
