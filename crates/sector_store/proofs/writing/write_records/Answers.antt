use Rattle.std.proofs.Common.{◌≡◌, ◌<◌, ◌∙◌, [], List, length, get_or, subst, sym, ap, arith}
use Rattle.disk_base.specs.declared.payload.Payload.{Payload}
use Rattle.sector_store.specs.Maps.{records_of}
use Rattle.sector_store.proofs.Made.{records_within}
use Rattle.sector_store.proofs.WritesInOrder.{cut_short, item_within, eight_records}
use Rattle.sector_store.proofs.writing.write_records.Goals as goal

pub returns-then-is_off-clause-written : goal.returns-then-is_off-clause-written
returns-then-is_off-clause-written c =
    cut_short c.args.platter.now c.loop-record.platter (records_of c.args.map.now) c.loop-record.record-index c.loop-record.invariant.written
    (sym c.is_off.ensures ∙ c.if-is_off.true)

pub write-requires-clause-sector : goal.write-requires-clause-sector
write-requires-clause-sector c =
    let nothing : Payload = record { kind = 0; index = 0; state = 0; version = 0; psn = record { 0 = 0 }; address = 0; block = [] } in
    let long : length c.records-records.result ≡ 8 = ap (λ (xs : List Payload). length xs) c.records-records.ensures ∙ eight_records c.args.map.now in
    let less : c.loop-record.record-index < length (records_of c.args.map.now) =
    subst (λ (xs : List Payload). c.loop-record.record-index < length xs) c.records-records.ensures (omega (arith, long, c.loop-record-test.true)) in
    subst (λ (xs : List Payload). (get_or xs c.loop-record.record-index nothing).psn.0 < c.loop-record.platter.sectors) (sym c.records-records.ensures)
    (item_within c.args.platter.now c.loop-record.platter (records_of c.args.map.now) c.loop-record.record-index nothing c.loop-record.invariant.written less
    (records_within 16 c.args.map.now c.requires.slot (omega arith)) c.requires.sectors)
