use Rattle.std.proofs.Common.{◌≡◌, ◌+◌, ◌≤◌, take, false}
use Rattle.platter_model.specs.TrueLog.{is_off}
use Rattle.sector_store.specs.Maps.{records_of}
use Rattle.sector_store.specs.Writing.{after_writes}
use Rattle.sector_store.proofs.writing.write_records.Given as goal

-- the records so far are written, and there is room for the rest
abbrev pub invariant-loop-record : goal.invariant-loop-record
invariant-loop-record l = record {
  written : l.platter ≡ after_writes l.fn.platter (take l.record-index (records_of l.map));
  room : is_off l.platter.ops ≡ false → l.fn.platter.room ≤ l.platter.room + l.record-index;
}
