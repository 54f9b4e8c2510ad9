use Rattle.std.proofs.Common.{◌≡◌, take}
use Rattle.std.specs.Prelude.{◌*◌, length}
use Rattle.std.specs.List.{flat_map}
use Rattle.map_generations.specs.MapRecord.{sector_bytes}
use Rattle.map_generations.proofs.record.sectors_block.Given as goal

-- the sectors so far are written, four bytes each
abbrev pub invariant-loop-p : goal.invariant-loop-p
invariant-loop-p l = record {
  written : l.bytes.items ≡ flat_map sector_bytes (take l.p-index l.sectors);
  long : length l.bytes.items ≡ 4 * l.p-index;
}
