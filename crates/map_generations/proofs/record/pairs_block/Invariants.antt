use Rattle.std.proofs.Common.{◌≡◌, take}
use Rattle.std.specs.Prelude.{◌*◌, length}
use Rattle.std.specs.List.{flat_map}
use Rattle.map_generations.specs.MapRecord.{pair_bytes}
use Rattle.map_generations.proofs.record.pairs_block.Given as goal

-- the pairs so far are written, eight bytes each
abbrev pub invariant-loop-pair : goal.invariant-loop-pair
invariant-loop-pair l = record {
  written : l.bytes.items ≡ flat_map pair_bytes (take l.pair-index l.pairs);
  long : length l.bytes.items ≡ 8 * l.pair-index;
}
