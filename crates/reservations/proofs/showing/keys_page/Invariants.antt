-- The header and the keys so far were put.
use Rattle.std.proofs.Common.{◌≡◌, ◌+◌, ◌*◌, ◌++◌, length, take}
use Rattle.std.specs.Int.{w32, w64, to_be_bytes}
use Rattle.std.specs.List.{flat_map}
use Rattle.reservations.proofs.showing.keys_page.Given as goal

abbrev pub invariant-loop-key : goal.invariant-loop-key
invariant-loop-key l = record {
  put : l.page.items ≡ to_be_bytes w32 l.state.generation ++ to_be_bytes w32 (8 * length l.key-items) ++ flat_map (to_be_bytes w64) (take l.key-index l.key-items);
  room : length l.page.items ≡ 8 + 8 * l.key-index;
}
