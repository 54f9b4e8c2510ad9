-- No block so far is dirty.
use Rattle.std.proofs.Common.{◌≡◌}
use Rattle.block_machine.specs.Blocks.{none_dirty}
use Rattle.history_replay.specs.Array.{blocks_of}
use Rattle.history_replay.proofs.blocks.none_dirty.Given as goal

abbrev pub invariant-loop-b : goal.invariant-loop-b
invariant-loop-b l = none_dirty (blocks_of l.blocks) l.from l.to ≡ none_dirty (blocks_of l.blocks) l.b l.to
