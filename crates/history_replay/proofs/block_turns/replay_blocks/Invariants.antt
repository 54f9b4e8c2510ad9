-- The turns come to those that are left, from the blocks that are left.
use Rattle.std.proofs.Common.{◌≡◌, drop, vec_len}
use Rattle.block_machine.specs.Blocks.{blocks_at_start}
use Rattle.history_replay.specs.Array.{blocks_of}
use Rattle.history_replay.proofs.Turn.{TurnsComeTo}
use Rattle.history_replay.proofs.block_turns.replay_blocks.Given as goal

abbrev pub invariant-loop-index : goal.invariant-loop-index
invariant-loop-index l =
    TurnsComeTo l.capacity blocks_at_start l.turns (blocks_of l.blocks.items) (drop l.index l.turns) l.index
    × (vec_len l.blocks ≡ l.capacity)
