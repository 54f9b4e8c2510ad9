-- The entries come to those that are left, from the blocks that are left.
use Rattle.std.proofs.Common.{◌≡◌, drop, vec_len}
use Rattle.history_replay.specs.Array.{blocks_of}
use Rattle.history_replay.proofs.Turn.{ComesTo}
use Rattle.history_replay.proofs.block_turns.take_turn.Given as goal

abbrev pub invariant-loop-entry : goal.invariant-loop-entry
invariant-loop-entry l =
    ComesTo (vec_len l.initial.blocks) (blocks_of l.initial.blocks.items) l.entries (blocks_of l.blocks.items) (drop l.entry-index l.entries)
    × (vec_len l.blocks ≡ vec_len l.initial.blocks)
