-- The first b blocks are as a power cut leaves them.
use Rattle.std.proofs.Common.{◌≡◌, ◌++◌, map, take, drop, vec_len}
use Rattle.block_machine.specs.Blocks.{after_cut}
use Rattle.history_replay.proofs.blocks.cut.Given as goal

abbrev pub invariant-loop-b : goal.invariant-loop-b
invariant-loop-b l =
    (l.blocks.items ≡ map after_cut (take l.b l.initial.blocks.items) ++ drop l.b l.initial.blocks.items)
    × (vec_len l.blocks ≡ vec_len l.initial.blocks)
