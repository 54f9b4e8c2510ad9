-- So many blocks of zeros.
use Rattle.std.proofs.Common.{◌≡◌, replicate, vec_len}
use Rattle.block_machine.specs.Blocks.{hardened_with, zeros}
use Rattle.history_replay.proofs.blocks.blocks_at_start.Given as goal

abbrev pub invariant-loop : goal.invariant-loop
invariant-loop l = (l.blocks.items ≡ replicate l.counter (hardened_with zeros)) × (vec_len l.blocks ≡ l.counter)
