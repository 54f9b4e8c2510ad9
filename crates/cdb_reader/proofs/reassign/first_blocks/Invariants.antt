-- The first k descriptors are read.
use Rattle.std.proofs.Common.{◌≡◌}
use Rattle.arrayvec.specs.ArrayVec.{array_vec_len}
use Rattle.cdb_reader.specs.Reassign.{first_blocks}
use Rattle.cdb_reader.proofs.reassign.first_blocks.Given as goal

abbrev pub invariant-loop-k : goal.invariant-loop-k
invariant-loop-k l = (l.blocks.items ≡ first_blocks l.long_address l.list l.k) × (array_vec_len l.blocks ≡ l.k)
