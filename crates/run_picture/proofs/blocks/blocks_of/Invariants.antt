-- the blocks so far, with those of the marks to come, are all
use Rattle.std.proofs.Common.{◌≡◌, drop}
use Rattle.std.specs.Prelude.{fold}
use Rattle.run_picture.specs.Blocks.{with_mark, blocks_of}
use Rattle.run_picture.proofs.blocks.blocks_of.Given as goal

abbrev pub invariant-loop-mark : goal.invariant-loop-mark
invariant-loop-mark l = fold with_mark l.blocks (drop l.mark-index l.marks) ≡ blocks_of l.marks
