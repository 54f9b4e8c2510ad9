-- the tags so far are written
use Rattle.std.proofs.Common.{ℕ, List, take}
use Rattle.std.specs.List.{flat_map}
use Rattle.run_picture.specs.Tags.{with_tags}
use Rattle.run_picture.specs.Drawing.{block_note}
use Rattle.run_picture.proofs.drawing.put_block_notes.Given as goal

abbrev pub invariant-loop-b : goal.invariant-loop-b
invariant-loop-b g l = (start : _) (text : List ℕ) → g.O.Out.written start text l.fn.out
    → g.O.Out.written start (with_tags text (flat_map (block_note l.frame) (take l.b-index l.blocks))) l.out
