-- the tags so far are written
use Rattle.std.proofs.Common.{ℕ, List, take}
use Rattle.std.specs.List.{flat_map}
use Rattle.run_picture.specs.Tags.{with_tags}
use Rattle.run_picture.specs.Drawing.{letter_in}
use Rattle.run_picture.proofs.drawing.put_letters.Given as goal

abbrev pub invariant-loop-mark : goal.invariant-loop-mark
invariant-loop-mark g l = (start : _) (text : List ℕ) → g.O.Out.written start text l.fn.out
    → g.O.Out.written start (with_tags text (flat_map (letter_in l.frame l.turn) (take l.mark-index l.marks))) l.out
