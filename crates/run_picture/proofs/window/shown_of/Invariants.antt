-- what is shown of the marks so far, with what is of those to come, is all
use Rattle.std.proofs.Common.{◌≡◌, ◌++◌, drop}
use Rattle.run_picture.specs.Window.{shown_of}
use Rattle.run_picture.proofs.window.shown_of.Given as goal

abbrev pub invariant-loop-mark : goal.invariant-loop-mark
invariant-loop-mark l = l.list ++ shown_of l.window (drop l.mark-index l.marks) ≡ shown_of l.window l.marks
