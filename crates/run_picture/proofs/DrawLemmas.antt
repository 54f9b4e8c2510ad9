-- The picture of the marks that are shown.
use Rattle.std.proofs.Common.{◌≡◌, ℕ, false, List, [], sym, ap, ◌∙◌}
use Rattle.std.specs.Prelude.{Some}
use Rattle.block_machine.specs.declared.turn.Turn.{Turn}
use Rattle.run_picture.specs.declared.marks.Mark.{Mark}
use Rattle.run_picture.specs.declared.window.Window.{Window}
use Rattle.run_picture.specs.declared.frame.Frame.{Frame}
use Rattle.run_picture.specs.Tags.{with_tags}
use Rattle.run_picture.specs.Frame.{frame_of}
use Rattle.run_picture.specs.Drawing.{picture_of}
use Rattle.run_picture.specs.Draw.{is_too_great, marks_within, drawn, drawing}

drawn-some : (frame : Frame) (marks : List Mark) (text : List ℕ) → is_too_great frame ≡ false → text ≡ with_tags [] (picture_of frame marks) → drawn frame marks ≡ Some text
drawn-some frame marks text few is = rw few (ap Some (sym is))

pub drawing-some : (w : Window) (turns : List Turn) (marks : List Mark) (frame : Frame) (text : List ℕ) → marks ≡ marks_within w turns → frame ≡ frame_of w marks
    → is_too_great frame ≡ false → text ≡ with_tags [] (picture_of frame marks) → drawing turns w ≡ Some text
drawing-some w turns marks frame text marks_are frame_is few is =
    ap (λ m. drawn (frame_of w m) m) (sym marks_are) ∙ (ap (λ f. drawn f marks) (sym frame_is) ∙ drawn-some frame marks text few is)
