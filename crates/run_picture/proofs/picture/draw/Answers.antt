-- What is written is the text of the marks that are shown.
use Rattle.std.proofs.Common.{[], ◌∙◌, sym, ap}
use Rattle.run_picture.specs.Frame.{frame_of}
use Rattle.run_picture.specs.Window.{shown_of}
use Rattle.run_picture.proofs.DrawLemmas.{drawing-some}
use Rattle.run_picture.proofs.picture.draw.Goals as goal

pub returns-clause-ok : goal.returns-clause-ok
returns-clause-ok c =
    let w = c.args.window in
    let written = c.put_picture.ensures c.new-out.result [] c.new-out.ensures.fresh in
    let text_is = rw (c.new-out.ensures.bytes, c.as_slice-3.ensures) at (c.in_ok-finish.ensures c.new-out.result _ written) in
    drawing-some w c.args.turns.now c.in_ok-shown.shown c.in_ok-frame.frame c.in_ok-finish.field-0
    (c.in_ok-shown.ensures ∙ ap (shown_of w) (c.as_slice.ensures ∙ c.in_ok-marks.ensures))
    (c.in_ok-frame.ensures ∙ ap (frame_of w) c.as_slice-2.ensures)
    (sym c.is_too_great.ensures ∙ c.if-is_too_great.false)
    text_is
