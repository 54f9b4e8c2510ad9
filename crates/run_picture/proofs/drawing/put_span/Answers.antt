-- The parts of a span, one after another.
use Rattle.std.proofs.Common.{ℕ, List, subst}
use Rattle.run_picture.specs.Drawing.{bar_note, bar, work_on, ending_note, front_note}
use Rattle.run_picture.proofs.TagLemmas.{five_parts}
use Rattle.run_picture.proofs.drawing.put_span.Goals as goal

pub returns : goal.returns
returns g c = λ start text before.
    let f = c.args.frame.now in
    let ms = c.args.marks.now in
    let s = c.args.span.now in
    subst (λ (t : List ℕ). g.O.Out.written start t c.put_front_note.new.out)
    (five_parts text (bar_note f ms s.subject) (bar f ms s) (work_on f ms s) (ending_note f ms s) (front_note f ms s))
    (c.put_front_note.ensures start _ (c.put_ending_note.ensures start _ (c.put_work_on.ensures start _ (c.put_bar.ensures start _ (c.put_bar_note.ensures start text before)))))
