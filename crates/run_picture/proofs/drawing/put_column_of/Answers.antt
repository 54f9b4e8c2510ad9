-- Its number, the letters, and its end.
use Rattle.std.proofs.Common.{ℕ, List, [], ◌∷◌, subst, sym}
use Rattle.std.specs.Prelude.{codes}
use Rattle.std.specs.List.{flat_map}
use Rattle.run_picture.specs.Tags.{Open, Close, with_tag, with_tags}
use Rattle.run_picture.specs.Shapes.{id}
use Rattle.run_picture.specs.Drawing.{letter_in, number_of}
use Rattle.run_picture.proofs.TagLemmas.{tags-more}
use Rattle.run_picture.proofs.drawing.put_column_of.Goals as goal

pub returns : goal.returns
returns g c = λ start text before.
    let f = c.args.frame.now in
    let n = c.args.turn in
    let front : List ℕ = with_tags (with_tag text (Open (codes "g") (id n ∷ []))) (number_of f n) in
    subst (λ (t : List ℕ). g.O.Out.written start t c.put_close.new.out)
    (sym (tags-more front (flat_map (letter_in f n) c.args.marks.now) (Close (codes "g") ∷ [])))
    (c.put_close.ensures start _ (c.put_letters.ensures start _ (c.put_turn_number.ensures start _ (c.put-3.ensures start _ (c.put_id.ensures start _ (c.put-2.ensures start _ (c.put.ensures start text before)))))))
