-- The parts of a picture, one after another.
use Rattle.std.proofs.Common.{ℕ, List, [], ◌∷◌, subst}
use Rattle.std.specs.Prelude.{codes}
use Rattle.std.specs.List.{flat_map}
use Rattle.run_picture.specs.Tags.{Open, Close, with_tag, with_tags}
use Rattle.run_picture.specs.Drawing.{svg_attributes, lanes, block_note, mark_over, column}
use Rattle.run_picture.proofs.TagLemmas.{four_parts}
use Rattle.run_picture.proofs.drawing.put_picture.Goals as goal

pub returns : goal.returns
returns g c = λ start text before.
    let f = c.args.frame.now in
    let ms = c.args.marks.now in
    let front : List ℕ = with_tags (with_tag text (Open (codes "svg") (svg_attributes f))) lanes in
    let lanes_put = c.put_lanes.ensures start _ (c.put_opening.ensures start text before) in
    let blocks_put = rw c.as_slice.ensures at (c.put_block_notes.ensures start _ lanes_put) in
    subst (λ (t : List ℕ). g.O.Out.written start t c.put_close.new.out)
    (four_parts front (flat_map (block_note f) f.blocks) (flat_map (mark_over f ms) ms) (flat_map (column f ms) ms) (Close (codes "svg") ∷ []))
    (c.put_close.ensures start _ (c.put_columns.ensures start _ (c.put_spans.ensures start _ blocks_put)))
