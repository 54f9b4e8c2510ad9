-- One row more is written.
use Rattle.std.proofs.Common.{ℕ, List, subst, arith}
use Rattle.run_picture.specs.Drawing.{block_note}
use Rattle.run_picture.proofs.TagLemmas.{next_tags}
use Rattle.run_picture.proofs.drawing.put_block_notes.Goals as goal

pub loop-b-preserved : goal.loop-b-preserved
loop-b-preserved g c = λ start text before.
    subst (λ (t : List ℕ). g.O.Out.written start t c.put_block_note.new.out) (next_tags (block_note c.args.frame.now) text c.args.blocks.now c.loop-b.b-index (record { 0 = 0 }) (omega arith))
    (c.put_block_note.ensures start _ (c.loop-b.invariant start text before))
