-- One line more is written.
use Rattle.std.proofs.Common.{ℕ, List, subst, arith}
use Rattle.script_text.specs.Spelling.{primary_words}
use Rattle.script_text.proofs.PrintLemmas.{next_line}
use Rattle.script_text.proofs.printing.put_primary_list.Goals as goal

pub loop-p-preserved : goal.loop-p-preserved
loop-p-preserved g c = λ start text before.
    subst (λ (t : List ℕ). g.O.Out.written start t c.put_primary.new.out) (next_line primary_words text c.args.sectors.now c.loop-p.p-index (record { 0 = 0 }) (omega arith))
    (c.put_primary.ensures start _ (c.loop-p.invariant start text before))
