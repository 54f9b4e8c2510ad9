-- The end stands behind the line.
use Rattle.std.proofs.Common.{ℕ, List, [], ◌∷◌, subst, append_assoc}
use Rattle.report_text.specs.Summary.{summary_text}
use Rattle.report_text.proofs.counts.put_summary.Goals as goal

pub returns : goal.returns
returns g c = λ start text before.
    subst (λ (t : List ℕ). g.O.Out.written start t c.put.new.self) (append_assoc text (summary_text c.args.counts.now) (10 ∷ []))
    (c.put.ensures start _ (c.put_counts.ensures start text before))
