-- The words stand behind what was there before.
use Rattle.std.proofs.Common.{ℕ, List, codes, subst}
use Rattle.report_text.specs.Summary.{summary_words}
use Rattle.report_text.proofs.TextLemmas.{spaced-behind}
use Rattle.report_text.proofs.counts.put_counts.Goals as goal

pub returns : goal.returns
returns g c = λ start text before.
    let turns = c.put_count.ensures start _ (c.put.ensures start text before) in
    let ends = c.put_named-4.ensures start _ (c.put_named-3.ensures start _ (c.put_named-2.ensures start _ (c.put_named.ensures start _ turns))) in
    let all = c.put_named-7.ensures start _ (c.put_named-6.ensures start _ (c.put_named-5.ensures start _ ends)) in
    subst (λ (t : List ℕ). g.O.Out.written start t c.put_named-7.new.out) (spaced-behind text (codes "turns") (summary_words c.args.counts.now)) all
