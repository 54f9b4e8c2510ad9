-- The lines and the summary are the report.
use Rattle.std.proofs.Common.{ℕ, List, [], ◌∷◌, ◌++◌, drop, map, subst, append_assoc}
use Rattle.report_text.specs.Operations.{shown_of}
use Rattle.report_text.specs.Turns.{turn_lines}
use Rattle.report_text.specs.Summary.{summary_text, counts_of}
use Rattle.report_text.proofs.print.put_report.Goals as goal

pub returns-in-Whole : goal.returns-in-Whole
returns-in-Whole g c = λ start text before.
    let turns = c.args.turns.now in
    let ops = c.args.ops.now in
    let shown = map shown_of (drop c.args.before ops) in
    let summary = rw (c.counts_of-counts.ensures, c.behind.ensures) at (c.put_summary.ensures start _ (c.put_turns.ensures start text before)) in
    rw c.in-Whole.is (subst (λ (t : List ℕ). g.O.Out.written start t c.put_summary.new.out)
    (append_assoc text (turn_lines 1 shown turns) (summary_text (counts_of turns ops) ++ 10 ∷ [])) summary)
