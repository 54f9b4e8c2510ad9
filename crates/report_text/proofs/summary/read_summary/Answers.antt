use Rattle.std.proofs.Common.{ap, sym, ◌∙◌, Some}
use Rattle.report_text.specs.Ending.{counts_in}
use Rattle.report_text.proofs.Ending.{ending_is, same_numbers}
use Rattle.report_text.proofs.LineWords.{none_some, same_some}
use Rattle.report_text.proofs.summary.read_summary.Goals as goal

pub returns-in-Some-clause-found : goal.returns-in-Some-clause-found
returns-in-Some-clause-found c = λ summary e.
    let lines = c.in-Some-eq10-default.lines.now in
    let line = c.last_line.ensures ∙ ending_is c.args.bytes.now lines c.in-Some-eq10-default.field-0-0.now summary c.in-Some-eq10-default.ensures.cases.0 e in
    let same = same_some (c.in-Some.ensures.found (counts_in summary) e.fit line) in
    ap Some (same_numbers c.of.result summary (c.of.ensures ∙ same))

pub returns-in-None-clause-found : goal.returns-in-None-clause-found
returns-in-None-clause-found c = λ summary e.
    let lines = c.in-Some-eq10-default.lines.now in
    let line = c.last_line.ensures ∙ ending_is c.args.bytes.now lines c.in-Some-eq10-default.field-0-0.now summary c.in-Some-eq10-default.ensures.cases.0 e in
    absurd (none_some (c.in-None.ensures.found (counts_in summary) e.fit line))
