use Rattle.std.proofs.Common.{◌+◌, ◌-◌, ◌≤◌, length, drop, sym, ◌∙◌, arith}
use Rattle.std.proofs.lemmas.List.{length-drop, take_all}
use Rattle.report_text.proofs.Ending.{behind_end, whole_line}
use Rattle.report_text.proofs.summary.last_line.Goals as goal

pub returns-in-Some : goal.returns-in-Some
returns-in-Some c =
    let text = c.args.text.now in
    let at = c.in-Some.at in
    let all : length (drop (at + 1) text) ≤ length text - (at + 1) = let long = length-drop (at + 1) text in omega (arith, long) in
    take_all (length text - (at + 1)) (drop (at + 1) text) all
    ∙ sym (behind_end text at c.in-Some.ensures.0.high c.in-Some.ensures.1 c.in-Some.ensures.0.after)

pub returns-in-None : goal.returns-in-None
returns-in-None c = sym (whole_line c.args.text.now c.in-None.ensures)
