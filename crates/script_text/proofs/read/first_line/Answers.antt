-- The first LF parts the first line from the rest.
use Rattle.std.proofs.Common.{◌+◌, sym, ◌∙◌}
use Rattle.std.proofs.lemmas.List.{take_rest}
use Rattle.script_text.proofs.LineLemmas.{first_line-found, first_line-missed}
use Rattle.script_text.proofs.read.first_line.Goals as goal

pub returns-in-Some-clause-lines : goal.returns-in-Some-clause-lines
returns-in-Some-clause-lines c =
    λ some. rw (take_rest c.args.text.now (c.in-Some.at + 1)) (first_line-found c.args.text.now c.in-Some.at (sym c.place_of.ensures ∙ c.in-Some.is))

pub returns-in-None-clause-lines : goal.returns-in-None-clause-lines
returns-in-None-clause-lines c =
    λ some. first_line-missed c.args.text.now some (sym c.place_of.ensures ∙ c.in-None.is)
