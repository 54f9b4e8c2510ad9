-- the first part ends at the first place of the byte
use Rattle.std.proofs.Common.{◌∙◌, sym}
use Rattle.text_words.proofs.Splitting.{split_at_place, split_nowhere}
use Rattle.text_words.proofs.line.first_part.Goals as goal

pub returns-in-Some : goal.returns-in-Some
returns-in-Some c = split_at_place c.args.byte c.args.text.now c.in-Some.at (sym c.place_of.ensures ∙ c.in-Some.is)

pub returns-in-None : goal.returns-in-None
returns-in-None c = split_nowhere c.args.byte c.args.text.now (sym c.place_of.ensures ∙ c.in-None.is)
