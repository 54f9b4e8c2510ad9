-- A line of more words than any form has.
use Rattle.std.proofs.Common.{sym, ◌∙◌}
use Rattle.script_text.proofs.LineLemmas.{content_of_many_words}
use Rattle.script_text.proofs.standing.Standing.take_content.Goals as goal

pub returns-in-None-clause-meaning : goal.returns-in-None-clause-meaning
returns-in-None-clause-meaning c =
    content_of_many_words _ _ _ (sym c.is_comment.ensures ∙ c.if-is_comment.false) (λ few. let some = c.in-None.ensures.few.1 few in cc)
