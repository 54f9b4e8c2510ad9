-- the rest begins with the piece exactly where something is left behind it
use Rattle.text_words.proofs.Comparing.{compared_more, compared_other}
use Rattle.text_words.proofs.compare.CompareOut.put.Goals as goal

pub returns-in-Some : goal.returns-in-Some
returns-in-Some c start text before = compared_more _ text _ c.args.piece.now _ _ before c.in-Some.ensures.some c.if-self.true

pub returns-in-None : goal.returns-in-None
returns-in-None c start text before = compared_other _ text _ c.args.piece.now _ before c.if-self.true c.in-None.ensures.none
