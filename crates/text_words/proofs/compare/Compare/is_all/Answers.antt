-- nothing is left exactly where the rest has no byte
use Rattle.text_words.proofs.Comparing.{none_left, no_front}
use Rattle.text_words.proofs.compare.Compare.is_all.Goals as goal

pub returns-then-self : goal.returns-then-self
returns-then-self c start text before =
    none_left start.rest.now text c.args.self.now.rest.now c.args.self.now.is_front before c.if-self.true c.is_empty.result c.is_empty.ensures

pub returns-else-self : goal.returns-else-self
returns-else-self c start text before = no_front start.rest.now text c.args.self.now.rest.now c.args.self.now.is_front before c.if-self.false
