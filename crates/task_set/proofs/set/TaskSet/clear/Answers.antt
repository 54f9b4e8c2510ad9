use Rattle.std.proofs.Common.{◌≡◌, ◌∙◌, ap, true, false, filter, List, [], ◌∷◌, refl}
use Rattle.task_set.specs.declared.member.Member.{Member}
use Rattle.task_set.specs.Members.{numbers}
use Rattle.task_set.proofs.set.TaskSet.clear.Goals as goal

-- everyone is named, and no one is left
all-named : (xs : List Member) → filter (λ _. true) xs ≡ xs
all-named [] = refl
all-named (x ∷ xs) = ap (λ rest. x ∷ rest) (all-named xs)

none-left : (xs : List Member) → filter (λ _. false) xs ≡ []
none-left [] = refl
none-left (x ∷ xs) = none-left xs

pub returns-clause-gone : goal.returns-clause-gone
returns-clause-gone c = c.take_out.ensures.gone ∙ ap numbers (all-named c.args.self.now)

pub returns-clause-left : goal.returns-clause-left
returns-clause-left c = c.take_out.ensures.left ∙ none-left c.args.self.now
