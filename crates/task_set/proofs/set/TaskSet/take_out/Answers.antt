use Rattle.std.proofs.Common.{rules, ◌≡◌, ◌<◌, ◌∙◌, ap, not, filter}
use Rattle.std.proofs.lemmas.List.Kept.{AllPairs-filter}
use Rattle.arrayvec.proofs.ArrayVecLemmas.{filter-from_retain}
use Rattle.task_set.specs.Members.{is_named}
use Rattle.task_set.proofs.set.TaskSet.take_out.Goals as goal

-- what is kept is what the function doesn't name
left : (c : goal.After-retain) → c.retain.new.self.items ≡ filter (λ m. not (is_named c.args.named.now m)) c.self.inside.members.items
left c = filter-from_retain _ _ _ (λ x b f' y called. search rules) _ _ c.retain.ensures.filtered

pub invariant_of-self : goal.invariant_of-self
invariant_of-self c = rw (left c) (AllPairs-filter (λ a b. a.task.c < b.task.c) _ _ c.self.invariant)

pub returns-clause-left : goal.returns-clause-left
returns-clause-left c = left c ∙ ap (filter (λ m. not (is_named c.args.named.now m))) c.self.view_is
