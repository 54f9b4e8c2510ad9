use Rattle.std.proofs.Common.{rules, ◌≡◌, ◌<◌, ◌∙◌, ap}
use Rattle.std.proofs.lemmas.List.Kept.{AllPairs-filter}
use Rattle.arrayvec.proofs.ArrayVecLemmas.{filter-from_retain}
use Rattle.task_set.specs.Members.{without}
use Rattle.task_set.proofs.set.TaskSet.end.Goals as goal

-- what is kept is all but this command
left : (c : goal.After-retain) → c.retain.new.self.items ≡ without c.self.inside.members.items c.args.c
left c = filter-from_retain _ _ _ (λ x b f' y called. search rules) _ _ c.retain.ensures.filtered

pub invariant_of-self : goal.invariant_of-self
invariant_of-self c = rw (left c) (AllPairs-filter (λ a b. a.task.c < b.task.c) _ _ c.self.invariant)

pub returns : goal.returns
returns c = left c ∙ ap (λ set. without set c.args.c) c.self.view_is
