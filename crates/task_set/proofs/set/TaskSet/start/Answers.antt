use Rattle.std.proofs.Common.{◌≡◌, ◌∙◌, ap, length}
use Rattle.std.proofs.lemmas.List.{length-map}
use Rattle.arrayvec.proofs.ArrayVecLemmas.{items-with_items}
use Rattle.task_set.specs.Members.{started_at, with_started}
use Rattle.task_set.proofs.Ages.{IsByAge-started}
use Rattle.task_set.proofs.set.TaskSet.start.Goals as goal

pub invariant_of-self : goal.invariant_of-self
invariant_of-self c =
    let after : c.start_in.new.members ≡ with_started c.self.inside.members.items c.args.c
    = c.start_in.ensures ∙ ap (λ set. with_started set c.args.c) c.as_mut_slice.ensures.value in
    let long : length c.start_in.new.members ≡ length c.self.inside.members.items = ap length after ∙ length-map c.self.inside.members.items (started_at c.args.c) in
    let whole = items-with_items c.self.inside.members c.start_in.new.members long in
    rw (whole, after) (IsByAge-started c.args.c c.self.inside.members.items c.self.invariant)
