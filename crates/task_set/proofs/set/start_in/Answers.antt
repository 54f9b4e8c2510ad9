use Rattle.std.proofs.Common.{true, set, sym, ap, ◌∙◌}
use Rattle.std.proofs.lemmas.List.Edits.{map_over_more}
use Rattle.task_set.specs.declared.member.Member.{Member}
use Rattle.task_set.specs.Members.{started_at}
use Rattle.task_set.proofs.Ages.{started_at-same, started_at-other}
use Rattle.task_set.proofs.set.start_in.Goals.{then-member-c, else-member-c}
use Rattle.task_set.proofs.set.start_in.Goals as goal

pub loop-member-preserved : goal.loop-member-preserved
loop-member-preserved c =
    let xs = c.args.members.now in
    let ys = c.loop-member.members in
    let i = c.loop-member.member-index in
    let m = c.member-item.result in
    let is = c.member-item.is in
    let number = ap (λ (x : Member). x.task.c) is in
    let step = map_over_more (started_at c.args.c) xs ys i m c.loop-member-test.true c.loop-member.invariant is in
    elim c.if-member-c.branch [
      | then-member-c w ↦ w.members-is ∙ ap (λ (x : Member). set ys i (record x { started = true })) (sym is)
          ∙ ap (set ys i) (sym (started_at-same c.args.c m (number ∙ w.if-member-c.true))) ∙ step
      | else-member-c w ↦ w.members-is ∙ ap (set ys i) (sym is)
          ∙ ap (set ys i) (sym (started_at-other c.args.c m (λ e. w.if-member-c.false (sym number ∙ e)))) ∙ step
    ]
