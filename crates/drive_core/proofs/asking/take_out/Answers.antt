use Rattle.std.proofs.Common.{◌∙◌, filter, not, sym, ap}
use Rattle.disk_base.specs.declared.command.Function.{Function}
use Rattle.task_set.specs.Members.{numbers}
use Rattle.drive_core.proofs.AskedTurns.{is_named_by, all_named, none_left}
use Rattle.drive_core.proofs.asking.take_out.Goals as goal

pub returns-in-Clear-clause-gone : goal.returns-in-Clear-clause-gone
returns-in-Clear-clause-gone c =
    c.clear.ensures.gone ∙ (ap numbers (sym (all_named c.args.set.now))
    ∙ ap (λ (f : Function). numbers (filter (is_named_by c.args.initiator f) c.args.set.now)) (sym c.in-Clear.is))

pub returns-in-Clear-clause-left : goal.returns-in-Clear-clause-left
returns-in-Clear-clause-left c =
    c.clear.ensures.left ∙ (sym (none_left c.args.set.now)
    ∙ ap (λ (f : Function). filter (λ m. not (is_named_by c.args.initiator f m)) c.args.set.now) (sym c.in-Clear.is))

pub returns-in-Reset-clause-gone : goal.returns-in-Reset-clause-gone
returns-in-Reset-clause-gone c =
    c.clear-in-Reset.ensures.gone ∙ (ap numbers (sym (all_named c.args.set.now))
    ∙ ap (λ (f : Function). numbers (filter (is_named_by c.args.initiator f) c.args.set.now)) (sym c.in-Reset.is))

pub returns-in-Reset-clause-left : goal.returns-in-Reset-clause-left
returns-in-Reset-clause-left c =
    c.clear-in-Reset.ensures.left ∙ (sym (none_left c.args.set.now)
    ∙ ap (λ (f : Function). filter (λ m. not (is_named_by c.args.initiator f m)) c.args.set.now) (sym c.in-Reset.is))
