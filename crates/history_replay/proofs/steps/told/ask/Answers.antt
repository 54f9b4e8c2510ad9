use Rattle.std.proofs.Common.{◌∙◌, ap, sym, List}
use Rattle.task_set.specs.declared.member.Member.{Member}
use Rattle.disk_base.specs.declared.command.Function.{Function}
use Rattle.block_machine.specs.declared.entry.Entry.TheVariants.{Asked}
use Rattle.block_machine.specs.declared.turn.Label.TheVariants.{Scan}
use Rattle.block_machine.specs.Attentions.{after_clear}
use Rattle.block_machine.specs.State.{no_duty}
use Rattle.block_machine.specs.Steps.{waiting_after}
use Rattle.history_replay.specs.Warning.{waiting_state}
use Rattle.history_replay.proofs.steps.told.ask.Goals as goal

pub returns-in-Clear : goal.returns-in-Clear
returns-in-Clear c =
    let before = c.args.waiting.now in
    c.warn_of_clear.ensures
    ∙ ap (λ (l : List Member). after_clear c.args.i l before) c.members.ensures.value
    ∙ ap (λ (f : Function). waiting_after Scan (waiting_state before c.args.set.now no_duty) (Asked c.args.i f)) (sym c.in-Clear.is)
