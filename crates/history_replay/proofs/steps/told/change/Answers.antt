use Rattle.std.proofs.Common.{◌∙◌, ap}
use Rattle.std.specs.Prelude.{Option}
use Rattle.std.specs.Option.{option_map_or}
use Rattle.task_set.specs.declared.member.Member.{Member}
use Rattle.block_machine.specs.Attentions.{after_mode_change}
use Rattle.history_replay.proofs.steps.told.change.Goals as goal

pub returns-in-Some : goal.returns-in-Some
returns-in-Some c =
    c.warn_of_mode_change.ensures
    ∙ ap (λ (o : Option Member). after_mode_change (option_map_or (λ m. m.task.initiator) o 0) c.args.waiting.now) c.in-Some.ensures
