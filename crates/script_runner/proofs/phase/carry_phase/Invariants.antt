use Rattle.drive_scene.specs.Run.{scene_of}
use Rattle.script_runner.specs.Wanted.{wanted_of}
use Rattle.script_runner.specs.Measure.{turns_of_phase}
use Rattle.script_runner.proofs.Underway.{InPhase}
use Rattle.script_runner.proofs.phase.carry_phase.Given as goal

abbrev pub invariant-loop-pick : goal.invariant-loop-pick
invariant-loop-pick l = InPhase l.initial.drive l.initial.order.x (wanted_of l.initial.queued) l.drive l.order.x (wanted_of l.queued)

abbrev pub decreases-loop-pick : goal.decreases-loop-pick
decreases-loop-pick l = turns_of_phase (scene_of l.drive) (wanted_of l.queued)
