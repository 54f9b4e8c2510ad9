-- the stages so far are the table's first ones
use Rattle.std.proofs.Common.{◌≡◌, take}
use Rattle.read_recovery.specs.Stages.{stages_of}
use Rattle.read_recovery.proofs.stage.stages.Given as goal

abbrev pub invariant-loop-number : goal.invariant-loop-number
invariant-loop-number l = l.stages.items ≡ take l.number (stages_of l.retry)
