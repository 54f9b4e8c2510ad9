-- The initiators before this one were told.
use Rattle.sense_data.specs.Attentions.{attention}
use Rattle.history_replay.specs.Warning.{is_cleared}
use Rattle.history_replay.proofs.Raising.{RaisedTo}
use Rattle.history_replay.proofs.steps.warning.warn_of_clear.Given as goal

abbrev pub invariant-loop-number : goal.invariant-loop-number
invariant-loop-number l = RaisedTo (is_cleared l.i l.set) (attention 0x2F 0x00) l.initial.waiting l.waiting l.number
