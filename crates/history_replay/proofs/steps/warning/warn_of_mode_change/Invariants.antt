-- The initiators before this one were told.
use Rattle.history_replay.specs.Warning.{is_another}
use Rattle.sense_data.specs.Attentions.{attention}
use Rattle.history_replay.proofs.Raising.{RaisedTo}
use Rattle.history_replay.proofs.steps.warning.warn_of_mode_change.Given as goal

abbrev pub invariant-loop-number : goal.invariant-loop-number
invariant-loop-number l = RaisedTo (is_another l.i) (attention 0x2A 0x01) l.initial.waiting l.waiting l.number
