-- The initiators before this one were told.
use Rattle.std.proofs.Common.{true}
use Rattle.sense_data.specs.Attentions.{attention}
use Rattle.history_replay.proofs.Raising.{RaisedTo}
use Rattle.history_replay.proofs.steps.warning.warn_of_reset.Given as goal

abbrev pub invariant-loop-number : goal.invariant-loop-number
invariant-loop-number l = RaisedTo (λ i. true) (attention 0x29 0x03) l.initial.waiting l.waiting l.number
