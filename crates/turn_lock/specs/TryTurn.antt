-- What a try answers.
use Rattle.turn_lock.specs.declared.try_turn.TryTurn.{TryTurn}
use Rattle.turn_lock.specs.declared.try_turn.TryTurn.TheVariants.{Done, Busy}

-- the first holds of the step's answer, the second of the event that comes back
abbrev pub MatchTry : {A E : Type 0} → TryTurn A E → (A → Type 0) → (E → Type 0) → Type 0
MatchTry (Done a) P Q = P a
MatchTry (Busy e) P Q = Q e
