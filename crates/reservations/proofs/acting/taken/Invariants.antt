-- The places before this one are written.
use Rattle.std.proofs.Common.{ℕ, false, cond, get_or}
use Rattle.reservations.proofs.Filling.{Filled}
use Rattle.reservations.proofs.acting.taken.Given as goal

abbrev pub invariant-loop-place : goal.invariant-loop-place
invariant-loop-place l = Filled 0 (λ (place : ℕ). cond (get_or l.marks place false) 0 (get_or l.keys place 0)) l.left l.place
