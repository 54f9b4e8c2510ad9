-- The places before this one are written.
use Rattle.std.proofs.Common.{ℕ, ◌-◌, ◌==◌, ◌&&◌, not, false, get_or}
use Rattle.reservations.proofs.Filling.{Filled}
use Rattle.reservations.proofs.acting.others_with_key.Given as goal

abbrev pub invariant-loop-place : goal.invariant-loop-place
invariant-loop-place l = Filled false (λ (place : ℕ). not (place == l.fn.i - 1) && get_or l.keys place 0 == l.fn.key) l.marks l.place
