use Rattle.std.proofs.Common.{ℕ, false, cond, get_or, refl, arith}
use Rattle.reservations.proofs.Filling.{filled-more, filled-all}
use Rattle.reservations.proofs.acting.taken.Goals as goal

pub loop-place-init : goal.loop-place-init
loop-place-init c = record { long = refl; below = λ j h. absurd (omega arith) }

pub loop-place-preserved : goal.loop-place-preserved
loop-place-preserved c =
    filled-more 0 (λ (place : ℕ). cond (get_or c.args.marks.now place false) 0 (get_or c.args.keys.now place 0)) c.loop-place.left c.loop-place.place c.left_key-key.result (omega arith) c.left_key-key.ensures c.loop-place.invariant

pub returns : goal.returns
returns c = filled-all 0 (λ (place : ℕ). cond (get_or c.args.marks.now place false) 0 (get_or c.args.keys.now place 0)) c.loop-place.left c.loop-place.place (omega arith) c.loop-place.invariant
