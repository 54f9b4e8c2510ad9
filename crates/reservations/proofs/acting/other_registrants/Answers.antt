use Rattle.std.proofs.Common.{◌∙◌, ap, ℕ, ◌-◌, ◌==◌, ◌&&◌, not, false, get_or, refl, arith}
use Rattle.reservations.proofs.Filling.{filled-more, filled-all}
use Rattle.reservations.proofs.acting.other_registrants.Goals as goal

pub loop-place-init : goal.loop-place-init
loop-place-init c = record { long = refl; below = λ j h. absurd (omega arith) }

pub loop-place-preserved : goal.loop-place-preserved
loop-place-preserved c =
    filled-more false (λ (place : ℕ). not (place == c.args.i - 1) && not (get_or c.args.keys.now place 0 == 0)) c.loop-place.marks c.loop-place.place c.is_other_registrant-mark.result (omega arith) (c.is_other_registrant-mark.ensures ∙ ap (λ (own : ℕ). not (c.loop-place.place == own) && not (get_or c.args.keys.now c.loop-place.place 0 == 0)) c.place_of-own.ensures.place) c.loop-place.invariant

pub returns : goal.returns
returns c = filled-all false (λ (place : ℕ). not (place == c.args.i - 1) && not (get_or c.args.keys.now place 0 == 0)) c.loop-place.marks c.loop-place.place (omega arith) c.loop-place.invariant
