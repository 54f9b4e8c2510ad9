use Rattle.std.proofs.Common.{◌∙◌, ap, ℕ, ◌-◌, ◌==◌, ◌&&◌, not, false, get_or, refl, arith}
use Rattle.reservations.proofs.Filling.{filled-more, filled-all}
use Rattle.reservations.proofs.acting.others_with_key.Goals as goal

pub loop-place-init : goal.loop-place-init
loop-place-init c = record { long = refl; below = λ j h. absurd (omega arith) }

pub loop-place-preserved : goal.loop-place-preserved
loop-place-preserved c =
    filled-more false (λ (place : ℕ). not (place == c.args.i - 1) && get_or c.args.keys.now place 0 == c.args.key) c.loop-place.marks c.loop-place.place c.is_other_with_key-mark.result (omega arith) (c.is_other_with_key-mark.ensures ∙ ap (λ (own : ℕ). not (c.loop-place.place == own) && get_or c.args.keys.now c.loop-place.place 0 == c.args.key) c.place_of-own.ensures.place) c.loop-place.invariant

pub returns : goal.returns
returns c = filled-all false (λ (place : ℕ). not (place == c.args.i - 1) && get_or c.args.keys.now place 0 == c.args.key) c.loop-place.marks c.loop-place.place (omega arith) c.loop-place.invariant
