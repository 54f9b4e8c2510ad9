-- Rows of the definitions: what they hold of, and what not.
use Rattle.std.proofs.Common.{◌≡◌, zero, suc, ◌-◌, ◌^◌, [], ◌∷◌, Some, refl, arith, lit≤, lit<}
use Rattle.outside.specs.declared.sink.SinkAnswer.TheVariants.{Took, Failed}
use Rattle.outside.specs.Faults.{Rises}
use Rattle.outside.specs.Memory.{SinkState, IsDue, IsFull, fresh, passed, count_given, count_taken, sink_after}
use Rattle.outside.specs.Pieces.{AppendsFront, ConsumesAtMost}

-- a count that went up
rises_by_one : Rises 3 4
rises_by_one = lit≤ tt

-- a count that stands at its end
rises_at_the_end : Rises (2 ^ 64 - 1) (2 ^ 64 - 1)
rises_at_the_end = lit≤ tt

-- a count that stands anywhere else
stands : Rises 3 3 → ⊥
stands h = omega (arith, h)

-- the second call is listed: the first isn't due, the second is, whether or not the first failed
first_passes : IsDue (fresh (2 ∷ [])) → ⊥
first_passes (zero, below, same) = omega (arith, same)
first_passes (suc k, below, same) = omega (arith, below)

second_is_due : IsDue (passed (fresh (2 ∷ [])))
second_is_due = (0, lit< tt, refl)

-- two bytes a call, into room for four and for one
two_given : count_given (record { left = 7 ∷ 8 ∷ 9 ∷ []; most = 2 }) 4 ≡ 2
two_given = refl

one_given : count_given (record { left = 7 ∷ 8 ∷ 9 ∷ []; most = 2 }) 1 ≡ 1
one_given = refl

-- a sink of three bytes that has two
nearly_full : SinkState
nearly_full = record { held = 7 ∷ 8 ∷ []; room = 3; most = 2; schedule = fresh [] }

one_taken : count_taken nearly_full 2 ≡ 1
unfolding nearly_full
one_taken = refl

not_full : IsFull nearly_full → ⊥
unfolding nearly_full
not_full h = omega (arith, h)

full_after_one : IsFull (sink_after nearly_full (9 ∷ 9 ∷ []) (Took 1))
unfolding nearly_full
full_after_one = refl

-- a fault leaves the bytes
kept_at_a_fault : (sink_after nearly_full (9 ∷ []) Failed).held ≡ 7 ∷ 8 ∷ []
unfolding nearly_full
kept_at_a_fault = refl

-- a front of a text, and bytes that are none
front : AppendsFront (Some (1 ∷ [])) (Some (1 ∷ 2 ∷ [])) (2 ∷ 3 ∷ [])
front = (1, refl)

-- one byte taken is at most two, and not exactly two
at_most_two : ConsumesAtMost (Some (1 ∷ 2 ∷ [])) (Some (2 ∷ [])) 2
at_most_two = (1 ∷ [], refl, lit≤ tt)
