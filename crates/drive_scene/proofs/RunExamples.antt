-- Operations of turns follow each other from number 0 on, the first behind the factory's.
use Rattle.std.proofs.Common.{ℕ, [], ◌∷◌, refl, arith}
use Rattle.block_machine.specs.declared.turn.Label.TheVariants.{Destage}
use Rattle.block_machine.specs.declared.turn.Turn.{Turn}
use Rattle.drive_scene.specs.Run.{FollowFrom}

abbrev turn_of : ℕ → ℕ → Turn
turn_of from to = record { label = Destage; ops_from = from; ops_to = to; entries = [] }

-- one turn without operations, and two with some
counted : FollowFrom 0 (turn_of 0 0 ∷ turn_of 0 2 ∷ turn_of 2 3 ∷ []) 3
counted = (refl, omega arith, (refl, omega arith, (refl, omega arith, refl)))

-- not where the second begins one short of the end of the first
one_short : FollowFrom 0 (turn_of 0 2 ∷ turn_of 1 3 ∷ []) 3 → ⊥
one_short h = omega (arith, h.2.0)

-- and not where the first is counted from the factory's operations on
with_the_factory : FollowFrom 0 (turn_of 500 502 ∷ []) 502 → ⊥
with_the_factory h = omega (arith, h.0)
