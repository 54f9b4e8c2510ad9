-- What happens to a store from outside.
use Rattle.std.specs.Prelude.{◌+◌, ◌<◌, ◌≤◌, Some}
use Rattle.platter_model.specs.declared.world.World.{World}
use Rattle.platter_model.specs.declared.world.World.TheVariants.{Damage, Fault, Cut, Arm, Power, Minutes}
use Rattle.platter_model.specs.declared.op.Op.TheVariants.{Damaged, Faulty}
use Rattle.platter_model.specs.State.{State, with_op, after_cut}

-- what may happen now: a damage within a sector of the drive, a fault of one that isn't the maps', a cut, or a cut of a later write
abbrev pub MayHappen : State → World → Type 0
MayHappen s (Damage d) = (d.p.0 < s.sectors) × (d.first + d.count ≤ 9478)
MayHappen s (Fault p) = (16 ≤ p.0) × (p.0 < s.sectors)
MayHappen s Cut = Unit {0}
MayHappen s (Arm k tear) = (1 ≤ k) × (tear.scar ≤ 9478)
MayHappen s Power = ⊥
MayHappen s (Minutes count) = ⊥

-- a platter after what happened
abbrev pub after_world : State → World → State
after_world s (Damage d) = with_op s (Damaged d)
after_world s (Fault p) = with_op s (Faulty p)
after_world s Cut = after_cut s
after_world s (Arm k tear) = record s { armed = Some (record { k = k; tear = tear }) }
after_world s Power = s
after_world s (Minutes count) = s
