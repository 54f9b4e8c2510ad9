use Rattle.std.proofs.Common.{◌≡◌, ◌-◌, length, map, take, None}
use Rattle.platter_model.specs.declared.op.Op.TheVariants.{Wrote}
use Rattle.platter_model.proofs.platter.Platter.factory.Given as goal

abbrev pub invariant-loop-payload : goal.invariant-loop-payload
invariant-loop-payload l = l.platter ≡ record { sectors = l.fn.sectors; ops = map Wrote (take l.payload-index l.first); armed = None; room = length l.first - l.payload-index }
