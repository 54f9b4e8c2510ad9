use Rattle.std.proofs.Common.{[], slice_index_or, take, ap}
use Rattle.disk_base.specs.declared.payload.Payload.{Payload}
use Rattle.platter_model.proofs.Logs.{factory_may}
use Rattle.platter_model.proofs.platter.Platter.factory.Goals as goal

pub add-requires-clause-may : goal.add-requires-clause-may
add-requires-clause-may c =
    let nothing : Payload = record { kind = 0; index = 0; state = 0; version = 0; psn = record { 0 = 0 }; address = 0; block = [] } in
    λ log. factory_may (take c.loop-payload.payload-index c.args.first.now) (slice_index_or c.args.first.now c.loop-payload.payload-index nothing) c.loop-payload.platter.ops (ap (λ x. x.ops) c.loop-payload.invariant)
