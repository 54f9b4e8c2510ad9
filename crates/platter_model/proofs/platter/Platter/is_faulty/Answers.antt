use Rattle.std.proofs.Common.{◌≡◌, ◌<◌, length, ap, ◌∙◌, arith}
use Rattle.platter_model.specs.Sector.{is_faulty}
use Rattle.platter_model.proofs.Beside.{fault_at}
use Rattle.platter_model.proofs.platter.Platter.is_faulty.Goals as goal

pub returns : goal.returns
returns c =
    let ops_are : c.self.inside.kept.ops.items ≡ c.args.self.now.ops = ap (λ x. x.ops) c.self.view_is in
    let below : c.args.p.0 < length c.self.inside.kept.sectors.items = omega (arith, ap (λ x. x.sectors) c.self.view_is) in
    fault_at _ _ c.args.p _ below c.index.ensures c.self.invariant.kept.are_sectors ∙ ap (λ os. is_faulty c.args.p os) ops_are
