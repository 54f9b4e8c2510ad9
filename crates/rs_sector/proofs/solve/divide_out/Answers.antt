use Rattle.std.proofs.Common.{◌≡◌, length, arith}
use Rattle.rs_sector.proofs.Solving.{divided_none, divided_more, divided_all}
use Rattle.rs_sector.proofs.solve.divide_out.Goals as goal

pub loop-k-init : goal.loop-k-init
loop-k-init c = divided_none c.args.points.now c.args.values.now

pub loop-k-preserved : goal.loop-k-preserved
loop-k-preserved c =
    divided_more c.args.points.now c.args.values.now c.loop-k.values c.loop-k.k c.inverse.result c.mul-value.result (omega (arith, c.loop-k.invariant.long)) c.loop-k.invariant c.inverse.ensures c.mul-value.ensures

pub returns : goal.returns
returns c =
    let all : c.loop-k.k ≡ length c.args.values.now = omega (arith, c.loop-k.invariant.long) in
    divided_all c.args.points.now c.args.values.now c.loop-k.values c.loop-k.k all c.loop-k.invariant
