use Rattle.std.proofs.Common.{◌≤◌, refl, arith}
use Rattle.rs_sector.proofs.Pivoting.{pivots_none, pivots_more, pivots_few}
use Rattle.rs_sector.proofs.locate.locator.Goals as goal

pub loop-degree-init : goal.loop-degree-init
loop-degree-init c = pivots_none c.args.sums.now c.args.rows _ refl refl refl

pub loop-degree-preserved : goal.loop-degree-preserved
loop-degree-preserved c =
    pivots_more c.args.sums.now c.loop-degree.degree c.args.rows c.loop-degree.pivots c.cleared-reduced.result c.inverse.result c.requires c.if-row-rows.false c.loop-degree.invariant c.cleared-reduced.ensures c.inverse.ensures

pub unreachable-requires : goal.unreachable-requires
unreachable-requires c =
    let few : c.loop-degree.degree ≤ c.args.rows = pivots_few c.args.sums.now c.loop-degree.degree c.args.rows c.loop-degree.pivots c.loop-degree.invariant in
    omega arith
