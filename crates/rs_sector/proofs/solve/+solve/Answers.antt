use Rattle.std.proofs.Common.{arith}
use Rattle.rs_sector.proofs.Solving.{solve_few, solve_more}
use Rattle.rs_sector.proofs.solve.+solve.Goals as goal

pub returns-then-points-gt1 : goal.returns-then-points-gt1
returns-then-points-gt1 t c =
    solve_more c.args.points.now c.args.sums.now c.eliminate_first.new.sums c.solve.new.sums c.divide_out.new.values c.requires.long c.if-points-gt1.true c.eliminate_first.ensures c.solve.auto.sums c.solve.ensures c.divide_out.ensures

pub returns-else-points-gt1 : goal.returns-else-points-gt1
returns-else-points-gt1 t c = solve_few c.args.points.now c.args.sums.now c.requires.long (omega arith)
