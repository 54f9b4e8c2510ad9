use Rattle.std.proofs.Common.{length}
use Rattle.rs_sector.proofs.solve.+solve.Given as goal

abbrev pub decreases-solve : goal.decreases-solve
decreases-solve l = length l.points.now
