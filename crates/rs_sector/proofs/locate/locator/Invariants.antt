use Rattle.rs_sector.specs.Pivots.{ArePivots}
use Rattle.rs_sector.proofs.locate.locator.Given as goal

abbrev pub invariant-loop-degree : goal.invariant-loop-degree
invariant-loop-degree l = ArePivots l.sums l.degree l.rows l.pivots
