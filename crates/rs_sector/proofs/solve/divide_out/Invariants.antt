use Rattle.rs_sector.proofs.Solving.{DividedBelow}
use Rattle.rs_sector.proofs.solve.divide_out.Given as goal

abbrev pub invariant-loop-k : goal.invariant-loop-k
invariant-loop-k l = DividedBelow l.points l.fn.values l.values l.k
