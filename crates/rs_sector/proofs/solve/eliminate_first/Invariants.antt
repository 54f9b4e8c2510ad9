use Rattle.rs_sector.proofs.Solving.{EliminatedBelow}
use Rattle.rs_sector.proofs.solve.eliminate_first.Given as goal

abbrev pub invariant-loop-j : goal.invariant-loop-j
invariant-loop-j l = EliminatedBelow l.point l.fn.sums l.sums l.before l.j
