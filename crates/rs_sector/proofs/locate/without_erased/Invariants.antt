use Rattle.rs_sector.proofs.Errors.{LeavesSums}
use Rattle.rs_sector.proofs.locate.without_erased.Given as goal

abbrev pub invariant-loop-k : goal.invariant-loop-k
invariant-loop-k l = LeavesSums l.sums l.erased l.rest l.k
