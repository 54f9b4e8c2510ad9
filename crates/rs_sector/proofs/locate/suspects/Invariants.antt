use Rattle.rs_sector.proofs.Suspects.{MarksBelow}
use Rattle.rs_sector.proofs.locate.suspects.Given as goal

abbrev pub invariant-loop-k : goal.invariant-loop-k
invariant-loop-k l = MarksBelow l.erased l.locator l.suspect-items l.k
