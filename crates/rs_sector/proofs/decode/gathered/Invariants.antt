use Rattle.rs_sector.specs.Places.{ListsMarked}
use Rattle.rs_sector.proofs.decode.gathered.Given as goal

abbrev pub invariant-loop-k : goal.invariant-loop-k
invariant-loop-k l = ListsMarked l.marks l.k l.list l.count
