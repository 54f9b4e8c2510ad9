use Rattle.std.proofs.Common.{◌≡◌, ◌*◌}
use Rattle.rs_sector.specs.Lanes.{combination_of_first}
use Rattle.rs_sector.proofs.lanes.whole_fours.Given as goal

abbrev pub invariant-loop-k : goal.invariant-loop-k
invariant-loop-k l = l.sums ≡ combination_of_first l.bytes l.rows (4 * l.k)
