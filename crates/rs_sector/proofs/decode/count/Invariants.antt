use Rattle.std.proofs.Common.{◌≡◌, ◌≤◌}
use Rattle.rs_sector.specs.Code.{count_below}
use Rattle.rs_sector.specs.Decoding.{is_marked}
use Rattle.rs_sector.proofs.decode.count.Given as goal

abbrev pub invariant-loop-marked : goal.invariant-loop-marked
invariant-loop-marked l = (l.count ≡ count_below (is_marked l.marks) l.marked-index) × (l.count ≤ l.marked-index)
