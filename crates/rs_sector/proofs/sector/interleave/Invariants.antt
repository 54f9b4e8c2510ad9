use Rattle.std.proofs.Common.{◌≡◌, ℕ, ◌+◌, ◌*◌, ◌<◌, length, get_or}
use Rattle.rs_sector.proofs.sector.interleave.Given as goal

abbrev pub invariant-loop-k : goal.invariant-loop-k
invariant-loop-k g l = (length l.byte-items ≡ g.row.N) × ((j : ℕ) → j < l.k → get_or l.byte-items j 0 ≡ get_or l.bytes (4 * j + l.i) 0)
