use Rattle.std.proofs.Common.{◌≡◌, ℕ, ◌/◌, ◌%◌, ◌<◌, [], length, get_or}
use Rattle.rs_sector.proofs.sector.interleaved.Given as goal

abbrev pub invariant-loop-i : goal.invariant-loop-i
invariant-loop-i g l = (length l.byte-items ≡ g.row.M) × ((j : ℕ) → j < l.i → get_or l.byte-items j 0 ≡ get_or (get_or l.words (j % 4) []) (j / 4) 0)
