use Rattle.std.proofs.Common.{◌≡◌, ℕ, ◌<◌, get_or}
use Rattle.rs_sector.specs.Pivots.{IsColumn}
use Rattle.rs_sector.proofs.locate.cleared.Given as goal

abbrev pub invariant-loop-row : goal.invariant-loop-row
invariant-loop-row l = IsColumn l.sums l.degree l.polynomial l.row_sums × ((j : ℕ) → j < l.row → get_or l.row_sums j 0 ≡ 0)
