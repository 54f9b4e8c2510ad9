use Rattle.std.proofs.Common.{◌≡◌, ℕ, ◌<◌, length, get_or}
use Rattle.rs_sector.specs.Code.{point}
use Rattle.rs_sector.proofs.decode.points_at.Given as goal

abbrev pub invariant-loop-i : goal.invariant-loop-i
invariant-loop-i l = (length l.points ≡ 16) × ((i : ℕ) → i < l.i → get_or l.points i 0 ≡ point (get_or l.places.list i 0))
