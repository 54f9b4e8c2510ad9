use Rattle.std.proofs.Common.{◌≡◌, ◌≤◌, ◌&&◌, not}
use Rattle.rs_sector.specs.Code.{count_below, differs_at}
use Rattle.rs_sector.specs.Decoding.{is_marked}
use Rattle.rs_sector.proofs.decoders.wrong_places.Given as goal

abbrev pub invariant-loop-k : goal.invariant-loop-k
invariant-loop-k l = (l.count ≡ count_below (λ k. differs_at l.a l.b k && not (is_marked l.erased k)) l.k) × (l.count ≤ l.k)
