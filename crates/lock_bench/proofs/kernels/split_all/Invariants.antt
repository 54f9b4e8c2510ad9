use Rattle.std.proofs.Common.{◌≡◌, ◌+◌}
use Rattle.std.specs.Prelude.{All}
use Rattle.turn_lock.specs.Pass.{Belongs}
use Rattle.lock_bench.proofs.kernels.split_all.Given as goal

abbrev pub invariant-loop : goal.invariant-loop
invariant-loop g l = record { belongs : Belongs l.lock l.pass; parts : l.pass.parts + l.counter ≡ l.initial.pass.parts; all : All (Belongs l.lock) l.all.items }
