use Rattle.turn_lock.specs.Pass.{Belongs}
use Rattle.lock_bench.proofs.kernels.make.Given as goal

abbrev pub invariant-loop-k : goal.invariant-loop-k
invariant-loop-k g l = Belongs l.lock l.pass
