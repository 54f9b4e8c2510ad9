use Rattle.std.proofs.Common.{◌≡◌, ◌-◌, ◌++◌, false, not, nat_eq, length, map, replicate, take}
use Rattle.script_runner.proofs.queues.Queues.have_something.Given as goal

abbrev pub invariant-loop-place : goal.invariant-loop-place
invariant-loop-place l = l.arrivals ≡ map (λ q. not (nat_eq (length q.items) 0)) (take l.place l.queue-items) ++ replicate (8 - l.place) false
