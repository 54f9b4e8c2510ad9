use Rattle.std.proofs.Common.{◌≡◌, map, replicate, vec_len, []}
use Rattle.script_runner.proofs.queues.Queues.new.Given as goal

abbrev pub invariant-loop-initiator : goal.invariant-loop-initiator
invariant-loop-initiator l = (vec_len l.queues ≡ l._initiator) × (map (λ q. q.items) l.queues.items ≡ replicate l._initiator [])
