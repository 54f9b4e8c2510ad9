-- the first of the initiator's queue is taken, and the others are as they were
use Rattle.std.proofs.Common.{◌<◌, length, arith}
use Rattle.script_runner.proofs.Places.{taken}
use Rattle.script_runner.proofs.queues.Queues.take.Goals as goal

pub returns : goal.returns
returns c =
    let within : c.place.result < length c.self.inside.queues.items = omega arith in
    rw (← c.self.view_is) (taken (λ q. q.items) c.self.inside.queues.items c.place.result c.index_mut.result.now c.pop_front.new.self c.args.initiator c.pop_front.result within c.place.ensures.value c.index_mut.ensures.value c.pop_front.ensures.items c.pop_front.ensures.rest)
