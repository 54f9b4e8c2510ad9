use Rattle.std.proofs.Common.{◌≡◌, vec_len}
use Rattle.std.specs.Vec.{vec_capacity}
use Rattle.platter_model.specs.Given.{under}
use Rattle.platter_model.specs.Places.{gathered}
use Rattle.platter_model.proofs.flaws.apply.Given as goal

abbrev pub invariant-loop-k : goal.invariant-loop-k
invariant-loop-k l = record {
  still : under l.fn.attempt (gathered l.fn.p l.fn.written l.kept.ops.items l.order.items) l.out ≡ under l.fn.attempt (gathered l.fn.p l.fn.written l.kept.ops.items l.initial.order.items) l.initial.out;
  capacity : vec_capacity l.order ≡ vec_capacity l.initial.order;
}

abbrev pub decreases-loop-k : goal.decreases-loop-k
decreases-loop-k l = vec_len l.order
