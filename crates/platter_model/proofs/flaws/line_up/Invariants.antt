use Rattle.std.proofs.Common.{◌≡◌}
use Rattle.std.specs.Vec.{vec_capacity}
use Rattle.platter_model.specs.Places.{reach}
use Rattle.platter_model.proofs.Lined.{IsLinedUp}
use Rattle.platter_model.proofs.flaws.line_up.Given as goal

abbrev pub invariant-loop-next : goal.invariant-loop-next
invariant-loop-next l = record { lined : IsLinedUp l.fn.p l.kept.ops.items l.next l.order.items; capacity : vec_capacity l.order ≡ vec_capacity l.initial.order }

abbrev pub decreases-loop-next : goal.decreases-loop-next
decreases-loop-next l = reach l.next
