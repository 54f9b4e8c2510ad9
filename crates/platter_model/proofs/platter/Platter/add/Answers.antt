use Rattle.std.proofs.Common.{◌≡◌, ◌≤◌, ap, arith}
use Rattle.platter_model.proofs.Logs.{off_moves, log_moves, strays_move, strays-le, long_moves, one_at_most}
use Rattle.platter_model.proofs.platter.Platter.add.Goals as goal

pub overflow_add-self : goal.overflow_add-self
overflow_add-self c = omega (arith, strays-le c.self.inside.kept.ops.items, c.self.invariant.counted, c.one_if.ensures, one_at_most c.args.stray, c.self.inside.kept.ops.small, c.self.inside.kept.ops.ok)

pub invariant_of-self : goal.invariant_of-self
invariant_of-self c =
    let long = long_moves _ _ c.args.op c.add.ensures.ops in
    let ops_are : c.self.inside.kept.ops.items ≡ c.args.self.now.ops = ap (λ x. x.ops) c.self.view_is in
    let room : 1 ≤ c.self.inside.room = omega (arith, ap (λ x. x.room) c.self.view_is) in
    record {
      kept = c.add.ensures.kept;
      log = log_moves c.args.self.now.ops c.self.inside.kept.ops.items _ c.args.op ops_are c.add.ensures.ops c.self.invariant.log c.requires.may c.requires.whole;
      off = off_moves _ _ c.args.op _ _ c.add.ensures.ops c.self.invariant.off c.is_off_after-self-inside.ensures;
      counted = strays_move c.args.self.now.ops c.self.inside.kept.ops.items _ c.args.op _ _ c.args.stray ops_are c.add.ensures.ops c.self.invariant.counted c.one_if.ensures c.requires.stray;
      armed = c.self.invariant.armed;
      free = c.self.invariant.free;
      ops_room = omega (arith, long, c.self.invariant.ops_room, c.add.ensures.capacity);
      links_room = omega (arith, long, c.self.invariant.links_room, c.add.ensures.links_capacity);
      order_room = omega (arith, long, c.self.invariant.order_room);
    }
