use Rattle.std.proofs.Common.{◌≡◌, ◌≤◌, ap, arith}
use Rattle.platter_model.proofs.Logs.{log_tears, off_tears, strays_tear, long_moves}
use Rattle.platter_model.proofs.platter.Platter.tear.Goals as goal

pub invariant_of-self : goal.invariant_of-self
invariant_of-self c =
    let long = long_moves _ _ _ c.add.ensures.ops in
    let longer = long_moves _ _ _ c.add-2.ensures.ops in
    let ops_are : c.self.inside.kept.ops.items ≡ c.args.self.now.ops = ap (λ x. x.ops) c.self.view_is in
    let room : 2 ≤ c.self.inside.room = omega (arith, ap (λ x. x.room) c.self.view_is) in
    record {
      kept = c.add-2.ensures.kept;
      log = log_tears c.args.self.now.ops c.self.inside.kept.ops.items _ _ _ _ c.args.p ops_are c.add.ensures.ops c.add-2.ensures.ops c.self.invariant.log c.requires.on c.requires.own c.requires.sound;
      off = off_tears _ _ c.add-2.ensures.ops;
      counted = strays_tear _ _ _ _ _ _ c.add.ensures.ops c.add-2.ensures.ops c.self.invariant.counted;
      armed = tt;
      free = c.self.invariant.free;
      ops_room = omega (arith, long, longer, c.self.invariant.ops_room, c.add.ensures.capacity, c.add-2.ensures.capacity);
      links_room = omega (arith, long, longer, c.self.invariant.links_room, c.add.ensures.links_capacity, c.add-2.ensures.links_capacity);
      order_room = omega (arith, long, longer, c.self.invariant.order_room);
    }
