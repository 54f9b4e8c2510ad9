use Rattle.std.proofs.Common.{◌≤◌, length, ap, ◌∙◌, arith}
use Rattle.platter_model.proofs.Lists.{item_got}
use Rattle.platter_model.proofs.Lined.{apply_step, apply_none}
use Rattle.platter_model.proofs.flaws.apply.Goals as goal

pub strike-requires : goal.strike-requires
strike-requires c = (
  length c.args.kept.now.sectors.items,
  c.requires.kept.within c.in-Some.k c.in-Some-get.op.now
      (item_got _ _ _ _ c.deref.ensures.value c.in-Some-get.ensures.lookup.3.0 c.in-Some-get.ensures.lookup.1),
)

pub loop-k-preserved-in-Some-get : goal.loop-k-preserved-in-Some-get
loop-k-preserved-in-Some-get c = record {
  still = apply_step c.args.p c.args.written c.args.kept.now.ops.items c.args.attempt _ _ c.in-Some.k c.in-Some-get.op.now c.stands_since.result _ _ _ c.in-Some.ensures.items
      (item_got _ _ _ _ c.deref.ensures.value c.in-Some-get.ensures.lookup.3.0 c.in-Some-get.ensures.lookup.1) c.stands_since.ensures c.strike.ensures c.loop-k.invariant.still;
  capacity = c.pop.ensures.capacity ∙ c.loop-k.invariant.capacity;
}

pub loop-k-preserved : goal.loop-k-preserved
loop-k-preserved c =
    let past : length c.args.kept.now.ops.items ≤ c.in-Some.k = omega (arith, c.in_default-get.ensures.lookup.3, ap length c.deref.ensures.value) in
    record {
      still = apply_none c.args.p c.args.written c.args.kept.now.ops.items c.args.attempt _ _ c.in-Some.k _ _ c.in-Some.ensures.items past c.loop-k.invariant.still;
      capacity = c.pop.ensures.capacity ∙ c.loop-k.invariant.capacity;
    }
