use Rattle.std.proofs.Common.{refl, ◌∙◌}
use Rattle.platter_model.proofs.Beside.{flaw_link}
use Rattle.platter_model.proofs.Lined.{lined_start, lined_smaller, lined_step}
use Rattle.platter_model.proofs.flaws.line_up.Goals as goal

pub loop-next-init : goal.loop-next-init
loop-next-init c = record {
  lined = lined_start c.args.p _ _ _ (flaw_link _ _ c.args.p _ c.requires.within c.index.ensures c.requires.kept.are_sectors) c.requires.free;
  capacity = refl;
}

pub loop-next-smaller : goal.loop-next-smaller
loop-next-smaller c = lined_smaller c.args.p _ _ _ _ c.in-Some.k _ _ c.requires.kept c.loop-next.invariant.lined c.in-Some.is c.index-next.ensures

pub loop-next-preserved : goal.loop-next-preserved
loop-next-preserved c = record {
  lined = lined_step c.args.p _ _ _ _ c.in-Some.k _ _ _ c.requires.kept c.loop-next.invariant.lined c.in-Some.is c.index-next.ensures c.push_reserved.ensures.items;
  capacity = c.push_reserved.ensures.capacity ∙ c.loop-next.invariant.capacity;
}
