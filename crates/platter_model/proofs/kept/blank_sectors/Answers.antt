use Rattle.std.proofs.Common.{rules}
use Rattle.platter_model.proofs.Beside.{blank_more}
use Rattle.platter_model.proofs.kept.blank_sectors.Goals as goal

pub loop-preserved : goal.loop-preserved
loop-preserved c = record {
  room = search rules;
  long = search rules;
  are_blank = blank_more _ _ _ c.push_reserved.ensures.items c.loop.invariant.are_blank c.blank.ensures;
}
