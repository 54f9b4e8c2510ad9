use Rattle.platter_model.proofs.Beside.{kept_moves}
use Rattle.platter_model.proofs.kept.Kept.add.Goals as goal

pub returns-clause-kept : goal.returns-clause-kept
returns-clause-kept c = kept_moves _ _ _ _ _ _ _ _ c.push_reserved.ensures.items c.push_reserved-2.ensures.items c.requires.kept c.link_of-link.ensures c.touch.ensures.kept c.touch.ensures.count c.requires.within
