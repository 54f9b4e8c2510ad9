use Rattle.platter_model.proofs.Sectors.{fail_one}
use Rattle.platter_model.proofs.kept.fail.Goals as goal

pub returns-clause-kept : goal.returns-clause-kept
returns-clause-kept c = fail_one _ _ _ _ c.requires.within c.index_mut.ensures.value c.requires.kept
