use Rattle.std.proofs.Common.{rules}
use Rattle.platter_model.proofs.Sectors.{tear_one}
use Rattle.platter_model.proofs.kept.tear.Goals as goal

pub returns-clause-kept : goal.returns-clause-kept
returns-clause-kept c = tear_one _ _ _ _ _ _ _ (search rules) c.requires.within c.index_mut.ensures.value c.requires.kept c.tear.ensures.left c.tear.ensures.rest
