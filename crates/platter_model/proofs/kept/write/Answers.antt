use Rattle.std.proofs.Common.{rules}
use Rattle.platter_model.proofs.Sectors.{write_one}
use Rattle.platter_model.proofs.kept.write.Goals as goal

pub returns-clause-kept : goal.returns-clause-kept
returns-clause-kept c = write_one _ _ _ _ _ _ (search rules) c.requires.within c.index_mut.ensures.value c.requires.kept c.write.ensures.encoded c.write.ensures.rest
