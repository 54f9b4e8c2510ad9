use Rattle.platter_model.proofs.platter.Platter.damage.Goals as goal

pub add-requires-clause-may : goal.add-requires-clause-may
add-requires-clause-may c = λ log. log.whole

pub add-requires-clause-whole : goal.add-requires-clause-whole
add-requires-clause-whole c = λ log. log.whole
