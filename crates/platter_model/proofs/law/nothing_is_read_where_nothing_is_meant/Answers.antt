use Rattle.platter_model.proofs.Silent.{nothing_is_read}
use Rattle.platter_model.proofs.law.nothing_is_read_where_nothing_is_meant.Goals as goal

pub returns : goal.returns
returns c = nothing_is_read c.zero_samples_read_as_nothing.ensures
