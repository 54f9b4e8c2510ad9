use Rattle.rll_code.proofs.Halves.{reading_half}
use Rattle.rll_code.proofs.laws.reading_is_half_as_long.Goals as goal

pub returns : goal.returns
returns c = reading_half
