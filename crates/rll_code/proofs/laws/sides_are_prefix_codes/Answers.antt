use Rattle.rll_code.proofs.Codes.{complete}
use Rattle.rll_code.proofs.laws.sides_are_prefix_codes.Goals as goal

pub returns-clause-left_complete : goal.returns-clause-left_complete
returns-clause-left_complete c = complete
