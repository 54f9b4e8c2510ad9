use Rattle.rll_code.proofs.Ones.{code_followed, levels_allowed}
use Rattle.rll_code.proofs.laws.ones_of_a_code_stand_apart.Goals as goal

pub returns-clause-followed : goal.returns-clause-followed
returns-clause-followed c = code_followed

pub returns-clause-levels : goal.returns-clause-levels
returns-clause-levels c = λ bytes channel code. levels_allowed channel (code_followed bytes channel code)
