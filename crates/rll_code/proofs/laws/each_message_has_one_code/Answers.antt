use Rattle.rll_code.proofs.Codes.{some_code, one_code, length-code}
use Rattle.rll_code.proofs.laws.each_message_has_one_code.Goals as goal

pub returns-clause-some : goal.returns-clause-some
returns-clause-some c = some_code

pub returns-clause-one : goal.returns-clause-one
returns-clause-one c = one_code

pub returns-clause-long : goal.returns-clause-long
returns-clause-long c = length-code
