use Rattle.rs_sector.proofs.Reach.{one_near, one_near_erased}
use Rattle.rs_sector.proofs.law.words_have_one_codeword_in_reach.Goals as goal

pub returns-clause-near : goal.returns-clause-near
returns-clause-near c = one_near

pub returns-clause-near_erased : goal.returns-clause-near_erased
returns-clause-near_erased c = one_near_erased
