use Rattle.move_jobs.proofs.ChainsGrow.{answers_keep}
use Rattle.move_jobs.proofs.laws.answers_keep_the_chain.Goals as goal

pub returns : goal.returns
returns c = answers_keep
