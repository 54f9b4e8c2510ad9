use Rattle.command_engine.proofs.Answering.{fewer}
use Rattle.command_engine.proofs.laws.the_answers_come_to_an_end.Goals as goal

pub returns : goal.returns
returns c = fewer
