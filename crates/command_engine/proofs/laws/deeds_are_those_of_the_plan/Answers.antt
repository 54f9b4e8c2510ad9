use Rattle.command_engine.proofs.Answering.{beginning, ending}
use Rattle.command_engine.proofs.laws.deeds_are_those_of_the_plan.Goals as goal

pub returns-clause-beginning : goal.returns-clause-beginning
returns-clause-beginning c = beginning

pub returns-clause-end : goal.returns-clause-end
returns-clause-end c = ending
