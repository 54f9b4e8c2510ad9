use Rattle.script_runner.proofs.RunLaws.{runs_begin_legally}
use Rattle.script_runner.proofs.laws.beginnings_are_legal.Goals as goal

pub returns : goal.returns
returns c = runs_begin_legally
