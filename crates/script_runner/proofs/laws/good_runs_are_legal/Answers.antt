use Rattle.script_runner.proofs.RunLaws.{runs_are_legal, runs_are_task_legal}
use Rattle.script_runner.proofs.laws.good_runs_are_legal.Goals as goal

pub returns : goal.returns
returns c = record { blocks = runs_are_legal; commands = runs_are_task_legal }
