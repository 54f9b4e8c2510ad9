use Rattle.script_text.proofs.ScriptLaw.{script_again}
use Rattle.script_text.proofs.laws.scripts_read_again.Goals as goal

pub returns : goal.returns
returns c = script_again
