-- its turns follow each other, and fit
use Rattle.script_runner.proofs.Reports.{reports_tell}
use Rattle.script_runner.proofs.laws.reports_tell_their_runs.Goals as goal

pub returns : goal.returns
returns c = reports_tell c.reports_read_again.ensures
