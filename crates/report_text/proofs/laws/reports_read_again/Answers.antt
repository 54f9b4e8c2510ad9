use Rattle.report_text.proofs.ReportLaw.{report_again}
use Rattle.report_text.proofs.laws.reports_read_again.Goals as goal

pub returns : goal.returns
returns c = report_again
