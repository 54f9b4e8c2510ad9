use Rattle.script_text.proofs.LineLaw.{line_again}
use Rattle.script_text.proofs.laws.lines_read_again.Goals as goal

pub returns : goal.returns
returns c = line_again
