use Rattle.run_picture.proofs.MarkLaws.{spans_opened}
use Rattle.run_picture.proofs.laws.spans_are_opened.Goals as goal

pub returns : goal.returns
returns c = spans_opened
