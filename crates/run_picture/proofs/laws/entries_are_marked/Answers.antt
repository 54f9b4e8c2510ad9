use Rattle.run_picture.proofs.MarkLaws.{entries_marked}
use Rattle.run_picture.proofs.laws.entries_are_marked.Goals as goal

pub returns : goal.returns
returns c = entries_marked
