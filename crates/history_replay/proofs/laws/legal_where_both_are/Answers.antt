use Rattle.history_replay.proofs.Both.{legal-both}
use Rattle.history_replay.proofs.laws.legal_where_both_are.Goals as goal

pub returns : goal.returns
returns c = legal-both
