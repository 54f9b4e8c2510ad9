use Rattle.history_replay.proofs.Both.{legal-leaves}
use Rattle.history_replay.proofs.laws.histories_leave_these_blocks.Goals as goal

pub returns : goal.returns
returns c = legal-leaves
