use Rattle.history_laws.proofs.UnreadLaw as laws
use Rattle.history_laws.proofs.laws.unread_ends_follow_bad_gets.Goals as goal

pub returns : goal.returns
returns c = laws.unread_ends_follow_bad_gets
