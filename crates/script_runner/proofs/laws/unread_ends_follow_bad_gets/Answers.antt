use Rattle.history_laws.specs.Unread.{UnreadEndsFollowBadGets}
use Rattle.history_laws.proofs.UnreadLaw as histories
use Rattle.script_runner.proofs.RunLaws.{of_task_legal}
use Rattle.script_runner.proofs.UnreadEnds.{unread_ends_are_shown}
use Rattle.script_runner.proofs.laws.unread_ends_follow_bad_gets.Goals as goal

pub returns : goal.returns
returns c = record {
  got = of_task_legal UnreadEndsFollowBadGets histories.unread_ends_follow_bad_gets;
  shown = unread_ends_are_shown c.gets_are_shown.ensures.bad;
}
