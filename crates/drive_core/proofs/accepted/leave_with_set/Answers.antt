use Rattle.std.proofs.Common.{rules}
use Rattle.std.specs.Option.{is_some}
use Rattle.task_set.specs.Members.{member_of}
use Rattle.history_replay.proofs.Retained.{filter-from_filtered}
use Rattle.drive_core.specs.declared.accepted.Accepted.{Accepted}
use Rattle.drive_core.proofs.accepted.leave_with_set.Goals as goal

pub returns : goal.returns
returns c = filter-from_filtered _ (λ (a : Accepted). is_some (member_of c.args.set.now a.c)) _ (λ x b g called. search rules) _ _ c.retain.ensures.filtered
