-- The members left are those that the entries left end.
use Rattle.block_machine.specs.Turns.{named_by}
use Rattle.task_set.specs.Members.{is_named}
use Rattle.history_replay.proofs.Aborting.{AbortsTo}
use Rattle.history_replay.proofs.arrival.are_all_aborted.Given as goal

abbrev pub invariant-loop-member : goal.invariant-loop-member
invariant-loop-member l = AbortsTo (is_named (named_by l.i l.what)) l.members l.entries l.member-index l.ended
