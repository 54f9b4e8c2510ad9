-- The turns come to those that are left, from a state to which the monitor has followed them.
use Rattle.std.proofs.Common.{drop}
use Rattle.block_machine.specs.State.{state_at_start}
use Rattle.history_replay.proofs.TurnsTaken.{FollowsAt}
use Rattle.history_replay.proofs.history.replay_from.Given as goal

abbrev pub invariant-loop-index : goal.invariant-loop-index
invariant-loop-index l = FollowsAt l.capacity l.monitor (state_at_start l.fn.waiting) l.turns (drop l.index l.turns) l.index
