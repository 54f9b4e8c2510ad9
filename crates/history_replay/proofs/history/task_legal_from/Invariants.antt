-- The turns come to those that are left, from a state for which stands what is kept.
use Rattle.std.proofs.Common.{◌≡◌, drop}
use Rattle.block_machine.specs.State.{state_at_start}
use Rattle.history_replay.proofs.Taking.{StandsAt}
use Rattle.history_replay.proofs.TurnsTaken.{TasksComeTo}
use Rattle.history_replay.proofs.history.task_legal_from.Given as goal

abbrev pub invariant-loop-turn : goal.invariant-loop-turn
invariant-loop-turn l =
    (l.kept.known.capacity ≡ l.capacity)
    × StandsAt l.capacity l.kept (λ g. TasksComeTo l.capacity (state_at_start l.fn.waiting) l.turns g (drop l.turn-index l.turns))
