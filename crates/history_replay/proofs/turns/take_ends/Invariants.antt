-- The entries come to those that are left, from a state for which stands what is kept.
use Rattle.std.proofs.Common.{◌≡◌, drop}
use Rattle.block_machine.specs.State.{State}
use Rattle.history_replay.specs.Kept.{Stands}
use Rattle.history_replay.proofs.Taking.{EndsComeTo, StandsAt}
use Rattle.history_replay.proofs.turns.take_ends.Given as goal

abbrev pub invariant-loop-end : goal.invariant-loop-end
invariant-loop-end l =
    (l.kept.known.capacity ≡ l.initial.kept.known.capacity)
    × ((s : State) → Stands l.initial.kept.known.capacity l.initial.kept s
    → StandsAt l.initial.kept.known.capacity l.kept (λ g. EndsComeTo l.initial.kept.known.capacity l.label s l.ends g (drop l.end-index l.ends)))
