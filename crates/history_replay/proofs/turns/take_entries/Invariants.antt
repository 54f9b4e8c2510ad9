-- The entries come to those that are left, from a state for which stands what is kept.
use Rattle.std.proofs.Common.{◌≡◌, drop}
use Rattle.block_machine.specs.State.{State}
use Rattle.history_replay.specs.Kept.{Stands}
use Rattle.history_replay.proofs.Taking.{EntriesComeTo, StandsAt}
use Rattle.history_replay.proofs.turns.take_entries.Given as goal

abbrev pub invariant-loop-entry : goal.invariant-loop-entry
invariant-loop-entry l =
    (l.kept.known.capacity ≡ l.initial.kept.known.capacity)
    × ((s : State) → Stands l.initial.kept.known.capacity l.initial.kept s
    → StandsAt l.initial.kept.known.capacity l.kept (λ g. EntriesComeTo l.initial.kept.known.capacity l.label s l.entries g (drop l.entry-index l.entries)))
