-- What the entries so far say, with those to come, is what all say.
use Rattle.std.proofs.Common.{◌≡◌, drop}
use Rattle.std.specs.Prelude.{fold}
use Rattle.history_checker.specs.Walk.{event_after, event_of}
use Rattle.history_checker.proofs.power.PowerEvent.of.Given as goal

abbrev pub invariant-loop-entry : goal.invariant-loop-entry
invariant-loop-entry l = fold event_after l.event (drop l.entry-index l.entries) ≡ event_of l.entries
