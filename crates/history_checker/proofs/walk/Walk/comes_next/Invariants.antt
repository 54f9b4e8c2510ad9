-- No arrival stands among the entries so far.
use Rattle.std.proofs.Common.{◌≡◌, drop}
use Rattle.std.specs.Prelude.{find}
use Rattle.history_checker.specs.Walk.{is_arrival}
use Rattle.history_checker.proofs.walk.Walk.comes_next.Given as goal

abbrev pub invariant-loop-entry : goal.invariant-loop-entry
invariant-loop-entry l = find is_arrival (drop l.entry-index l.entries) ≡ find is_arrival l.entries
