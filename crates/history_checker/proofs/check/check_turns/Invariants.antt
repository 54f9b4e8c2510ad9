-- The turns so far have come, and what is kept stands for what they have come to.
use Rattle.history_checker.specs.Parts.{capacity_of}
use Rattle.history_checker.proofs.Verdicts.{Stands}
use Rattle.history_checker.proofs.check.check_turns.Given as goal

abbrev pub invariant-loop-index : goal.invariant-loop-index
invariant-loop-index l = Stands (capacity_of l.script) l.lines l.monitor l.walk l.turns l.index
