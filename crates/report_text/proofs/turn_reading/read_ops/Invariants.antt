-- what was read so far is written, and of words that are operations and others the rest is left
use Rattle.std.proofs.Common.{◌+◌, ◌≤◌, ℕ, List, length}
use Rattle.report_text.specs.declared.shown.Shown.{Shown}
use Rattle.report_text.specs.Marks.{words_in}
use Rattle.report_text.specs.Lines.{IsSplit}
use Rattle.report_text.proofs.ReadLemmas.{OperationsRead, OperationsSo}
use Rattle.report_text.proofs.turn_reading.read_ops.Given as goal

abbrev pub invariant-loop-behind : goal.invariant-loop-behind
invariant-loop-behind g l = record {
  few : l.count + length (words_in l.left) ≤ length (words_in l.fn.words);
  sound : OperationsSo g.O.Out.written l.fn.out l.out l.count;
  found : (shown : List Shown) (more : List (List ℕ)) → IsSplit (words_in l.fn.words) shown more → OperationsRead g.O.Out.written l.fn.out l.out l.count (words_in l.left) shown more;
}

abbrev pub decreases-loop-behind : goal.decreases-loop-behind
decreases-loop-behind g l = length (words_in l.left)
