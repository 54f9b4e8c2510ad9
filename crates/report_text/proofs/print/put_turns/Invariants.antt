-- the lines so far, with those to come, are all
use Rattle.std.proofs.Common.{◌≡◌, ◌+◌, ◌++◌, ℕ, List, drop, map}
use Rattle.report_text.specs.Operations.{shown_of}
use Rattle.report_text.specs.Turns.{turn_lines}
use Rattle.report_text.proofs.print.put_turns.Given as goal

abbrev pub invariant-loop-index : goal.invariant-loop-index
invariant-loop-index g l = (start : _) (text : List ℕ) → g.O.Out.written start text l.fn.out
    → (now : List ℕ) × g.O.Out.written start now l.out × (now ++ turn_lines (l.index + 1) (map shown_of l.ops) (drop l.index l.turns) ≡ text ++ turn_lines 1 (map shown_of l.ops) l.turns)
