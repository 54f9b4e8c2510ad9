-- the operations so far are written
use Rattle.std.proofs.Common.{ℕ, List, take}
use Rattle.std.specs.List.{flat_map}
use Rattle.text_words.specs.Line.{spaced}
use Rattle.report_text.specs.Operations.{shown_of}
use Rattle.report_text.specs.Turns.{marked_operation}
use Rattle.report_text.proofs.turn.put_ops.Given as goal

abbrev pub invariant-loop-op : goal.invariant-loop-op
invariant-loop-op g l = (start : _) (text : List ℕ) → g.O.Out.written start text l.fn.out
    → g.O.Out.written start (spaced text (flat_map (λ op. marked_operation (shown_of op)) (take l.op-index l.ops))) l.out
