-- the entries so far are written
use Rattle.std.proofs.Common.{ℕ, List, take}
use Rattle.text_words.specs.Line.{spaced}
use Rattle.report_text.specs.Turns.{entries_words}
use Rattle.report_text.proofs.turn.put_entries.Given as goal

abbrev pub invariant-loop-entry : goal.invariant-loop-entry
invariant-loop-entry g l = (start : _) (text : List ℕ) → g.O.Out.written start text l.fn.out
    → g.O.Out.written start (spaced text (entries_words (take l.entry-index l.entries))) l.out
