-- the lines so far are written
use Rattle.std.proofs.Common.{ℕ, List, ◌++◌, map, take}
use Rattle.script_text.specs.Spelling.{line_words}
use Rattle.script_text.specs.Print.{text_of_lines}
use Rattle.script_text.proofs.printing.put_lines.Given as goal

abbrev pub invariant-loop-line : goal.invariant-loop-line
invariant-loop-line g l = (start : _) (text : List ℕ) → g.O.Out.written start text l.fn.out → g.O.Out.written start (text ++ text_of_lines (map line_words (take l.line-index l.lines))) l.out
