-- the lines of the sectors so far are written
use Rattle.std.proofs.Common.{ℕ, List, ◌++◌, map, take}
use Rattle.script_text.specs.Spelling.{primary_words}
use Rattle.script_text.specs.Print.{text_of_lines}
use Rattle.script_text.proofs.printing.put_primary_list.Given as goal

abbrev pub invariant-loop-p : goal.invariant-loop-p
invariant-loop-p g l = (start : _) (text : List ℕ) → g.O.Out.written start text l.fn.out → g.O.Out.written start (text ++ text_of_lines (map primary_words (take l.p-index l.sectors))) l.out
