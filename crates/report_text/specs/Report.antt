-- The text of a report.
use Rattle.std.specs.Prelude.{ℕ, List, [], ◌∷◌, ◌++◌, map, drop}
use Rattle.platter_model.specs.declared.op.Op.{Op}
use Rattle.block_machine.specs.declared.turn.Turn.{Turn}
use Rattle.report_text.specs.declared.run.Form.{Form}
use Rattle.report_text.specs.declared.run.Form.TheVariants.{Whole, Brief}
use Rattle.report_text.specs.Operations.{shown_of}
use Rattle.report_text.specs.Turns.{turn_lines}
use Rattle.report_text.specs.Summary.{summary_text, counts_of}

-- the report of turns and of all operations, where the turns name theirs among those behind so many: in the whole form a line for
-- each turn and the summary, in the brief one the summary alone
abbrev pub report_of : Form → ℕ → List Turn → List Op → List ℕ
report_of Whole before turns ops = turn_lines 1 (map shown_of (drop before ops)) turns ++ (summary_text (counts_of turns ops) ++ 10 ∷ [])
report_of Brief before turns ops = summary_text (counts_of turns ops) ++ 10 ∷ []
