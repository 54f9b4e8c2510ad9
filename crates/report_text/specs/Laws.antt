-- What is printed of a run is the report of its turns.
use Rattle.std.specs.Prelude.{◌≡◌, ℕ, ◌≤◌, List, length, map, drop}
use Rattle.disk_base.specs.Along.{Along}
use Rattle.platter_model.specs.declared.op.Op.{Op}
use Rattle.block_machine.specs.declared.turn.Turn.{Turn}
use Rattle.report_text.specs.declared.run.Form.TheVariants.{Whole}
use Rattle.report_text.specs.declared.shown.Shown.{Shown}
use Rattle.report_text.specs.Operations.{shown_of}
use Rattle.report_text.specs.Turns.{part_of}
use Rattle.report_text.specs.Summary.{counts_of}
use Rattle.report_text.specs.Report.{report_of}
use Rattle.report_text.specs.Lines.{IsTurn, minutes_behind}
use Rattle.report_text.specs.Reading.{Place, first_place, place_after, IsReport, AreCounts}

-- a turn that a report may show, whose operations follow those before and are there
pub record MayFollow (shown : List Shown) (p : Place) (turn : Turn) : Type 0 where
  pub begins : turn.ops_from ≡ p.shown
  pub forward : p.shown ≤ turn.ops_to
  pub within : turn.ops_to ≤ length shown
  pub is_turn : IsTurn p.minutes turn (part_of shown turn)

-- turns whose operations follow each other without a gap, from the first on
abbrev pub MayBeReported : List Shown → List Turn → Type 0
MayBeReported shown turns = Along place_after (MayFollow shown) first_place turns

-- the labels, operations and entries of turns are ones that a report may show: their numbers are in the ranges of their types, findings
-- are what minutes, status and block give, and what happens from outside is a line that a script of some drive may have
abbrev pub AreShowable : List Shown → List Turn → Type 0
AreShowable shown turns = Along (λ minutes turn. minutes_behind minutes turn.entries) (λ minutes turn. IsTurn minutes turn (part_of shown turn)) 0 turns

-- the whole report of a run is the report of its turns, where they name their operations among those behind so many
abbrev pub ReportsReadAgain : Type 0
ReportsReadAgain = (turns : List Turn) (ops : List Op) (before : ℕ) → MayBeReported (map shown_of (drop before ops)) turns → AreCounts (counts_of turns ops)
    → IsReport (report_of Whole before turns ops) turns
