-- Which turns a report tells, and which of its lines is the first that is outside the format.
use Rattle.std.specs.Prelude.{◌≡◌, ◌≢◌, ℕ, ◌+◌, ◌^◌, ◌<◌, List, [], ◌∷◌, ◌++◌, length, fold, Result, Ok, Err}
use Rattle.block_machine.specs.declared.turn.Turn.{Turn}
use Rattle.report_text.specs.declared.counts.Counts.{Counts}
use Rattle.report_text.specs.declared.fault.ReportFault.{ReportFault}
use Rattle.report_text.specs.declared.fault.ReportFault.TheVariants.{NoMemory, Line}
use Rattle.report_text.specs.declared.shown.Shown.{Shown}
use Rattle.report_text.specs.Summary.{summary_text}
use Rattle.report_text.specs.Lines.{IsLineOf, IsTurn, minutes_behind}

-- where a report stands: the number of the next turn, the minutes since the power came on, and how many operations were shown
pub record Place : Type 0 where
  pub number : ℕ
  pub minutes : ℕ
  pub shown : ℕ

abbrev pub first_place : Place
first_place = record { number = 1; minutes = 0; shown = 0 }

abbrev pub place_after : Place → Turn → Place
place_after p turn = record { number = p.number + 1; minutes = minutes_behind p.minutes turn.entries; shown = turn.ops_to }

abbrev pub place_behind : List Turn → Place
place_behind turns = fold place_after first_place turns

-- a line is that of a turn that a report may show
abbrev pub IsLawful : Place → List ℕ → Turn → Type 0
IsLawful p line turn = (shown : List Shown) × IsTurn p.minutes turn shown × IsLineOf p.number p.shown line turn shown

-- a text is the lines of these turns, each ended by LF, and then this
abbrev pub AreLines : Place → List ℕ → List Turn → List ℕ → Type 0
AreLines p text [] rest = text ≡ rest
AreLines p text (turn ∷ turns) rest =
    (line : List ℕ) × (more : List ℕ) × (text ≡ line ++ 10 ∷ more) × IsLawful p line turn × AreLines (place_after p turn) more turns rest

-- the numbers of a summary that is read have 64 bits
pub record AreCounts (counts : Counts) : Type 0 where
  pub turns : counts.turns < 2 ^ 64
  pub commands : counts.commands < 2 ^ 64
  pub good : counts.good < 2 ^ 64
  pub check : counts.check < 2 ^ 64
  pub full : counts.full < 2 ^ 64
  pub aborted : counts.aborted < 2 ^ 64
  pub cut : counts.cut < 2 ^ 64
  pub strays : counts.strays < 2 ^ 64

-- a summary's line, with its end, and then this
abbrev pub IsSummary : List ℕ → List ℕ → Type 0
IsSummary text rest = (counts : Counts) × AreCounts counts × (text ≡ summary_text counts ++ 10 ∷ rest)

-- a text is the whole report of these turns
abbrev pub IsReport : List ℕ → List Turn → Type 0
IsReport text turns = (rest : List ℕ) × AreLines first_place text turns rest × IsSummary rest []

-- neither the line of a turn nor a summary stands first
pub record IsStuck (p : Place) (text : List ℕ) : Type 0 where
  pub no_turn : (line more : List ℕ) (turn : Turn) → text ≡ line ++ 10 ∷ more → IsLawful p line turn → ⊥
  pub no_summary : (more : List ℕ) → IsSummary text more → ⊥

-- this line, counted from 1, is the first that is outside the format: behind the lines of turns it is neither one more nor the
-- summary; or it is the one behind the summary
pub data IsFirstBad (text : List ℕ) (n : ℕ) : Type 0 where
  neither : (turns : List Turn) (rest : List ℕ) → AreLines first_place text turns rest → n ≡ length turns + 1 → IsStuck (place_behind turns) rest → IsFirstBad text n
  after_summary : (turns : List Turn) (rest more : List ℕ) → AreLines first_place text turns rest → n ≡ length turns + 2 → IsSummary rest more → more ≢ [] → IsFirstBad text n

-- these turns are read, unless memory ran out
abbrev pub AreRead : List Turn → Result (List Turn) ReportFault → Type 0
AreRead turns (Ok read) = read ≡ turns
AreRead turns (Err NoMemory) = Unit {0}
AreRead turns (Err (Line n)) = ⊥

-- where a line is refused, it is the first that is outside the format
abbrev pub IfLine : List ℕ → Result (List Turn) ReportFault → Type 0
IfLine text (Ok read) = Unit {0}
IfLine text (Err NoMemory) = Unit {0}
IfLine text (Err (Line n)) = IsFirstBad text n
