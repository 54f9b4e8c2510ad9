-- The last line of a report, as it is read.
use Rattle.std.specs.Prelude.{◌≡◌, ℕ, ◌==◌, ◌&&◌, Bool, if◌then◌else◌, List, [], ◌∷◌, ◌++◌, fold, length}
use Rattle.block_machine.specs.declared.turn.Turn.{Turn}
use Rattle.report_text.specs.declared.counts.Counts.{Counts}
use Rattle.report_text.specs.declared.summary.Summary.{Summary}
use Rattle.report_text.specs.Reading.{AreCounts}
use Rattle.report_text.specs.Summary.{summary_text, tally_of}

-- the line so far, behind one more byte: LF begins the next
abbrev pub line_behind : List ℕ → ℕ → List ℕ
line_behind line b = if b == 10 then [] else line ++ b ∷ []

-- what stands behind the last LF of a text
abbrev pub last_line : List ℕ → List ℕ
last_line text = fold line_behind [] text

-- the numbers of a summary
abbrev pub counts_in : Summary → Counts
counts_in s = record {
  turns = s.turns;
  commands = s.commands;
  good = s.good;
  check = s.check;
  full = s.full;
  aborted = s.aborted;
  cut = s.cut;
  strays = s.strays;
}

-- the last line of a text, ended by LF, is the summary with these numbers, of 64 bits
pub record EndsInSummary (text : List ℕ) (s : Summary) : Type 0 where
  pub lines : List ℕ
  pub ended : text ≡ lines ++ 10 ∷ []
  pub line : last_line lines ≡ summary_text (counts_in s)
  pub fit : AreCounts (counts_in s)

-- the numbers of a summary, but for the strays, are those of turns
abbrev pub sums_up : Summary → List Turn → Bool
sums_up s turns = s.turns == length turns && s.commands == (tally_of turns).commands && s.good == (tally_of turns).good
    && s.check == (tally_of turns).check && s.full == (tally_of turns).full && s.aborted == (tally_of turns).aborted
    && s.cut == (tally_of turns).cut
