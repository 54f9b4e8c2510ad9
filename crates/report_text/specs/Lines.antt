-- Which text is the line of which turn.
use Rattle.std.specs.Prelude.{◌≡◌, ◌≢◌, ℕ, ◌+◌, List, [], ◌∷◌, ◌++◌, codes, length, All, fold, Result, Ok, Err}
use Rattle.disk_base.specs.Along.{Along}
use Rattle.block_machine.specs.declared.entry.Entry.{Entry}
use Rattle.block_machine.specs.declared.turn.Turn.{Turn}
use Rattle.report_text.specs.declared.fault.LineFault.{LineFault}
use Rattle.report_text.specs.declared.fault.LineFault.TheVariants.{NoMemory, Unreadable}
use Rattle.report_text.specs.declared.shown.Shown.{Shown}
use Rattle.report_text.specs.Findings.{minutes_after}
use Rattle.report_text.specs.Proper.{IsShown, IsEntry, IsLabel}
use Rattle.report_text.specs.Turns.{operation_words, entries_words, turn_text}
use Rattle.report_text.specs.Marks.{before_mark, from_mark}

-- something is read of which this holds, unless memory ran out
abbrev pub IsFound : {A : Type 0} → Result A LineFault → (A → Type 0) → Type 0
IsFound (Ok x) P = P x
IsFound (Err NoMemory) P = Unit {0}
IsFound (Err Unreadable) P = ⊥

-- the minutes since the power came on, behind entries
abbrev pub minutes_behind : ℕ → List Entry → ℕ
minutes_behind minutes entries = fold minutes_after minutes entries

-- entries that may follow each other, so many minutes after the power came on
abbrev pub AreEntries : ℕ → List Entry → Type 0
AreEntries minutes entries = Along minutes_after IsEntry minutes entries

-- operations that are shown
abbrev pub AreShown : List Shown → Type 0
AreShown shown = All IsShown shown

-- words are these operations, and then others that begin neither unmarked nor with an operation
pub record IsSplit (words : List (List ℕ)) (shown : List Shown) (more : List (List ℕ)) : Type 0 where
  pub proper : AreShown shown
  pub whole : words ≡ operation_words shown ++ more
  pub marked : before_mark more ≡ []
  pub here : from_mark more ≡ more
  pub past : (rest : List (List ℕ)) → more ≢ codes "<" ∷ rest

-- words are these entries, so many minutes after the power came on
pub record IsListed (minutes : ℕ) (words : List (List ℕ)) (entries : List Entry) : Type 0 where
  pub proper : AreEntries minutes entries
  pub whole : words ≡ entries_words entries

-- a line is that of a turn of this number, with these operations shown, where so many were shown before
pub record IsLineOf (n from : ℕ) (line : List ℕ) (turn : Turn) (shown : List Shown) : Type 0 where
  pub begins : turn.ops_from ≡ from
  pub ends : turn.ops_to ≡ from + length shown
  pub text : line ≡ turn_text n turn.label shown turn.entries

-- a turn that a report may show, so many minutes after the power came on
pub record IsTurn (minutes : ℕ) (turn : Turn) (shown : List Shown) : Type 0 where
  pub label : IsLabel turn.label
  pub operations : AreShown shown
  pub entries : AreEntries minutes turn.entries
