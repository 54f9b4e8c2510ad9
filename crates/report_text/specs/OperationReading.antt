-- What the words of an operation are read as.
use Rattle.std.specs.Prelude.{ℕ, List, [], ◌∷◌, codes, Option, Some, None}
use Rattle.std.specs.Map.{lookup}
use Rattle.std.specs.Str.{bytes_eq}
use Rattle.disk_base.specs.declared.address.Psn.{Psn}
use Rattle.report_text.specs.declared.form.OperationForm.{OperationForm}
use Rattle.report_text.specs.declared.form.OperationForm.TheVariants.{Wrote as WroteForm, Torn as TornForm, WriteFailed as FailedForm, Damaged as DamagedForm, Faulty as FaultyForm, Fetched as FetchedForm, Tried as TriedForm, Cut as CutForm, Power as PowerForm}
use Rattle.report_text.specs.declared.shown.Shown.{Shown}
use Rattle.report_text.specs.declared.shown.Shown.TheVariants.{Wrote, Torn, WriteFailed, Damaged, Faulty, Fetched, Tried, Cut, Power}
use Rattle.report_text.specs.Steps.{◌>>=◌, of_none, of_one, of_three, of_two}
use Rattle.report_text.specs.Fields.{number_of, sector_of, signed_of, left_of}

-- the words that operations begin with, and their forms
abbrev pub operation_forms : List (List ℕ × OperationForm)
operation_forms =
    (codes "fetch", FetchedForm) ∷ (codes "tried", TriedForm) ∷ (codes "wrote", WroteForm)
    ∷ (codes "torn", TornForm) ∷ (codes "failed", FailedForm) ∷ (codes "damaged", DamagedForm)
    ∷ (codes "faulty", FaultyForm) ∷ (codes "cut", CutForm) ∷ (codes "power", PowerForm) ∷ []

-- the form of an operation, by its first word
unfoldable pub operation_form : List ℕ → Option OperationForm
operation_form first = lookup (bytes_eq first) operation_forms

-- any sector
abbrev pub place_of : List ℕ → Option Psn
place_of word = sector_of 0 4294967295 word

-- a sector alone
abbrev pub place_in : List (List ℕ) → Option Psn
place_in = of_one place_of

-- `P LEFT` behind `torn`
abbrev pub torn_words : List (List ℕ) → Option Shown
torn_words = of_two (λ p left. do
  place ← place_of p
  Some (Torn place (left_of left)))

-- `P REREAD OFFSET` behind `fetch`
abbrev pub fetched_words : List (List ℕ) → Option Shown
fetched_words = of_three (λ p reread offset. do
  place ← place_of p
  count ← number_of 0 255 reread
  beside ← signed_of 128 0 127 offset
  Some (Fetched place (record { reread = count; offset = beside })))

-- `P STAGE` and a word behind `tried`
abbrev pub tried_words : List (List ℕ) → Option Shown
tried_words = of_three (λ p stage found. do
  place ← place_of p
  number ← number_of 0 255 stage
  Some (Tried place number (bytes_eq found (codes "found"))))

-- the operation of a form that the words behind the first give
abbrev pub shown_by : OperationForm → List (List ℕ) → Option Shown
shown_by CutForm words = of_none Cut words
shown_by PowerForm words = of_none Power words
shown_by TornForm words = torn_words words
shown_by FetchedForm words = fetched_words words
shown_by TriedForm words = tried_words words
shown_by WroteForm words = do
  p ← place_in words
  Some (Wrote p)
shown_by FailedForm words = do
  p ← place_in words
  Some (WriteFailed p)
shown_by DamagedForm words = do
  p ← place_in words
  Some (Damaged p)
shown_by FaultyForm words = do
  p ← place_in words
  Some (Faulty p)

-- the operation that words give
abbrev pub shown_from : List (List ℕ) → Option Shown
shown_from [] = None
shown_from (first ∷ words) = do
  form ← operation_form first
  shown_by form words
