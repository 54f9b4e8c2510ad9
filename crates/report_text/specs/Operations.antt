-- The text of an operation of the platter.
use Rattle.std.specs.Prelude.{ℕ, List, [], ◌∷◌, codes, decimal, Bool, true, false, is_some}
use Rattle.std.specs.Fmt.{signed_decimal}
use Rattle.platter_model.specs.declared.op.Op.{Op}
use Rattle.platter_model.specs.declared.op.Op.TheVariants.{Wrote, Torn, WriteFailed, Damaged, Faulty, Fetched, Tried, Cut, Power}
use Rattle.script_text.specs.Spelling.{left_word}
use Rattle.report_text.specs.declared.shown.Shown.{Shown}
use Rattle.report_text.specs.declared.shown.Shown.TheVariants.{Wrote as WroteAt, Torn as TornAt, WriteFailed as FailedAt, Damaged as DamagedAt, Faulty as FaultyAt, Fetched as FetchedAt, Tried as TriedAt, Cut as CutOff, Power as PowerOn}

-- what a report shows of an operation
abbrev pub shown_of : Op → Shown
shown_of (Wrote payload) = WroteAt payload.psn
shown_of (Torn payload tear) = TornAt payload.psn tear.left
shown_of (WriteFailed p) = FailedAt p
shown_of (Damaged damage) = DamagedAt damage.p
shown_of (Faulty p) = FaultyAt p
shown_of (Fetched p attempt) = FetchedAt p attempt
shown_of (Tried at p stage found) = TriedAt p stage.number (is_some found)
shown_of Cut = CutOff
shown_of Power = PowerOn

abbrev pub found_word : Bool → List ℕ
found_word true = codes "found"
found_word false = codes "none"

-- an operation
abbrev pub shown_words : Shown → List (List ℕ)
shown_words (WroteAt p) = codes "wrote" ∷ decimal p.0 ∷ []
shown_words (TornAt p left) = codes "torn" ∷ decimal p.0 ∷ left_word left ∷ []
shown_words (FailedAt p) = codes "failed" ∷ decimal p.0 ∷ []
shown_words (DamagedAt p) = codes "damaged" ∷ decimal p.0 ∷ []
shown_words (FaultyAt p) = codes "faulty" ∷ decimal p.0 ∷ []
shown_words (FetchedAt p attempt) = codes "fetch" ∷ decimal p.0 ∷ decimal attempt.reread ∷ signed_decimal attempt.offset ∷ []
shown_words (TriedAt p stage found) = codes "tried" ∷ decimal p.0 ∷ decimal stage ∷ found_word found ∷ []
shown_words CutOff = codes "cut" ∷ []
shown_words PowerOn = codes "power" ∷ []
