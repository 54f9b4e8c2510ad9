-- Characters that XML reads as they stand.
use Rattle.std.specs.Prelude.{◌≡◌, ℕ, ◌==◌, ◌&&◌, Bool, true, not, List}
use Rattle.std.specs.List.{list_all}
use Rattle.block_machine.specs.declared.entry.Entry.{Entry}
use Rattle.block_machine.specs.declared.turn.Label.{Label}
use Rattle.report_text.specs.Proper.{IsEntry, IsLabel}
use Rattle.run_picture.specs.declared.event.Event.TheVariants.{Labelled}
use Rattle.run_picture.specs.Events.{event_of}
use Rattle.run_picture.specs.Words.{event_words}

-- neither `<` nor `>`, `&` or a quote (XML 1.0, 2.4)
abbrev pub is_harmless : ℕ → Bool
is_harmless b = not (b == 60) && not (b == 62) && not (b == 38) && not (b == 34) && not (b == 39)

-- words of such characters alone
abbrev pub are_harmless : List (List ℕ) → Bool
are_harmless words = list_all (λ word. list_all is_harmless word) words

-- the words of an entry have no other, where its numbers are in the ranges of their types
abbrev pub EntriesAreHarmless : Type 0
EntriesAreHarmless = (minutes : ℕ) (e : Entry) → IsEntry minutes e → are_harmless (event_words (event_of e)) ≡ true

-- nor have those of a label
abbrev pub LabelsAreHarmless : Type 0
LabelsAreHarmless = (label : Label) → IsLabel label → are_harmless (event_words (Labelled label)) ≡ true
