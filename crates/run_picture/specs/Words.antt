-- The words of events, as a report spells them.
use Rattle.std.specs.Prelude.{ℕ, List, [], ◌∷◌, codes, decimal}
use Rattle.text_words.specs.Digits.{byte_word}
use Rattle.report_text.specs.Entries.{who_word}
use Rattle.report_text.specs.Turns.{label_words}
use Rattle.run_picture.specs.declared.event.Event.{Event}
use Rattle.run_picture.specs.declared.event.Event.TheVariants.{Labelled, Came, Began, Answered, Gone, Got, Missed, Wrote, Hardened, GivenUp, FoundClean, Gave, Requested, ModeChanged, Visited, Noted, PowerOff, PowerOn, Waited, Emptied, Filled}
use Rattle.run_picture.specs.declared.spans.Subject.{Subject}
use Rattle.run_picture.specs.declared.spans.Subject.TheVariants.{Command, Dirty, Dark}

-- the words of a turn's label, or those that an entry begins with
abbrev pub event_words : Event → List (List ℕ)
event_words (Labelled label) = label_words label
event_words (Came c i) = codes "in" ∷ decimal c ∷ decimal i ∷ []
event_words (Began c) = codes "start" ∷ decimal c ∷ []
event_words (Answered c status) = codes "end" ∷ decimal c ∷ byte_word status ∷ []
event_words (Gone c) = codes "gone" ∷ decimal c ∷ []
event_words (Got c b) = codes "get" ∷ decimal c ∷ decimal b.0 ∷ []
event_words (Missed c b) = codes "get" ∷ decimal c ∷ decimal b.0 ∷ codes "bad" ∷ []
event_words (Wrote c b) = codes "put" ∷ decimal c ∷ decimal b.0 ∷ []
event_words (Hardened who b) = codes "hard" ∷ who_word who ∷ decimal b.0 ∷ []
event_words (GivenUp b) = codes "lose" ∷ decimal b.0 ∷ []
event_words (FoundClean c from to) = codes "pass" ∷ decimal c ∷ decimal from.0 ∷ decimal to.0 ∷ []
event_words (Gave c) = codes "page" ∷ decimal c ∷ []
event_words (Requested i) = codes "func" ∷ decimal i ∷ []
event_words ModeChanged = codes "mode" ∷ []
event_words (Visited b) = codes "scanned" ∷ decimal b.0 ∷ []
event_words (Noted status b) = codes "logged" ∷ decimal status ∷ decimal b.0 ∷ []
event_words PowerOff = codes "cut" ∷ []
event_words PowerOn = codes "on" ∷ []
event_words Waited = codes "tick" ∷ []
event_words (Emptied c) = codes "blank" ∷ decimal c ∷ []
event_words (Filled c) = codes "fresh" ∷ decimal c ∷ []

-- the words of what a span is about
abbrev pub subject_words : Subject → List (List ℕ)
subject_words (Command c i) = codes "in" ∷ decimal c ∷ decimal i ∷ []
subject_words (Dirty b) = codes "dirty" ∷ decimal b.0 ∷ []
subject_words Dark = codes "cut" ∷ []
