-- Laws of pictures.
use Rattle.std.specs.Prelude.{◌≡◌, ℕ, List, [], ◌∷◌, ◌++◌, flat_map, map, option_to_list, if◌then◌else◌}
use Rattle.block_machine.specs.declared.entry.Entry.{Entry}
use Rattle.block_machine.specs.declared.turn.Turn.{Turn}
use Rattle.block_machine.specs.History.{entries_of}
use Rattle.report_text.specs.Entries.{entry_words}
use Rattle.run_picture.specs.declared.event.Event.{Event}
use Rattle.run_picture.specs.declared.spans.Subject.{Subject}
use Rattle.run_picture.specs.declared.marks.Mark.{Mark}
use Rattle.run_picture.specs.declared.marks.Mark.TheVariants.{At, Over}
use Rattle.run_picture.specs.Events.{event_of}
use Rattle.run_picture.specs.Spans.{opens}
use Rattle.run_picture.specs.Marks.{marks_of}
use Rattle.run_picture.specs.Frame.{is_label}
use Rattle.run_picture.specs.Words.{event_words}

-- the event of a mark at a turn, unless it is the turn's label
abbrev pub entry_marked : Mark → List Event
entry_marked (At p) = if is_label p.event then [] else p.event ∷ []
entry_marked (Over s) = []

-- what a mark over turns is about
abbrev pub subject_marked : Mark → List Subject
subject_marked (At p) = []
subject_marked (Over s) = s.subject ∷ []

-- each entry has one mark at a turn, in order
abbrev pub EntriesAreMarked : Type 0
EntriesAreMarked = (turns : List Turn) → flat_map entry_marked (marks_of turns) ≡ map event_of (entries_of turns)

-- each command that came, each put, each block given up and each cut has one mark over turns, in order, and nothing else has
abbrev pub SpansAreOpened : Type 0
SpansAreOpened = (turns : List Turn) → flat_map subject_marked (marks_of turns) ≡ flat_map (λ e. option_to_list (opens (event_of e))) (entries_of turns)

-- the words of a mark are the first of its entry's in the report
abbrev pub WordsAreTheReports : Type 0
WordsAreTheReports = (e : Entry) → (rest : List (List ℕ)) × (entry_words e ≡ event_words (event_of e) ++ rest)
