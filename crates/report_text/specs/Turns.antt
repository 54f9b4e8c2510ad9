-- The line of a turn.
use Rattle.std.specs.Prelude.{ℕ, ◌+◌, ◌-◌, List, [], ◌∷◌, ◌++◌, codes, decimal, take, drop}
use Rattle.std.specs.List.{flat_map}
use Rattle.block_machine.specs.declared.entry.Entry.{Entry}
use Rattle.block_machine.specs.declared.turn.Label.{Label}
use Rattle.block_machine.specs.declared.turn.Label.TheVariants.{Arrive, Work, Job, Scan, Destage, World}
use Rattle.block_machine.specs.declared.turn.Turn.{Turn}
use Rattle.text_words.specs.Line.{spaced}
use Rattle.script_text.specs.Spelling.{world_words}
use Rattle.report_text.specs.declared.shown.Shown.{Shown}
use Rattle.report_text.specs.Operations.{shown_words}
use Rattle.report_text.specs.Entries.{entry_words}

-- a label
abbrev pub label_words : Label → List (List ℕ)
label_words (Arrive i) = codes "arrive" ∷ decimal i ∷ []
label_words (Work c) = codes "work" ∷ decimal c ∷ []
label_words (Job j) = codes "job" ∷ decimal j ∷ []
label_words Scan = codes "scan" ∷ []
label_words Destage = codes "destage" ∷ []
label_words (World event) = world_words event

-- an operation behind its mark
abbrev pub marked_operation : Shown → List (List ℕ)
marked_operation s = codes "<" ∷ shown_words s

abbrev pub operation_words : List Shown → List (List ℕ)
operation_words shown = flat_map marked_operation shown

-- an entry behind its mark
abbrev pub marked_entry : Entry → List (List ℕ)
marked_entry e = codes ">" ∷ entry_words e

abbrev pub entries_words : List Entry → List (List ℕ)
entries_words entries = flat_map marked_entry entries

-- the line of the turn of a number, without its end
abbrev pub turn_text : ℕ → Label → List Shown → List Entry → List ℕ
turn_text n label shown entries = spaced (decimal n) (label_words label ++ (operation_words shown ++ entries_words entries))

-- a turn's part of a list with a place for each operation
abbrev pub part_of : {A : Type 0} → List A → Turn → List A
part_of ops turn = take (turn.ops_to - turn.ops_from) (drop turn.ops_from ops)

-- the lines of turns that are numbered from n, of what is shown of all operations
abbrev pub turn_lines : ℕ → List Shown → List Turn → List ℕ
turn_lines n shown [] = []
turn_lines n shown (turn ∷ turns) =
    turn_text n turn.label (part_of shown turn) turn.entries ++ 10 ∷ turn_lines (n + 1) shown turns
