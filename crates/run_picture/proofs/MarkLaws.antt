-- Which marks turns have.
use Rattle.std.proofs.Common.{◌≡◌, ℕ, ◌+◌, false, List, [], ◌∷◌, ◌++◌, map, length, refl, sym, ap, ◌∙◌, append-nil}
use Rattle.std.specs.Prelude.{Option, Some, None, option_to_list, if◌then◌else◌}
use Rattle.std.specs.List.{flat_map}
use Rattle.std.specs.Option.{option_map}
use Rattle.std.proofs.lemmas.Grind.{flat_map-append}
use Rattle.disk_base.specs.declared.block.Value.TheVariants.{Data, Lost}
use Rattle.block_machine.specs.declared.entry.Entry.{Entry}
use Rattle.block_machine.specs.declared.entry.Entry.TheVariants.{Arrived, Started, Get, Put, Harden, Passed, GiveUp, Page, Ended, Aborted, Asked, Mode, Scanned, Logged, Cut, PoweredOn, Tick, Blank, Fresh}
use Rattle.block_machine.specs.declared.turn.Turn.{Turn}
use Rattle.block_machine.specs.History.{entries_of}
use Rattle.run_picture.specs.declared.event.Event.{Event}
use Rattle.run_picture.specs.declared.points.Point.{Point}
use Rattle.run_picture.specs.declared.spans.Subject.{Subject}
use Rattle.run_picture.specs.declared.marks.Mark.TheVariants.{Over}
use Rattle.run_picture.specs.Events.{event_of}
use Rattle.run_picture.specs.Points.{entry_points, turn_points, points_from}
use Rattle.run_picture.specs.Spans.{opens, span_of}
use Rattle.run_picture.specs.Marks.{marks_at, marks_from}
use Rattle.run_picture.specs.Frame.{is_label}
use Rattle.run_picture.specs.Laws.{entry_marked, subject_marked, EntriesAreMarked, SpansAreOpened}

-- what a point opens
abbrev opened : Point → List Subject
opened p = option_to_list (opens p.event)

-- the event of a point that is no label
abbrev told : Point → List Event
told p = if is_label p.event then [] else p.event ∷ []

-- the marks over turns of one point
spans_at : (last turn : ℕ) (later : List Point) (o : Option Subject)
    → flat_map subject_marked (map Over (option_to_list (option_map (span_of last turn later) o))) ≡ option_to_list o
spans_at last turn later None = refl
spans_at last turn later (Some s) = refl

no_events_over : (last turn : ℕ) (later : List Point) (o : Option Subject)
    → flat_map entry_marked (map Over (option_to_list (option_map (span_of last turn later) o))) ≡ []
no_events_over last turn later None = refl
no_events_over last turn later (Some s) = refl

subjects_of_marks : (last : ℕ) (points : List Point) → flat_map subject_marked (marks_from last points) ≡ flat_map opened points
subjects_of_marks last [] = refl
subjects_of_marks last (p ∷ later) =
    flat_map-append subject_marked (marks_at last p later) (marks_from last later)
    ∙ (ap (λ xs. xs ++ flat_map subject_marked (marks_from last later)) (spans_at last p.turn later (opens p.event)) ∙ ap (λ xs. opened p ++ xs) (subjects_of_marks last later))

events_at : (last : ℕ) (p : Point) (later : List Point) → flat_map entry_marked (marks_at last p later) ≡ told p
events_at last p later = ap (λ xs. told p ++ xs) (no_events_over last p.turn later (opens p.event)) ∙ append-nil (told p)

events_of_marks : (last : ℕ) (points : List Point) → flat_map entry_marked (marks_from last points) ≡ flat_map told points
events_of_marks last [] = refl
events_of_marks last (p ∷ later) =
    flat_map-append entry_marked (marks_at last p later) (marks_from last later)
    ∙ (ap (λ xs. xs ++ flat_map entry_marked (marks_from last later)) (events_at last p later) ∙ ap (λ xs. told p ++ xs) (events_of_marks last later))

-- an entry is no label
pub no_label : (e : Entry) → is_label (event_of e) ≡ false
no_label (Arrived c i t a cdb sent) = refl
no_label (Started c) = refl
no_label (Get c b (Data block)) = refl
no_label (Get c b Lost) = refl
no_label (Put c b block) = refl
no_label (Harden who b) = refl
no_label (Passed c from to) = refl
no_label (GiveUp b) = refl
no_label (Page c bytes) = refl
no_label (Ended c reply) = refl
no_label (Aborted c) = refl
no_label (Asked i what) = refl
no_label (Mode settings) = refl
no_label (Scanned b what) = refl
no_label (Logged finding) = refl
no_label Cut = refl
no_label (PoweredOn outcome) = refl
no_label (Tick minutes) = refl
no_label (Blank c) = refl
no_label (Fresh c) = refl

told_of_entries : (n place : ℕ) (entries : List Entry) → flat_map told (entry_points n place entries) ≡ map event_of entries
told_of_entries n place [] = refl
told_of_entries n place (e ∷ entries) = rw (no_label e) (ap (λ xs. event_of e ∷ xs) (told_of_entries n (place + 1) entries))

opened_of_entries : (n place : ℕ) (entries : List Entry) → flat_map opened (entry_points n place entries) ≡ flat_map (λ e. option_to_list (opens (event_of e))) entries
opened_of_entries n place [] = refl
opened_of_entries n place (e ∷ entries) = ap (λ xs. option_to_list (opens (event_of e)) ++ xs) (opened_of_entries n (place + 1) entries)

map-append : (xs ys : List Entry) → map event_of (xs ++ ys) ≡ map event_of xs ++ map event_of ys
map-append [] ys = refl
map-append (x ∷ xs) ys = ap (λ es. event_of x ∷ es) (map-append xs ys)

told_of_turns : (n : ℕ) (turns : List Turn) → flat_map told (points_from n turns) ≡ map event_of (entries_of turns)
told_of_turns n [] = refl
told_of_turns n (turn ∷ turns) =
    flat_map-append told (turn_points n turn) (points_from (n + 1) turns)
    ∙ (ap (λ xs. xs ++ flat_map told (points_from (n + 1) turns)) (told_of_entries n 1 turn.entries)
    ∙ (ap (λ xs. map event_of turn.entries ++ xs) (told_of_turns (n + 1) turns) ∙ sym (map-append turn.entries (entries_of turns))))

opened_of_turns : (n : ℕ) (turns : List Turn) → flat_map opened (points_from n turns) ≡ flat_map (λ e. option_to_list (opens (event_of e))) (entries_of turns)
opened_of_turns n [] = refl
opened_of_turns n (turn ∷ turns) =
    flat_map-append opened (turn_points n turn) (points_from (n + 1) turns)
    ∙ (ap (λ xs. xs ++ flat_map opened (points_from (n + 1) turns)) (opened_of_entries n 1 turn.entries)
    ∙ (ap (λ xs. flat_map (λ e. option_to_list (opens (event_of e))) turn.entries ++ xs) (opened_of_turns (n + 1) turns)
    ∙ sym (flat_map-append (λ e. option_to_list (opens (event_of e))) turn.entries (entries_of turns))))

pub entries_marked : EntriesAreMarked
entries_marked turns = events_of_marks (length turns) (points_from 1 turns) ∙ told_of_turns 1 turns

pub spans_opened : SpansAreOpened
spans_opened turns = subjects_of_marks (length turns) (points_from 1 turns) ∙ opened_of_turns 1 turns
