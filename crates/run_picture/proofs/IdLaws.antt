-- The names of elements are those of the columns, and no two are the same.
use Rattle.std.proofs.Common.{◌≡◌, ◌≢◌, ◌==◌, ℕ, ◌+◌, ◌^◌, ◌<◌, Bool, true, false, List, [], ◌∷◌, ◌++◌, map, length, refl, sym, ap, subst, ◌∙◌, append-nil, append_assoc, arith}
use Rattle.std.specs.Prelude.{codes, decimal, Option, Some, None, option_to_list, if◌then◌else◌, nat_lt, ◌||◌}
use Rattle.std.specs.List.{flat_map}
use Rattle.std.specs.Option.{option_map, option_map_or}
use Rattle.std.proofs.lemmas.Grind.{flat_map-append}
use Rattle.std.proofs.lemmas.Fmt.{decimal_injective}
use Rattle.block_machine.specs.declared.entry.Entry.{Entry}
use Rattle.block_machine.specs.declared.turn.Turn.{Turn}
use Rattle.run_picture.specs.declared.points.Point.{Point}
use Rattle.run_picture.specs.declared.spans.Subject.{Subject}
use Rattle.run_picture.specs.declared.spans.Subject.TheVariants.{Command, Dirty, Dark}
use Rattle.run_picture.specs.declared.spans.Span.{Span}
use Rattle.run_picture.specs.declared.marks.Mark.{Mark}
use Rattle.run_picture.specs.declared.marks.Mark.TheVariants.{At, Over}
use Rattle.run_picture.specs.declared.window.Window.{Window}
use Rattle.run_picture.specs.declared.frame.Frame.{Frame}
use Rattle.run_picture.specs.Tags.{Tag, Close}
use Rattle.run_picture.specs.Shapes.{note}
use Rattle.run_picture.specs.Points.{entry_points, turn_points, points_from}
use Rattle.run_picture.specs.Spans.{opens, span_of}
use Rattle.run_picture.specs.Marks.{marks_at, marks_from, marks_of}
use Rattle.run_picture.specs.Window.{shown, clipped, shown_of}
use Rattle.run_picture.specs.Frame.{is_label, frame_of}
use Rattle.run_picture.specs.Style.{end_spot, ending_word}
use Rattle.run_picture.specs.Draw.{marks_within}
use Rattle.run_picture.specs.Drawing.{lanes, block_note, bar_note, bar, work_on, ending_note, front_note, span_tags, mark_over, letter, letter_in, column_tags, column}
use Rattle.run_picture.specs.Ids.{ids_of, ids_in, turn_labelled, name_of, ColumnsAreNamed, IsNew, AreDistinct, NamesAreDistinct}
use Rattle.run_picture.proofs.MarkLaws.{no_label}

-- tags that give no name
abbrev IsNameless : List Tag → Type 0
IsNameless tags = ids_of tags ≡ []

nameless_both : (xs ys : List Tag) → IsNameless xs → IsNameless ys → IsNameless (xs ++ ys)
nameless_both xs ys first second = flat_map-append ids_in xs ys ∙ (ap (λ n. n ++ ids_of ys) first ∙ second)

nameless_all : {A : Type 0} (f : A → List Tag) → ((x : A) → IsNameless (f x)) → (items : List A) → IsNameless (flat_map f items)
nameless_all f each [] = refl
nameless_all f each (x ∷ items) = nameless_both (f x) (flat_map f items) (each x) (nameless_all f each items)

nameless_option : {A : Type 0} (f : A → List Tag) → ((x : A) → IsNameless (f x)) → (o : Option A) → IsNameless (option_map_or f o [])
nameless_option f each None = refl
nameless_option f each (Some x) = each x

nameless_if : (tags : List Tag) → IsNameless tags → (b : Bool) → IsNameless (if b then tags else [])
nameless_if tags nameless true = nameless
nameless_if tags nameless false = refl

bar_note_nameless : (frame : Frame) (marks : List Mark) (s : Subject) → IsNameless (bar_note frame marks s)
bar_note_nameless frame marks (Command c i) = refl
bar_note_nameless frame marks (Dirty b) = refl
bar_note_nameless frame marks Dark = refl

span_nameless : (frame : Frame) (marks : List Mark) (s : Span) → IsNameless (span_tags frame marks s)
span_nameless frame marks s =
    let a = bar_note frame marks s.subject in
    let b = bar frame marks s in
    let w = work_on frame marks s in
    let e = ending_note frame marks s in
    let f = front_note frame marks s in
    nameless_both (a ++ b ++ w ++ e) f (nameless_both (a ++ b ++ w) e (nameless_both (a ++ b) w (nameless_both a b (bar_note_nameless frame marks s.subject) refl)
    (nameless_option _ (λ n. refl) s.start)) (nameless_option (λ word. note (end_spot frame marks s) word []) (λ word. refl) (ending_word s.ending))) (nameless_if _ refl s.began_before)

over_nameless : (frame : Frame) (marks : List Mark) (m : Mark) → IsNameless (mark_over frame marks m)
over_nameless frame marks (At p) = refl
over_nameless frame marks (Over s) = span_nameless frame marks s

letter_nameless : (frame : Frame) (n : ℕ) (m : Mark) → IsNameless (letter_in frame n m)
letter_nameless frame n (At p) = nameless_if (letter frame p) refl (p.turn == n)
letter_nameless frame n (Over s) = refl

-- a column gives its own name alone
column_named : (frame : Frame) (marks : List Mark) (n : ℕ) → ids_of (column_tags frame marks n) ≡ name_of n ∷ []
column_named frame marks n =
    let inside = flat_map (letter_in frame n) marks in
    ap (λ names. name_of n ∷ names) (nameless_both inside (Close (codes "g") ∷ []) (nameless_all (letter_in frame n) (letter_nameless frame n) marks) refl)

column_at : (frame : Frame) (marks : List Mark) (m : Mark) → ids_of (column frame marks m) ≡ map name_of (turn_labelled m)
column_at frame marks (At p) = by_test (is_label p.event)
  where
    by_test : (b : Bool) → ids_of (if b then column_tags frame marks p.turn else []) ≡ map name_of (if b then p.turn ∷ [] else [])
    by_test true = column_named frame marks p.turn
    by_test false = refl
column_at frame marks (Over s) = refl

map_both : (xs ys : List ℕ) → map name_of (xs ++ ys) ≡ map name_of xs ++ map name_of ys
map_both [] ys = refl
map_both (x ∷ xs) ys = ap (λ names. name_of x ∷ names) (map_both xs ys)

columns_at : (frame : Frame) (all marks : List Mark) → ids_of (flat_map (column frame all) marks) ≡ map name_of (flat_map turn_labelled marks)
columns_at frame all [] = refl
columns_at frame all (m ∷ marks) =
    flat_map-append ids_in (column frame all m) (flat_map (column frame all) marks)
    ∙ (ap (λ names. names ++ ids_of (flat_map (column frame all) marks)) (column_at frame all m)
    ∙ (ap (λ names. map name_of (turn_labelled m) ++ names) (columns_at frame all marks) ∙ sym (map_both (turn_labelled m) (flat_map turn_labelled marks))))

pub columns_named : ColumnsAreNamed
columns_named frame marks =
    let blocks = flat_map (block_note frame) frame.blocks in
    let spans = flat_map (mark_over frame marks) marks in
    let columns = flat_map (column frame marks) marks in
    let before = lanes ++ blocks ++ spans in
    let nameless : IsNameless before = nameless_both (lanes ++ blocks) spans (nameless_both lanes blocks refl (nameless_all (block_note frame) (λ b. refl) frame.blocks))
    (nameless_all (mark_over frame marks) (over_nameless frame marks) marks) in
    flat_map-append ids_in (before ++ columns) (Close (codes "svg") ∷ [])
    ∙ (append-nil (ids_of (before ++ columns))
    ∙ (flat_map-append ids_in before columns ∙ (ap (λ names. names ++ ids_of columns) nameless ∙ columns_at frame marks marks)))

-- the turns from n on
abbrev numbers : ℕ → List Turn → List ℕ
numbers n [] = []
numbers n (turn ∷ turns) = n ∷ numbers (n + 1) turns

-- the turn of a point that is a label
abbrev labelled : Point → List ℕ
labelled p = if is_label p.event then p.turn ∷ [] else []

none_over : (last turn : ℕ) (later : List Point) (o : Option Subject)
    → flat_map turn_labelled (map Over (option_to_list (option_map (span_of last turn later) o))) ≡ []
none_over last turn later None = refl
none_over last turn later (Some s) = refl

turns_of_marks : (last : ℕ) (points : List Point) → flat_map turn_labelled (marks_from last points) ≡ flat_map labelled points
turns_of_marks last [] = refl
turns_of_marks last (p ∷ later) =
    flat_map-append turn_labelled (marks_at last p later) (marks_from last later)
    ∙ (ap (λ ns. ns ++ flat_map turn_labelled (marks_from last later)) (ap (λ ns. labelled p ++ ns) (none_over last p.turn later (opens p.event)) ∙ append-nil (labelled p))
    ∙ ap (λ ns. labelled p ++ ns) (turns_of_marks last later))

none_of_entries : (n place : ℕ) (entries : List Entry) → flat_map labelled (entry_points n place entries) ≡ []
none_of_entries n place [] = refl
none_of_entries n place (e ∷ entries) = rw (no_label e) (none_of_entries n (place + 1) entries)

numbered : (n : ℕ) (turns : List Turn) → flat_map labelled (points_from n turns) ≡ numbers n turns
numbered n [] = refl
numbered n (turn ∷ turns) =
    flat_map-append labelled (turn_points n turn) (points_from (n + 1) turns)
    ∙ (ap (λ ns. (n ∷ ns) ++ flat_map labelled (points_from (n + 1) turns)) (none_of_entries n 1 turn.entries) ∙ ap (λ ns. n ∷ ns) (numbered (n + 1) turns))

-- those within a range
abbrev is_out : Window → ℕ → Bool
is_out w n = nat_lt n w.from || nat_lt w.to n

abbrev kept : Window → List ℕ → List ℕ
kept w [] = []
kept w (n ∷ ns) = (if is_out w n then [] else n ∷ []) ++ kept w ns

kept_both : (w : Window) (xs ys : List ℕ) → kept w (xs ++ ys) ≡ kept w xs ++ kept w ys
kept_both w [] ys = refl
kept_both w (x ∷ xs) ys =
    ap (λ ns. (if is_out w x then [] else x ∷ []) ++ ns) (kept_both w xs ys) ∙ sym (append_assoc (if is_out w x then [] else x ∷ []) (kept w xs) (kept w ys))

shown_one : (w : Window) (m : Mark) → flat_map turn_labelled (option_to_list (shown w m)) ≡ kept w (turn_labelled m)
shown_one w (At p) = by_tests (is_out w p.turn) (is_label p.event) refl refl
  where
    by_tests : (o l : Bool) → is_out w p.turn ≡ o → is_label p.event ≡ l
        → flat_map turn_labelled (option_to_list (if is_out w p.turn then None else Some (At p))) ≡ kept w (if is_label p.event then p.turn ∷ [] else [])
    by_tests true true out label = simp (out, label)
    by_tests true false out label = simp (out, label)
    by_tests false true out label = simp (out, label)
    by_tests false false out label = simp (out, label)
shown_one w (Over s) = by_option (clipped w s)
  where
    by_option : (o : Option Span) → flat_map turn_labelled (option_to_list (option_map Over o)) ≡ []
    by_option None = refl
    by_option (Some c) = refl

shown_turns : (w : Window) (marks : List Mark) → flat_map turn_labelled (shown_of w marks) ≡ kept w (flat_map turn_labelled marks)
shown_turns w [] = refl
shown_turns w (m ∷ marks) =
    flat_map-append turn_labelled (option_to_list (shown w m)) (shown_of w marks)
    ∙ (ap (λ ns. ns ++ flat_map turn_labelled (shown_of w marks)) (shown_one w m)
    ∙ (ap (λ ns. kept w (turn_labelled m) ++ ns) (shown_turns w marks) ∙ sym (kept_both w (turn_labelled m) (flat_map turn_labelled marks))))

name_differs : (m n : ℕ) → m < n → n < 2 ^ 64 → name_of m ≢ name_of n
name_differs m n below small e =
    let digits : decimal m ≡ decimal n = cc in
    let same : m ≡ n = decimal_injective m n (omega arith) small digits in
    omega (arith, same, below)

is_new : (w : Window) (m n : ℕ) (turns : List Turn) → m < n → n + length turns < 2 ^ 64 → IsNew (name_of m) (map name_of (kept w (numbers n turns)))
is_new w m n [] below small = tt
is_new w m n (turn ∷ turns) below small =
    by_test (is_out w n) (is_new w m (n + 1) turns (omega (arith, below)) (omega (arith, small)))
  where
    by_test : (o : Bool) → IsNew (name_of m) (map name_of (kept w (numbers (n + 1) turns)))
        → IsNew (name_of m) (map name_of ((if o then [] else n ∷ []) ++ kept w (numbers (n + 1) turns)))
    by_test true later = later
    by_test false later = (name_differs m n below (omega (arith, small)), later)

distinct_from : (w : Window) (n : ℕ) (turns : List Turn) → n + length turns < 2 ^ 64 → AreDistinct (map name_of (kept w (numbers n turns)))
distinct_from w n [] small = tt
distinct_from w n (turn ∷ turns) small =
    by_test (is_out w n) (distinct_from w (n + 1) turns (omega (arith, small)))
  where
    by_test : (o : Bool) → AreDistinct (map name_of (kept w (numbers (n + 1) turns)))
        → AreDistinct (map name_of ((if o then [] else n ∷ []) ++ kept w (numbers (n + 1) turns)))
    by_test true later = later
    by_test false later = (is_new w n (n + 1) turns (omega arith) (omega (arith, small)), later)

pub names_distinct : NamesAreDistinct
names_distinct w turns few =
    let marks = marks_within w turns in
    let named = columns_named (frame_of w marks) marks
    ∙ ap (map name_of) (shown_turns w (marks_of turns) ∙ ap (kept w) (turns_of_marks (length turns) (points_from 1 turns) ∙ numbered 1 turns)) in
    subst AreDistinct (sym named) (distinct_from w 1 turns (omega (arith, few)))
