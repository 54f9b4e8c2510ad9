-- Tags close what they open.
use Rattle.std.proofs.Common.{◌≡◌, ◌==◌, ℕ, Bool, true, false, List, [], ◌∷◌, ◌++◌, refl, ap, ◌∙◌}
use Rattle.std.specs.Prelude.{codes, fold, Option, Some, None, if◌then◌else◌}
use Rattle.std.specs.List.{flat_map}
use Rattle.std.specs.Option.{option_map_or}
use Rattle.std.specs.Str.{bytes_eq}
use Rattle.std.proofs.lemmas.List.Sums.{fold-append}
use Rattle.run_picture.specs.declared.spans.Subject.{Subject}
use Rattle.run_picture.specs.declared.spans.Subject.TheVariants.{Command, Dirty, Dark}
use Rattle.run_picture.specs.declared.spans.Span.{Span}
use Rattle.run_picture.specs.declared.marks.Mark.{Mark}
use Rattle.run_picture.specs.declared.marks.Mark.TheVariants.{At, Over}
use Rattle.run_picture.specs.declared.frame.Frame.{Frame}
use Rattle.run_picture.specs.declared.tags.Spot.{Spot}
use Rattle.run_picture.specs.Tags.{Attribute, Tag, Close, element}
use Rattle.run_picture.specs.Shapes.{note}
use Rattle.run_picture.specs.Frame.{is_label}
use Rattle.run_picture.specs.Style.{end_spot, ending_word}
use Rattle.run_picture.specs.Drawing.{svg_attributes, lanes, block_note, bar_note, bar, work_on, ending_note, front_note, span_tags, mark_over, letter, letter_in, number_of, column_tags, column}
use Rattle.run_picture.specs.Shapes.{id}
use Rattle.run_picture.specs.Nesting.{open_after, PicturesAreNested}

-- tags that leave open what was
abbrev IsWhole : List Tag → Type 0
IsWhole tags = (names : List (List ℕ)) → fold open_after (Some names) tags ≡ Some names

whole_both : (xs ys : List Tag) → IsWhole xs → IsWhole ys → IsWhole (xs ++ ys)
whole_both xs ys first second names = fold-append open_after (Some names) xs ys ∙ (ap (λ o. fold open_after o ys) (first names) ∙ second names)

whole_all : {A : Type 0} (f : A → List Tag) → ((x : A) → IsWhole (f x)) → (items : List A) → IsWhole (flat_map f items)
whole_all f each [] names = refl
whole_all f each (x ∷ items) names = whole_both (f x) (flat_map f items) (each x) (whole_all f each items) names

-- an element of a name that is itself
whole_element : (name : List ℕ) (attributes : List Attribute) (inside : List Tag) → bytes_eq name name ≡ true → IsWhole inside → IsWhole (element name attributes inside)
whole_element name attributes inside same whole names =
    fold-append open_after (Some (name ∷ names)) inside (Close name ∷ [])
    ∙ (ap (λ o. fold open_after o (Close name ∷ [])) (whole (name ∷ names)) ∙ ap (λ b. if b then Some names else None) same)

nothing_whole : IsWhole []
nothing_whole names = refl

note_whole : (spot : Spot) (first : List ℕ) (more : List (List ℕ)) → IsWhole (note spot first more)
note_whole spot first more names = refl

bar_note_whole : (frame : Frame) (marks : List Mark) (s : Subject) → IsWhole (bar_note frame marks s)
bar_note_whole frame marks (Command c i) names = refl
bar_note_whole frame marks (Dirty b) names = refl
bar_note_whole frame marks Dark names = refl

bar_whole : (frame : Frame) (marks : List Mark) (s : Span) → IsWhole (bar frame marks s)
bar_whole frame marks s names = refl

by_option : {A : Type 0} (f : A → List Tag) → ((x : A) → IsWhole (f x)) → (o : Option A) → IsWhole (option_map_or f o [])
by_option f each None names = refl
by_option f each (Some x) names = each x names

by_test : (tags : List Tag) → IsWhole tags → (b : Bool) → IsWhole (if b then tags else [])
by_test tags whole true names = whole names
by_test tags whole false names = refl

work_whole : (frame : Frame) (marks : List Mark) (s : Span) → IsWhole (work_on frame marks s)
work_whole frame marks s = by_option _ (λ n names. refl) s.start

ending_whole : (frame : Frame) (marks : List Mark) (s : Span) → IsWhole (ending_note frame marks s)
ending_whole frame marks s = by_option (λ word. note (end_spot frame marks s) word []) (λ word names. refl) (ending_word s.ending)

front_whole : (frame : Frame) (marks : List Mark) (s : Span) → IsWhole (front_note frame marks s)
front_whole frame marks s = by_test _ (λ names. refl) s.began_before

span_whole : (frame : Frame) (marks : List Mark) (s : Span) → IsWhole (span_tags frame marks s)
span_whole frame marks s =
    let a = bar_note frame marks s.subject in
    let b = bar frame marks s in
    let w = work_on frame marks s in
    let e = ending_note frame marks s in
    let f = front_note frame marks s in
    whole_both (a ++ b ++ w ++ e) f (whole_both (a ++ b ++ w) e (whole_both (a ++ b) w (whole_both a b (bar_note_whole frame marks s.subject) (bar_whole frame marks s)) (work_whole frame marks s)) (ending_whole frame marks s)) (front_whole frame marks s)

over_whole : (frame : Frame) (marks : List Mark) (m : Mark) → IsWhole (mark_over frame marks m)
over_whole frame marks (At p) names = refl
over_whole frame marks (Over s) names = span_whole frame marks s names

letter_whole : (frame : Frame) (n : ℕ) (m : Mark) → IsWhole (letter_in frame n m)
letter_whole frame n (At p) = by_test (letter frame p) (λ names. refl) (p.turn == n)
letter_whole frame n (Over s) = λ names. refl

column_tags_whole : (frame : Frame) (marks : List Mark) (n : ℕ) → IsWhole (column_tags frame marks n)
column_tags_whole frame marks n = whole_element (codes "g") (id n ∷ []) (number_of frame n ++ flat_map (letter_in frame n) marks) refl
    (whole_both (number_of frame n) (flat_map (letter_in frame n) marks) (λ names. refl) (whole_all (letter_in frame n) (letter_whole frame n) marks))

column_whole : (frame : Frame) (marks : List Mark) (m : Mark) → IsWhole (column frame marks m)
column_whole frame marks (At p) = by_test (column_tags frame marks p.turn) (column_tags_whole frame marks p.turn) (is_label p.event)
column_whole frame marks (Over s) = λ names. refl

pub pictures_nested : PicturesAreNested
pictures_nested frame marks =
    let blocks = flat_map (block_note frame) frame.blocks in
    let spans = flat_map (mark_over frame marks) marks in
    let columns = flat_map (column frame marks) marks in
    whole_element (codes "svg") (svg_attributes frame) (lanes ++ blocks ++ spans ++ columns) refl
    (whole_both (lanes ++ blocks ++ spans) columns (whole_both (lanes ++ blocks) spans (whole_both lanes blocks (λ names. refl)
    (whole_all (block_note frame) (λ b names. refl) frame.blocks)) (whole_all (mark_over frame marks) (over_whole frame marks) marks)) (whole_all (column frame marks) (column_whole frame marks) marks)) []
