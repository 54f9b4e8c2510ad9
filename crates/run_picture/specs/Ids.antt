-- The names of elements.
use Rattle.std.specs.Prelude.{◌≡◌, ◌≢◌, ℕ, ◌^◌, ◌-◌, ◌<◌, if◌then◌else◌, List, [], ◌∷◌, ◌++◌, codes, decimal, map, flat_map, length}
use Rattle.std.specs.Str.{bytes_eq}
use Rattle.block_machine.specs.declared.turn.Turn.{Turn}
use Rattle.run_picture.specs.declared.marks.Mark.{Mark}
use Rattle.run_picture.specs.declared.marks.Mark.TheVariants.{At, Over}
use Rattle.run_picture.specs.declared.window.Window.{Window}
use Rattle.run_picture.specs.declared.frame.Frame.{Frame}
use Rattle.run_picture.specs.Tags.{Attribute, Tag, Open, Words, Close}
use Rattle.run_picture.specs.Frame.{is_label, frame_of}
use Rattle.run_picture.specs.Drawing.{picture_of}
use Rattle.run_picture.specs.Draw.{marks_within}

-- the name that an attribute gives
abbrev pub id_of : Attribute → List (List ℕ)
id_of a = if bytes_eq a.name (codes "id") then a.value ∷ [] else []

-- the names that a tag gives
abbrev pub ids_in : Tag → List (List ℕ)
ids_in (Open name attributes) = flat_map id_of attributes
ids_in (Words first more) = []
ids_in (Close name) = []

-- the names that tags give, in order
abbrev pub ids_of : List Tag → List (List ℕ)
ids_of tags = flat_map ids_in tags

-- the turn of a mark that is a label
abbrev pub turn_labelled : Mark → List ℕ
turn_labelled (At p) = if is_label p.event then p.turn ∷ [] else []
turn_labelled (Over s) = []

-- the name of a turn's column
abbrev pub name_of : ℕ → List ℕ
name_of n = codes "turn-" ++ decimal n

-- the names in a picture are those of the columns, one for each label
abbrev pub ColumnsAreNamed : Type 0
ColumnsAreNamed = (frame : Frame) (marks : List Mark) → ids_of (picture_of frame marks) ≡ map name_of (flat_map turn_labelled marks)

-- a name is none of these
abbrev pub IsNew : List ℕ → List (List ℕ) → Type 0
IsNew x [] = Unit {0}
IsNew x (y ∷ ys) = (x ≢ y) × IsNew x ys

-- no two are the same
abbrev pub AreDistinct : List (List ℕ) → Type 0
AreDistinct [] = Unit {0}
AreDistinct (x ∷ xs) = IsNew x xs × AreDistinct xs

-- no name is given twice in the picture of a range of turns
abbrev pub NamesAreDistinct : Type 0
NamesAreDistinct = (w : Window) (turns : List Turn) → length turns < 2 ^ 64 - 1
    → AreDistinct (ids_of (picture_of (frame_of w (marks_within w turns)) (marks_within w turns)))
