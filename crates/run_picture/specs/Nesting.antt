-- Elements inside each other.
use Rattle.std.specs.Prelude.{◌≡◌, ℕ, if◌then◌else◌, List, [], ◌∷◌, fold, Option, Some, None}
use Rattle.std.specs.Str.{bytes_eq}
use Rattle.run_picture.specs.declared.marks.Mark.{Mark}
use Rattle.run_picture.specs.declared.frame.Frame.{Frame}
use Rattle.run_picture.specs.Tags.{Tag, Open, Words, Close}
use Rattle.run_picture.specs.Drawing.{picture_of}

-- the names of the elements that are open after a tag, the innermost first; none where a tag closes another than that
abbrev pub open_after : Option (List (List ℕ)) → Tag → Option (List (List ℕ))
open_after (Some names) (Open name attributes) = Some (name ∷ names)
open_after (Some names) (Words first more) = Some names
open_after (Some []) (Close name) = None
open_after (Some (inner ∷ names)) (Close name) = if bytes_eq inner name then Some names else None
open_after None tag = None

-- each tag that closes an element closes the innermost that is open, and at the end none is
abbrev pub IsNested : List Tag → Type 0
IsNested tags = fold open_after (Some []) tags ≡ Some []

-- the tags of every picture are nested
abbrev pub PicturesAreNested : Type 0
PicturesAreNested = (frame : Frame) (marks : List Mark) → IsNested (picture_of frame marks)
