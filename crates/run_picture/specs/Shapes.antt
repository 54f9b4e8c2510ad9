-- The elements of a picture (SVG 1.1).
use Rattle.std.specs.Prelude.{ℕ, List, [], ◌∷◌, ◌++◌, codes, decimal}
use Rattle.run_picture.specs.declared.tags.Area.{Area}
use Rattle.run_picture.specs.declared.tags.Spot.{Spot}
use Rattle.run_picture.specs.Tags.{Attribute, Tag, Words, attribute, count, element}

-- the attributes of a rectangle
abbrev pub rectangle_attributes : Area → List ℕ → List ℕ → List Attribute
rectangle_attributes area fill opacity =
    count (codes "x") area.x ∷ count (codes "y") area.y ∷ count (codes "width") area.width ∷ count (codes "height") area.height
    ∷ attribute (codes "fill") fill ∷ attribute (codes "fill-opacity") opacity ∷ []

-- the attributes of a text
abbrev pub text_attributes : Spot → List ℕ → List Attribute
text_attributes spot fill = count (codes "x") spot.x ∷ count (codes "y") spot.y ∷ attribute (codes "fill") fill ∷ []

-- the one name of a turn's column
abbrev pub id : ℕ → Attribute
id n = attribute (codes "id") (codes "turn-" ++ decimal n)

-- words at a place
abbrev pub note : Spot → List ℕ → List (List ℕ) → List Tag
note spot first more = element (codes "text") (text_attributes spot (codes "#000000")) (Words first more ∷ [])

-- what a browser shows of a mark that is pointed at: the number of a turn, and words
abbrev pub title : ℕ → List (List ℕ) → List Tag
title n words = element (codes "title") [] (Words (decimal n) words ∷ [])
