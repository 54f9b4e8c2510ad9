-- The text of elements: tags that open and close, and words between them (XML 1.0, 3.1).
use Rattle.std.specs.Prelude.{ℕ, List, [], ◌∷◌, ◌++◌, codes, decimal, fold}
use Rattle.text_words.specs.Line.{spaced}

-- an attribute of an element: its name and its value
pub record Attribute : Type 0 where
  pub name : List ℕ
  pub value : List ℕ

-- a tag opens an element of a name, with attributes, or closes one; between tags stand words
pub data Tag : Type 0 where
  Open : (name : List ℕ) (attributes : List Attribute) → Tag
  Words : (first : List ℕ) (more : List (List ℕ)) → Tag
  Close : (name : List ℕ) → Tag

-- the attribute of a name and a value
abbrev pub attribute : List ℕ → List ℕ → Attribute
attribute name value = record { name = name; value = value }

-- an attribute whose value is a number
abbrev pub count : List ℕ → ℕ → Attribute
count name n = attribute name (decimal n)

-- a text and an attribute behind it: ` name="value"`
abbrev pub with_attribute : List ℕ → Attribute → List ℕ
with_attribute text a = text ++ codes " " ++ a.name ++ (61 ∷ 34 ∷ []) ++ a.value ++ (34 ∷ [])

-- a text and a tag behind it; words are parted by blanks, and a tag that closes ends its line
abbrev pub with_tag : List ℕ → Tag → List ℕ
with_tag text (Open name attributes) = fold with_attribute (text ++ codes "<" ++ name) attributes ++ codes ">"
with_tag text (Words first more) = spaced (text ++ first) more
with_tag text (Close name) = text ++ codes "</" ++ name ++ (62 ∷ 10 ∷ [])

-- a text and tags behind it
abbrev pub with_tags : List ℕ → List Tag → List ℕ
with_tags text tags = fold with_tag text tags

-- an element and what is inside
abbrev pub element : List ℕ → List Attribute → List Tag → List Tag
element name attributes inside = Open name attributes ∷ (inside ++ Close name ∷ [])
