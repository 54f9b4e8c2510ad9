-- Lists that become longer, and how often a number stands in a list.
use Rattle.std.specs.Prelude.{◌≡◌, ◌⊎◌, ℕ, ◌<◌, List, [], ◌∷◌, ◌++◌, length, count_by, Option, Some, None, Bool, if◌then◌else◌, ◌==◌, nat_lt, nat_le, ◌&&◌}
use mathlib.Core.List.{IsPrefix}

-- the list stays, or becomes longer by one
abbrev pub Follows : {U : Type 0} → List U → List U → Type 0
Follows {U} xs ys = (ys ≡ xs) ⊎ ((t : U) × (ys ≡ xs ++ t ∷ []))

-- the list stays, or becomes longer by one in such a step
abbrev pub Goes : {U : Type 0} → (List U → List U → Type 0) → List U → List U → Type 0
Goes {U} stepped xs ys = (ys ≡ xs) ⊎ ((t : U) × (ys ≡ xs ++ t ∷ []) × stepped xs ys)

-- one of two lists begins the other
abbrev pub OneBegins : {U : Type 0} → List U → List U → Type 0
OneBegins xs ys = IsPrefix xs ys ⊎ IsPrefix ys xs

abbrev pub longer : {U : Type 0} → List U → List U → List U
longer xs ys = if nat_lt (length xs) (length ys) then ys else xs

-- the number of the item that the list has more than before, if any; items are numbered from 1
abbrev pub gained : {U : Type 0} → Option (List U) → List U → List ℕ
gained None log = []
gained (Some before) log = if nat_lt (length before) (length log) then length log ∷ [] else []

-- how often x stands in the list
abbrev pub times : ℕ → List ℕ → ℕ
times x xs = count_by (λ y. y == x) xs

-- 1 where x is above first and at most last, else 0
abbrev pub once : ℕ → ℕ → ℕ → ℕ
once first last x = if nat_lt first x && nat_le x last then 1 else 0

-- the list rises strictly from above low, and ends at or below high
abbrev pub rises : ℕ → List ℕ → ℕ → Bool
rises low [] high = nat_le low high
rises low (x ∷ xs) high = nat_lt low x && rises x xs high

-- no number above high stands in the list
abbrev pub Within : List ℕ → ℕ → Type 0
Within xs high = (x : ℕ) → high < x → times x xs ≡ 0
