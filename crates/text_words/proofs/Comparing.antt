-- A text compared with the front of another, piece by piece.
use Rattle.std.proofs.Common.{◌≡◌, ℕ, ◌==◌, Bool, true, false, List, [], ◌∷◌, ◌++◌, length, sym, ap, ◌∙◌, append_assoc, append-nil, arith}
use Rattle.std.specs.Prelude.{IsTrue, ◌↔◌, Option, Some, None, MatchOption, IfSome, IfNone}
use Rattle.std.specs.Borrow.{Bor}
use Rattle.std.proofs.lemmas.Bool.{eqb-true}
use Rattle.std.proofs.lemmas.List.{append_cancel_left}
use Rattle.text_words.specs.Written.{IsCompared}

-- what holds of a borrowed text, where there is one
pub some_of : (none : Type 0) (some : Bor (List ℕ) → Type 0) (r : Option (Bor (List ℕ))) → MatchOption r none some → IfSome r some
some_of none some None m = tt
some_of none some (Some text) m = m

-- what holds where there is none
pub none_of : (none : Type 0) (some : Bor (List ℕ) → Type 0) (r : Option (Bor (List ℕ))) → MatchOption r none some → IfNone r none
none_of none some None m = m
none_of none some (Some text) m = tt

-- the next piece is the front of the rest
pub compared_more : (whole text rest piece left : List ℕ) (is_front : Bool) → IsCompared whole text rest is_front → rest ≡ piece ++ left → is_front ≡ true → IsCompared whole (text ++ piece) left is_front
compared_more whole text rest piece left is_front h e is = record {
  front = λ s. h.front s ∙ ap (λ t. text ++ t) e ∙ sym (append_assoc text piece left);
  other = λ s. cc;
}

-- the next piece isn't
pub compared_other : (whole text rest piece : List ℕ) (is_front : Bool) → IsCompared whole text rest is_front → is_front ≡ true → ((more : List ℕ) → rest ≡ piece ++ more → ⊥)
    → IsCompared whole (text ++ piece) rest false
compared_other whole text rest piece is_front h is apart = record {
  front = λ s. cc;
  other = λ s more e. apart more (append_cancel_left text rest (piece ++ more) (sym (h.front is) ∙ e ∙ append_assoc text piece more));
}

-- a text that is no front stays none, whatever is put behind it
pub compared_still : (whole text rest piece : List ℕ) (is_front : Bool) → IsCompared whole text rest is_front → is_front ≡ false → IsCompared whole (text ++ piece) rest is_front
compared_still whole text rest piece is_front h isnt = record {
  front = λ s. cc;
  other = λ s more e. h.other isnt (piece ++ more) (e ∙ append_assoc text piece more);
}

-- the text is the whole exactly where it is a front, and nothing is left
pub none_left : (whole text rest : List ℕ) (is_front : Bool) → IsCompared whole text rest is_front → is_front ≡ true
    → (empty : Bool) → empty ≡ (length rest == 0) → IsTrue empty ↔ (whole ≡ text)
none_left whole text [] is_front h is empty e = (λ _. h.front is ∙ append-nil text, λ _. e)
none_left whole text (x ∷ rest) is_front h is empty e =
    (λ t. absurd (longer (sym e ∙ t)), λ w. absurd (behind (append_cancel_left text [] (x ∷ rest) (append-nil text ∙ sym w ∙ h.front is))))
  where
    longer : (length (x ∷ rest) == 0) ≡ true → ⊥
    longer t = let none : length (x ∷ rest) ≡ 0 = eqb-true (length (x ∷ rest)) 0 t in omega arith

    behind : [] ≡ x ∷ rest → ⊥
    behind t = cc

-- where the text is no front, it isn't the whole
pub no_front : (whole text rest : List ℕ) (is_front : Bool) → IsCompared whole text rest is_front → is_front ≡ false → IsTrue is_front ↔ (whole ≡ text)
no_front whole text rest is_front h isnt = (λ t. absurd (apart (sym isnt ∙ t)), λ w. absurd (h.other isnt [] (w ∙ sym (append-nil text))))
  where
    apart : false ≡ true → ⊥
    apart t = cc
