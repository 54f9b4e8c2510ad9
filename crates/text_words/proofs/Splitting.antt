-- A line split at its blanks.
use Rattle.std.proofs.Common.{◌≡◌, ℕ, ◌+◌, ◌-◌, ◌<◌, ◌≤◌, ◌==◌, inl, inr, ⊎_elim, subst, cond, nat_lt, not, Bool, true, false, get_or, refl, List, [], ◌∷◌, ◌++◌, length, take, drop, Option, Some, None, sym, ap, ◌∙◌, arith, append-nil}
use Rattle.std.specs.Prelude.{position, option_map}
use Rattle.std.specs.Borrow.{Bor}
use Rattle.std.specs.List.{slice_split, position_or_len}
use Rattle.std.proofs.lemmas.Bool.{cases_lt, lt-ltb, le-ltb}
use Rattle.std.proofs.lemmas.List.{take_rest, length-append, length-map, length-drop, get_or-drop}
use Rattle.std.proofs.lemmas.List.Sums.{fails_before_first}
use Rattle.std.proofs.lemmas.List.Splits.{slice_split_first, slice_split_none, length-slice_split}
use Rattle.std.proofs.lemmas.List.Sums.{prefix_len_is}
use Rattle.memchr.specs.Find.{IsFirstByte, Nowhere, Passes, is_byte}
use Rattle.text_words.specs.Line.{words_of, texts_of, parts_at}

-- a byte that isn't the one that is looked for is another
other_byte : (b : Bool) → (b ≡ true → ⊥) → not b ≡ true
other_byte true apart = absurd (apart refl)
other_byte false apart = refl

-- a first place that is told is below the length
found : (n m at : ℕ) → cond (nat_lt n m) (Some n) None ≡ Some at → (n < m) × (n ≡ at)
found n m at e = elim (cases_lt n m) [
  | inl lt ↦ let same : Some n ≡ Some at = rw (lt-ltb n m lt) at e in (lt, cc)
  | inr ge ↦ let none : None ≡ Some at = rw (le-ltb n m ge) at e in absurd (apart none)
]
  where
    apart : None ≡ Some at → ⊥
    apart none = cc

-- where no place is told, there is none below the length
not_found : (n m : ℕ) → cond (nat_lt n m) (Some n) None ≡ None → m ≤ n
not_found n m e = elim (cases_lt n m) [
  | inl lt ↦ let some : Some n ≡ None = rw (lt-ltb n m lt) at e in absurd (apart some)
  | inr ge ↦ ge
]
  where
    apart : Some n ≡ None → ⊥
    apart some = cc

-- what a search for a byte finds is the byte's first place
pub first_place : (byte : ℕ) (text : List ℕ) (r : Option ℕ) → IsFirstByte (is_byte byte) text r → r ≡ position (λ b. b == byte) text
first_place byte text None nowhere =
    let far : position_or_len (λ b. b == byte) text ≡ length text =
    prefix_len_is (λ b. not (b == byte)) text (length text) 0 (omega arith) (λ k less. other_byte (get_or text k 0 == byte) (nowhere k (omega arith) less)) (λ less. absurd (omega (arith, less))) in
    sym (ap (λ (b : Bool). cond b (Some (position_or_len (λ b. b == byte) text)) None) (le-ltb (position_or_len (λ b. b == byte) text) (length text) (omega (arith, far))))
first_place byte text (Some at) is =
    let here : position_or_len (λ b. b == byte) text ≡ at =
    prefix_len_is (λ b. not (b == byte)) text at 0 (omega (arith, is.0.high)) (λ k less. other_byte (get_or text k 0 == byte) (is.0.before k (omega arith) less)) (λ less. ap not is.1) in
    sym (ap (λ (b : Bool). cond b (Some (position_or_len (λ b. b == byte) text)) None) (lt-ltb (position_or_len (λ b. b == byte) text) (length text) (omega (arith, here, is.0.high))) ∙ ap Some here)

-- a place behind a front is that of the whole
behind_place : (byte : ℕ) (text : List ℕ) (n k : ℕ) → n ≤ k → Passes (is_byte byte) text k → Passes (is_byte byte) (drop n text) (k - n)
behind_place byte text n k from passes =
    let same : n + (k - n) ≡ k = omega (arith, from) in
    ap (λ b. b == byte) (get_or-drop n text (k - n) 0 ∙ ap (λ i. get_or text i 0) same) ∙ passes

-- what isn't behind a front without the byte is nowhere in the whole
behind_nowhere : (byte : ℕ) (text : List ℕ) (n to : ℕ) → Nowhere (Passes (is_byte byte) text) 0 n → Nowhere (Passes (is_byte byte) (drop n text)) 0 to
    → Nowhere (Passes (is_byte byte) text) 0 (n + to)
behind_nowhere byte text n to so is k low less = ⊎_elim (λ (before : k < n). so k low before)
    (λ (from : n ≤ k) passes. is (k - n) (omega arith) (omega (arith, from, less)) (behind_place byte text n k from passes))
    (cases_lt k n)

-- what is found behind a front without the byte is the first of the whole
behind_near : (byte : ℕ) (text : List ℕ) (n : ℕ) (r : Option ℕ) → n ≤ length text → Nowhere (Passes (is_byte byte) text) 0 n
    → IsFirstByte (is_byte byte) (drop n text) r → IsFirstByte (is_byte byte) text (option_map (λ at. n + at) r)
behind_near byte text n None fits so is =
    subst (λ to. Nowhere (Passes (is_byte byte) text) 0 to) (let long = length-drop n text in omega (arith, long, fits)) (behind_nowhere byte text n (length (drop n text)) so is)
behind_near byte text n (Some at) fits so is = (
  record {
    low = omega arith;
    high = let long = length-drop n text in omega (arith, long, fits, is.0.high);
    before = behind_nowhere byte text n at so is.0.before;
  },
  ap (λ b. b == byte) (sym (get_or-drop n text at 0)) ∙ is.1,
)

-- the first place is what is found behind a front without the byte
pub place_behind : (byte : ℕ) (text : List ℕ) (n : ℕ) (r : Option ℕ) → n ≤ length text → Nowhere (Passes (is_byte byte) text) 0 n
    → IsFirstByte (is_byte byte) (take (length text - n) (drop n text)) r → option_map (λ at. n + at) r ≡ position (λ b. b == byte) text
place_behind byte text n r fits so is =
    first_place byte text (option_map (λ at. n + at) r) (behind_near byte text n r fits so (subst (λ (t : List ℕ). IsFirstByte (is_byte byte) t r) (take_rest text n) is))

-- the first part ends at the first place of the byte
pub split_at_place : (byte : ℕ) (text : List ℕ) (at : ℕ) → position (λ b. b == byte) text ≡ Some at
    → parts_at byte text ≡ take at text ∷ parts_at byte (take (length text - (at + 1)) (drop (at + 1) text))
unfolding parts_at
split_at_place byte text at e =
    let place = position_or_len (λ b. b == byte) text in
    let told : (place < length text) × (place ≡ at) = found place (length text) at e in
    slice_split_first (λ b. b == byte) text 0 told.0
    ∙ ap (λ n. take n text ∷ slice_split (λ b. b == byte) (drop (n + 1) text)) told.1
    ∙ ap (λ t. take at text ∷ slice_split (λ b. b == byte) t) (sym (take_rest text (at + 1)))

-- a text without the byte is one part
pub split_nowhere : (byte : ℕ) (text : List ℕ) → position (λ b. b == byte) text ≡ None → parts_at byte text ≡ text ∷ []
unfolding parts_at
split_nowhere byte text e =
    let far : length text ≤ position_or_len (λ b. b == byte) text = not_found (position_or_len (λ b. b == byte) text) (length text) e in
    slice_split_none (λ b. b == byte) text (λ k d lt. fails_before_first (λ b. b == byte) text k d (omega arith))

-- the words of what is left of a line, where something is left
abbrev pub words_left : Option (Bor (List ℕ)) → List (List ℕ)
words_left None = []
words_left (Some text) = words_of text.now

-- where nothing is left, there are as many words as were taken
pub few_words : (items : List (Bor (List ℕ))) (words : List (List ℕ)) (most : ℕ) → texts_of items ++ [] ≡ words → length items ≤ most → length words ≤ most
few_words items words most e le =
    let same : length (texts_of items) ≡ length words = ap length (sym (append-nil (texts_of items)) ∙ e) in
    let long : length (texts_of items) ≡ length items = length-map items (λ word. word.now) in
    omega arith

-- where something is left, there are more
pub many_words : (items : List (Bor (List ℕ))) (text : List ℕ) (words : List (List ℕ)) (most : ℕ) → texts_of items ++ words_of text ≡ words → length items ≡ most → most < length words
unfolding parts_at
many_words items text words most e full =
    let same : length (texts_of items ++ words_of text) ≡ length words = ap length e in
    let long : length (texts_of items) ≡ length items = length-map items (λ word. word.now) in
    let one = length-slice_split (λ b. b == 32) text in
    let both = length-append (texts_of items) (words_of text) in
    omega arith
