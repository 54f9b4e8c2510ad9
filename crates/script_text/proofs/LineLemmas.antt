-- The first line of a text, and lines of too many words.
use Rattle.std.proofs.Common.{◌≡◌, ℕ, ◌+◌, ◌<◌, ◌≤◌, suc, Bool, true, false, not, cond, Option, List, [], ◌∷◌, length, take, drop, None, Some, Err, refl, ap, arith}
use Rattle.std.specs.Prelude.{◌==◌, codes}
use Rattle.std.specs.Prelude.{if◌then◌else◌, nat_lt, position}
use Rattle.std.proofs.Common.{subst, lit≤}
use Rattle.std.proofs.lemmas.Bool.Decides.{nat_tests}
use Rattle.text_words.specs.Line.{words_of}
use Rattle.script_text.specs.Steps.{◌>>=◌, demand, or_else}
use Rattle.script_text.specs.Measures.{total_of}
use Rattle.script_text.specs.Grammar.{line_of}
use Rattle.std.specs.List.{position_or_len, list_any}
use Rattle.std.specs.Str.{bytes_eq}
use Rattle.script_text.specs.declared.form.Form.{Form}
use Rattle.script_text.specs.declared.form.Form.TheVariants.{Command, Abort, AbortSet, Clear, Reset, Scan, Destage, Go, Damage, Fault, Cut, Power, Minutes}
use Rattle.script_text.specs.declared.why.Why.TheVariants.{Shape}
use Rattle.script_text.specs.Forms.{form_of}
use Rattle.script_text.specs.Standing.{Reading, drive_of, with_line, with_words, with_all_words, with_content, is_empty, is_comment}
use Rattle.script_text.specs.Meaning.{lines_of, onto_first_line}

-- where the first byte does or doesn't end a line, and the rest has its first end at k
ends_by : (q : Bool) (b : ℕ) (bs : List ℕ) (k : ℕ) → (k < length bs → lines_of bs ≡ take k bs ∷ lines_of (drop (k + 1) bs))
    → cond (not q) (1 + k) 0 < length (b ∷ bs)
    → (if q then [] ∷ lines_of bs else onto_first_line b (lines_of bs)) ≡ take (cond (not q) (1 + k) 0) (b ∷ bs) ∷ lines_of (drop (cond (not q) (1 + k) 0 + 1) (b ∷ bs))
ends_by true b bs k rest within = refl
ends_by false b bs k rest within =
    let one : 1 + k ≡ suc k = omega arith in
    let two : 1 + k + 1 ≡ suc (suc k) = omega arith in
    let next : k + 1 ≡ suc k = omega arith in
    rw (two, one) (rw next at (ap (onto_first_line b) (rest (omega arith))))

-- the first line of a text ends at its first LF
pub lines_of-found : (bytes : List ℕ) → position_or_len (λ b. b == 10) bytes < length bytes
    → lines_of bytes ≡ take (position_or_len (λ b. b == 10) bytes) bytes ∷ lines_of (drop (position_or_len (λ b. b == 10) bytes + 1) bytes)
lines_of-found [] within = absurd (omega arith)
lines_of-found (b ∷ bs) within = ends_by (b == 10) b bs (position_or_len (λ b. b == 10) bs) (lines_of-found bs) within

ends_not : (q : Bool) (b : ℕ) (bs : List ℕ) (k : ℕ) → (length bs ≤ k → lines_of bs ≡ elim bs [ [] ↦ [] | (x ∷ xs) ↦ (x ∷ xs) ∷ [] ])
    → length (b ∷ bs) ≤ cond (not q) (1 + k) 0
    → (if q then [] ∷ lines_of bs else onto_first_line b (lines_of bs)) ≡ (b ∷ bs) ∷ []
ends_not true b bs k rest past = absurd (omega arith)
ends_not false b [] k rest past = refl
ends_not false b (c ∷ cs) k rest past = ap (onto_first_line b) (rest (omega arith))

none_found : (bytes : List ℕ) → length bytes ≤ position_or_len (λ b. b == 10) bytes → lines_of bytes ≡ elim bytes [ [] ↦ [] | (x ∷ xs) ↦ (x ∷ xs) ∷ [] ]
none_found [] past = refl
none_found (b ∷ bs) past = ends_not (b == 10) b bs (position_or_len (λ b. b == 10) bs) (none_found bs) past

-- a text without LF is one line
pub lines_of-not_found : (b : ℕ) (bs : List ℕ) → length (b ∷ bs) ≤ position_or_len (λ b. b == 10) (b ∷ bs) → lines_of (b ∷ bs) ≡ (b ∷ bs) ∷ []
lines_of-not_found b bs past = none_found (b ∷ bs) past

found_by : (b : Bool) (k n at : ℕ) → (b ≡ true → k < n) → cond b (Some k) None ≡ Some at → (k < n) × (k ≡ at)
found_by true k n at within e = (within refl, (cc))
found_by false k n at within e = absurd (cc)

missed_by : (b : Bool) (k n : ℕ) → (b ≡ false → n ≤ k) → cond b (Some k) None ≡ None → n ≤ k
missed_by true k n past e = absurd (cc)
missed_by false k n past e = past refl

-- the first line of a text whose first LF is at this place
pub first_line-found : (bytes : List ℕ) (at : ℕ) → position (λ b. b == 10) bytes ≡ Some at → lines_of bytes ≡ take at bytes ∷ lines_of (drop (at + 1) bytes)
first_line-found bytes at e =
    let k : ℕ = position_or_len (λ b. b == 10) bytes in
    let found = found_by (nat_lt k (length bytes)) k (length bytes) at (λ t. grind (arith, nat_tests)) e in
    let P : ℕ → Type 0 = λ n. lines_of bytes ≡ take n bytes ∷ lines_of (drop (n + 1) bytes) in
    subst P found.1 (lines_of-found bytes found.0)

-- a text without LF is one line
pub first_line-missed : (bytes : List ℕ) → (bytes ≡ [] → ⊥) → position (λ b. b == 10) bytes ≡ None → lines_of bytes ≡ bytes ∷ []
first_line-missed [] some e = absurd (some refl)
first_line-missed (b ∷ bs) some e =
    let k : ℕ = position_or_len (λ b. b == 10) (b ∷ bs) in
    lines_of-not_found b bs (missed_by (nat_lt k (length (b ∷ bs))) k (length (b ∷ bs)) (λ t. grind (arith, nat_tests)) e)

-- whichever of two is chosen
chosen : {A : Type 0} (b : Bool) (x y e : A) → x ≡ e → y ≡ e → (if b then x else y) ≡ e
chosen true x y e p q = p
chosen false x y e p q = q

by_form : (n : ℕ) (s : Reading) (form : Option Form) (a b c d e f g h : List ℕ) (rest : List (List ℕ))
    → (or_else Shape form >>= (λ k. line_of (total_of (drive_of s)) k (a ∷ b ∷ c ∷ d ∷ e ∷ f ∷ g ∷ h ∷ rest) >>= (λ line. with_line n s line))) ≡ Err Shape
by_form n s None a b c d e f g h rest = refl
by_form n s (Some Command) a b c d e f g h rest = refl
by_form n s (Some Abort) a b c d e f g h rest = refl
by_form n s (Some AbortSet) a b c d e f g h rest = refl
by_form n s (Some Clear) a b c d e f g h rest = refl
by_form n s (Some Reset) a b c d e f g h rest = refl
by_form n s (Some Scan) a b c d e f g h rest = refl
by_form n s (Some Destage) a b c d e f g h rest = refl
by_form n s (Some Go) a b c d e f g h rest = refl
by_form n s (Some Damage) a b c d e f g h rest = refl
by_form n s (Some Fault) a b c d e f g h rest = refl
by_form n s (Some Cut) a b c d e f g h rest = refl
by_form n s (Some Power) a b c d e f g h rest = refl
by_form n s (Some Minutes) a b c d e f g h rest = refl

-- no form has eight words behind its first
eight_behind : (n : ℕ) (s : Reading) (first a b c d e f g h : List ℕ) (rest : List (List ℕ)) → with_words n s first (a ∷ b ∷ c ∷ d ∷ e ∷ f ∷ g ∷ h ∷ rest) ≡ Err Shape
unfolding with_words
eight_behind n s first a b c d e f g h rest =
    chosen (bytes_eq first (codes "disk")) _ _ (Err Shape) refl
    (chosen (bytes_eq first (codes "primary")) _ _ (Err Shape) refl (by_form n s (form_of first) a b c d e f g h rest))

nine_words : (n : ℕ) (s : Reading) (first a b c d e f g h : List ℕ) (rest : List (List ℕ)) → with_all_words n s (first ∷ a ∷ b ∷ c ∷ d ∷ e ∷ f ∷ g ∷ h ∷ rest) ≡ Err Shape
nine_words n s first a b c d e f g h rest =
    elim (not (list_any is_empty (first ∷ a ∷ b ∷ c ∷ d ∷ e ∷ f ∷ g ∷ h ∷ rest))) as (λ (v : Bool). (demand v Shape >>= (λ _. with_words n s first (a ∷ b ∷ c ∷ d ∷ e ∷ f ∷ g ∷ h ∷ rest))) ≡ Err Shape) [
      | true ↦ eight_behind n s first a b c d e f g h rest
      | false ↦ refl
    ]

-- a line of more than eight words has no form
many_words : (n : ℕ) (s : Reading) (words : List (List ℕ)) → (length words ≤ 8 → ⊥) → with_all_words n s words ≡ Err Shape
many_words n s [] many = refl
many_words n s (a ∷ []) many = absurd (many (lit≤ tt))
many_words n s (a ∷ b ∷ []) many = absurd (many (lit≤ tt))
many_words n s (a ∷ b ∷ c ∷ []) many = absurd (many (lit≤ tt))
many_words n s (a ∷ b ∷ c ∷ d ∷ []) many = absurd (many (lit≤ tt))
many_words n s (a ∷ b ∷ c ∷ d ∷ e ∷ []) many = absurd (many (lit≤ tt))
many_words n s (a ∷ b ∷ c ∷ d ∷ e ∷ f ∷ []) many = absurd (many (lit≤ tt))
many_words n s (a ∷ b ∷ c ∷ d ∷ e ∷ f ∷ g ∷ []) many = absurd (many (lit≤ tt))
many_words n s (a ∷ b ∷ c ∷ d ∷ e ∷ f ∷ g ∷ h ∷ []) many = absurd (many (lit≤ tt))
many_words n s (a ∷ b ∷ c ∷ d ∷ e ∷ f ∷ g ∷ h ∷ i ∷ rest) many = nine_words n s a b c d e f g h i rest

pub content_of_many_words : (n : ℕ) (s : Reading) (line : List ℕ) → is_comment line ≡ false → (length (words_of line) ≤ 8 → ⊥) → with_content n s line ≡ Err Shape
content_of_many_words n s line content many = rw content (many_words n s (words_of line) many)
