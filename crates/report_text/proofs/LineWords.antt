-- The words of the line of a turn.
use Rattle.std.proofs.Common.{◌≡◌, ◌≢◌, ℕ, ◌+◌, ◌<◌, ◌≤◌, ◌^◌, Bool, true, List, [], ◌∷◌, ◌++◌, length, get_or, Option, Some, None, refl, sym, ap, ◌∙◌, length-append, arith}
use Rattle.std.specs.Prelude.{codes, decimal, nat_lt, MatchOption}
use Rattle.std.specs.Borrow.{Bor}
use Rattle.std.specs.List.{All, list_all}
use Rattle.std.proofs.lemmas.Bool.{and_parts, ltb-true}
use Rattle.std.specs.Str.Parse.{AllDigits}
use Rattle.std.proofs.lemmas.Fmt.{decimal_nonempty, decimal_is_IsNumeral}
use Rattle.std.proofs.lemmas.Str.Parse.{digit_from_value}
use Rattle.std.proofs.lemmas.List.Elements.{All-nil, All-cons, All-head, All-tail}
use Rattle.block_machine.specs.declared.entry.Entry.{Entry}
use Rattle.block_machine.specs.declared.turn.Label.{Label}
use Rattle.block_machine.specs.declared.turn.Turn.{Turn}
use Rattle.text_words.specs.Line.{HasNoBlank, spaced, words_of}
use Rattle.text_words.proofs.Words.{words_of-spaced, spaced-words_of}
use Rattle.report_text.specs.declared.shown.Shown.{Shown}
use Rattle.report_text.specs.Operations.{shown_words}
use Rattle.report_text.specs.Entries.{entry_words}
use Rattle.report_text.specs.Turns.{label_words, operation_words, entries_words, turn_text}
use Rattle.report_text.specs.Marks.{before_mark, from_mark, words_left}
use Rattle.report_text.specs.LabelReading.{label_from}
use Rattle.report_text.specs.Findings.{minutes_after}
use Rattle.report_text.specs.Proper.{IsShown}
use Rattle.report_text.specs.Lines.{IsSplit, IsListed, IsLineOf, IsTurn, AreShown, AreEntries}
use Rattle.report_text.proofs.TextLemmas.{spaced-more}
use Rattle.report_text.proofs.LabelLaw.{label_again}
use Rattle.report_text.proofs.Plain.{is_plain, plain, both, plain_decimal, label_plain, shown_plain, entry_plain}
use Rattle.report_text.proofs.MarkLemmas.{before-plain, from-plain, few, all_plain, operations_before, operations_from, entries_before, entries_from}

-- there are no more words than characters behind the first
spaced-length : (first : List ℕ) (words : List (List ℕ)) → length first + length words ≤ length (spaced first words)
spaced-length first [] = omega arith
spaced-length first (w ∷ ws) =
    let rest = spaced-length (first ++ 32 ∷ w) ws in
    let long : length (first ++ 32 ∷ w) ≡ length first + length (32 ∷ w) = length-append first (32 ∷ w) in
    omega (arith, rest, long)

pub few_words_of : (line first : List ℕ) (words : List (List ℕ)) → words_of line ≡ first ∷ words → length words ≤ length line
few_words_of line first words e =
    let whole : length (spaced first words) ≡ length line = ap length (spaced-words_of line first words e) in
    omega (arith, whole, spaced-length first words)

-- the first word of a line, by the parts at its blanks
pub first_word : (line word : List ℕ) (rest : Option (Bor (List ℕ))) → MatchOption rest (words_of line ≡ word ∷ []) (λ text. words_of line ≡ word ∷ words_of text.now)
    → words_of line ≡ word ∷ words_left rest
first_word line word None is = is
first_word line word (Some text) is = is

-- label, operations and entries printed one after another
pub text_in_parts : (number : List ℕ) (label ops entries : List (List ℕ)) → spaced (spaced (spaced number label) ops) entries ≡ spaced number (label ++ (ops ++ entries))
text_in_parts number label ops entries = sym (spaced-more (spaced number label) ops entries) ∙ sym (spaced-more number label (ops ++ entries))

-- a turn by its fields
pub same_turn : (label : Label) (from to : ℕ) (entries : List Entry) (turn : Turn) → label ≡ turn.label → from ≡ turn.ops_from → to ≡ turn.ops_to → entries ≡ turn.entries
    → record { label = label; ops_from = from; ops_to = to; entries = entries } ≡ turn
same_turn label from to entries turn a b c d = rw (a, b, c, d) refl

pub same_some : {A : Type 0} {x y : A} → Some x ≡ Some y → x ≡ y
same_some h = cc

pub none_some : {A : Type 0} {x : A} → None ≡ Some x → ⊥
none_some h = cc

-- the print of what was read, where it is this label and these entries
pub print_same : (number : List ℕ) (ops : List (List ℕ)) (a b : Label) (xs ys : List Entry) → a ≡ b → xs ≡ ys
    → spaced (spaced (spaced number (label_words b)) ops) (entries_words ys) ≡ spaced (spaced (spaced number (label_words a)) ops) (entries_words xs)
print_same number ops a b xs ys p q = rw (p, q) refl

-- lists of plain words one after another
plain-append : (xs ys : List (List ℕ)) → list_all plain xs ≡ true → list_all plain ys ≡ true → list_all plain (xs ++ ys) ≡ true
plain-append [] ys p q = q
plain-append (x ∷ xs) ys p q =
    let parts = and_parts (plain x) (list_all plain xs) p in
    both (plain x) (list_all plain (xs ++ ys)) parts.0 (plain-append xs ys parts.1 q)

-- a mark has another character than a word, but no blank either
abbrev pub no_blank : List ℕ → Bool
no_blank word = list_all (λ b. nat_lt 32 b) word

pub no_blanks : (word : List ℕ) → plain word ≡ true → no_blank word ≡ true
no_blanks [] p = refl
no_blanks (b ∷ rest) p =
    let parts = and_parts (is_plain b) (plain rest) p in
    both (nat_lt 32 b) (no_blank rest) (and_parts (nat_lt 32 b) _ parts.0).0 (no_blanks rest parts.1)

free_append : (xs ys : List (List ℕ)) → list_all no_blank xs ≡ true → list_all no_blank ys ≡ true → list_all no_blank (xs ++ ys) ≡ true
free_append [] ys p q = q
free_append (x ∷ xs) ys p q =
    let parts = and_parts (no_blank x) (list_all no_blank xs) p in
    both (no_blank x) (list_all no_blank (xs ++ ys)) parts.0 (free_append xs ys parts.1 q)

all_free : (words : List (List ℕ)) → list_all plain words ≡ true → list_all no_blank words ≡ true
all_free [] p = refl
all_free (w ∷ ws) p =
    let parts = and_parts (plain w) (list_all plain ws) p in
    both (no_blank w) (list_all no_blank ws) (no_blanks w parts.0) (all_free ws parts.1)

operations_free : (shown : List Shown) → AreShown shown → list_all no_blank (operation_words shown) ≡ true
operations_free [] proper = refl
operations_free (s ∷ shown) proper =
    free_append (shown_words s) (operation_words shown) (all_free (shown_words s) (all_plain (shown_words s) (shown_plain s (All-head IsShown s shown proper))))
    (operations_free shown (All-tail IsShown s shown proper))

entries_free : (minutes : ℕ) (entries : List Entry) → AreEntries minutes entries → list_all no_blank (entries_words entries) ≡ true
entries_free minutes [] proper = refl
entries_free minutes (e ∷ entries) proper =
    free_append (entry_words e) (entries_words entries) (all_free (entry_words e) (all_plain (entry_words e) (entry_plain minutes e proper.0)))
    (entries_free (minutes_after minutes e) entries proper.1)

has_no_blank : (word : List ℕ) → no_blank word ≡ true → HasNoBlank word
has_no_blank [] p = All-nil (λ b. b ≢ 32)
has_no_blank (b ∷ rest) p =
    let parts = and_parts (nat_lt 32 b) (no_blank rest) p in
    All-cons (λ b. b ≢ 32) b rest (λ e. omega (arith, ltb-true 32 b parts.0, e)) (has_no_blank rest parts.1)

pub have_no_blank : (words : List (List ℕ)) → list_all no_blank words ≡ true → All HasNoBlank words
have_no_blank [] p = All-nil HasNoBlank
have_no_blank (w ∷ ws) p =
    let parts = and_parts (no_blank w) (list_all no_blank ws) p in
    All-cons HasNoBlank w ws (has_no_blank w parts.0) (have_no_blank ws parts.1)

-- the words of a turn behind its number
abbrev pub turn_words : Turn → List Shown → List (List ℕ)
turn_words turn shown = label_words turn.label ++ (operation_words shown ++ entries_words turn.entries)

pub turn_free : (minutes : ℕ) (turn : Turn) (shown : List Shown) → IsTurn minutes turn shown → list_all no_blank (turn_words turn shown) ≡ true
turn_free minutes turn shown proper =
    free_append (label_words turn.label) _ (all_free (label_words turn.label) (all_plain (label_words turn.label) (label_plain turn.label proper.label)))
    (free_append (operation_words shown) (entries_words turn.entries) (operations_free shown proper.operations) (entries_free minutes turn.entries proper.entries))

-- what the reader of a line comes to
pub record Parts (minutes : ℕ) (words : List (List ℕ)) (turn : Turn) (shown : List Shown) : Type 0 where
  pub few_words : length (before_mark words) ≤ 8
  pub label : label_from (before_mark words) ≡ Some turn.label
  pub operations : IsSplit (from_mark words) shown (entries_words turn.entries)
  pub entries : IsListed minutes (entries_words turn.entries) turn.entries

no_operation : (entries : List Entry) (rest : List (List ℕ)) → entries_words entries ≢ codes "<" ∷ rest
no_operation [] rest h = absurd (apart h)
  where
    apart : [] ≡ codes "<" ∷ rest → ⊥
    apart h' = cc
no_operation (e ∷ entries) rest h =
    let marks : 62 ≡ 60 = ap (λ (ws : List (List ℕ)). get_or (get_or ws 0 []) 0 0) h in
    absurd (omega (arith, marks))

pub parts_of : (n from minutes : ℕ) (line first : List ℕ) (words : List (List ℕ)) (turn : Turn) (shown : List Shown) → n < 2 ^ 64
    → IsTurn minutes turn shown → IsLineOf n from line turn shown → words_of line ≡ first ∷ words → Parts minutes words turn shown
parts_of n from minutes line first words turn shown small proper is split =
    let free : list_all no_blank (decimal n ∷ turn_words turn shown) ≡ true =
    both (no_blank (decimal n)) (list_all no_blank (turn_words turn shown)) (no_blanks (decimal n) (plain_decimal n small)) (turn_free minutes turn shown proper) in
    let all : words_of (turn_text n turn.label shown turn.entries) ≡ decimal n ∷ turn_words turn shown = words_of-spaced (decimal n) (turn_words turn shown) (have_no_blank (decimal n ∷ turn_words turn shown) free) in
    let these : words ≡ turn_words turn shown = cons_tail (sym split ∙ (ap words_of is.text ∙ all)) in
    let more : List (List ℕ) = operation_words shown ++ entries_words turn.entries in
    let own = all_plain (label_words turn.label) (label_plain turn.label proper.label) in
    let front : before_mark words ≡ label_words turn.label = ap before_mark these ∙ before-plain (label_words turn.label) more own (operations_before shown (entries_words turn.entries) (entries_before turn.entries)) in
    record {
      few_words = let count : length (before_mark words) ≡ length (label_words turn.label) = ap length front in omega (arith, few (label_words turn.label) (label_plain turn.label proper.label), count);
      label = ap label_from front ∙ label_again turn.label proper.label;
      operations = record {
        proper = proper.operations;
        whole = ap from_mark these ∙ from-plain (label_words turn.label) more own (operations_from shown (entries_words turn.entries) (entries_from turn.entries));
        marked = entries_before turn.entries;
        here = entries_from turn.entries;
        past = no_operation turn.entries;
      };
      entries = record { proper = proper.entries; whole = refl };
    }
  where
    cons_tail : {x y : List ℕ} {xs ys : List (List ℕ)} → x ∷ xs ≡ y ∷ ys → xs ≡ ys
    cons_tail h = cc

-- a numeral has a first character, which is no letter
pub first_digit : (n : ℕ) → n < 2 ^ 64 → (0 < length (decimal n)) × (get_or (decimal n) 0 0 ≤ 57)
first_digit n small = (decimal_nonempty n small, by_digits (decimal n) (decimal_is_IsNumeral n small).0.1)
  where
    by_digits : (ds : List ℕ) → AllDigits 10 ds → get_or ds 0 0 ≤ 57
    by_digits [] digits = omega arith
    by_digits (c ∷ cs) digits = let from = digit_from_value c digits.0 in omega (arith, from)
