-- The numbering of a sector's bytes by four: the loops, and that the two directions undo each other.
use Rattle.std.proofs.Common.{◌≡◌, ◌≢◌, ℕ, zero, suc, ◌+◌, ◌*◌, ◌/◌, ◌%◌, ◌<◌, List, [], ◌∷◌, map, length, get_or, set, below_more, refl, sym, ap, ap₂, ◌∙◌, arith}
use Rattle.std.specs.List.{range_with_len}
use Rattle.std.proofs.lemmas.List.{ext_get_or, length-map, length-set, get_or-set_same, get_or-set_other}
use Rattle.std.proofs.lemmas.List.FromFn.{get_or-map-range_with_len}
use Rattle.rs_sector.specs.Sector.{word_of, words_of, bytes_of}

pub length_range : (from n : ℕ) → length (range_with_len from n) ≡ n
length_range from zero = refl
length_range from (suc n) = ap suc (length_range (from + 1) n)

-- a list of n numbers that are f of their places
pub from_places : (f : ℕ → ℕ) (n : ℕ) (xs : List ℕ) → length xs ≡ n → ((k : ℕ) → k < n → get_or xs k 0 ≡ f k) → xs ≡ map f (range_with_len 0 n)
from_places f n xs long at =
    ext_get_or 0 xs (map f (range_with_len 0 n)) (long ∙ sym (length-map (range_with_len 0 n) f ∙ length_range 0 n)) (λ k l.
    at k (omega arith) ∙ sym (get_or-map-range_with_len f 0 n k k 0 (omega arith) (omega arith)))

pub word_from : (n : ℕ) (bytes : List ℕ) (i : ℕ) (word : List ℕ) → length word ≡ n → ((k : ℕ) → k < n → get_or word k 0 ≡ get_or bytes (4 * k + i) 0) → word ≡ word_of n bytes i
unfolding word_of
word_from n bytes i word long at = from_places (λ k. get_or bytes (4 * k + i) 0) n word long at

pub bytes_from : (n : ℕ) (words : List (List ℕ)) (bytes : List ℕ) → length bytes ≡ 4 * n → ((i : ℕ) → i < 4 * n → get_or bytes i 0 ≡ get_or (get_or words (i % 4) []) (i / 4) 0) → bytes ≡ bytes_of n words
unfolding bytes_of
bytes_from n words bytes long at = from_places (λ i. get_or (get_or words (i % 4) []) (i / 4) 0) (4 * n) bytes long at

pub get_or-words_of : (n : ℕ) (bytes : List ℕ) (i k : ℕ) → i < 4 → k < n → get_or (get_or (words_of n bytes) i []) k 0 ≡ get_or bytes (4 * k + i) 0
unfolding words_of word_of
get_or-words_of n bytes i k l m =
    ap (λ w. get_or w k 0) (get_or-map-range_with_len (word_of n bytes) 0 4 i i [] l (omega arith)) ∙ get_or-map-range_with_len (λ k. get_or bytes (4 * k + i) 0) 0 n k k 0 m (omega arith)

pub get_or-bytes_of : (n : ℕ) (words : List (List ℕ)) (i : ℕ) → i < 4 * n → get_or (bytes_of n words) i 0 ≡ get_or (get_or words (i % 4) []) (i / 4) 0
unfolding bytes_of
get_or-bytes_of n words i l = get_or-map-range_with_len (λ i. get_or (get_or words (i % 4) []) (i / 4) 0) 0 (4 * n) i i 0 l (omega arith)

pub joins_again : (n : ℕ) (bytes : List ℕ) → length bytes ≡ 4 * n → bytes_of n (words_of n bytes) ≡ bytes
joins_again n bytes long =
    sym (bytes_from n (words_of n bytes) bytes long (λ i l.
    sym (get_or-words_of n bytes (i % 4) (i / 4) (omega arith) (omega arith) ∙ ap (λ k. get_or bytes k 0) (let e : 4 * (i / 4) + i % 4 ≡ i = omega arith in e))))

pub deals_again : (n : ℕ) (words : List (List ℕ)) → length words ≡ 4 → ((i : ℕ) → i < 4 → length (get_or words i []) ≡ n) → words_of n (bytes_of n words) ≡ words
unfolding words_of
deals_again n words four long =
    ext_get_or [] (words_of n (bytes_of n words)) words (sym four) (λ i h.
    let l : i < 4 = omega arith in
    get_or-map-range_with_len (word_of n (bytes_of n words)) 0 4 i i [] l (omega arith)
    ∙ sym (word_from n (bytes_of n words) i (get_or words i []) (long i l) (λ k m.
    sym (get_or-bytes_of n words (4 * k + i) (omega arith)
    ∙ ap₂ (λ a b. get_or (get_or words a []) b 0) (let e : (4 * k + i) % 4 ≡ i = omega arith in e) (let e : (4 * k + i) / 4 ≡ k = omega arith in e)))))

-- one place more is written
pub written_more : (f : ℕ → ℕ) (n i v : ℕ) (xs : List ℕ) → i < n → v ≡ f i → (length xs ≡ n) × ((j : ℕ) → j < i → get_or xs j 0 ≡ f j) → (length (set xs i v) ≡ n) × ((j : ℕ) → j < i + 1 → get_or (set xs i v) j 0 ≡ f j)
written_more f n i v xs l e h = (
  length-set xs i v ∙ h.0,
  below_more _ _ (λ j less. let ne : j ≢ i = omega arith in get_or-set_other xs i j v 0 ne ∙ h.1 j less) (get_or-set_same xs i v 0 (omega (arith, h.0)) ∙ e),
)

pub four_words : (n : ℕ) (bytes a b c d : List ℕ) → a ≡ word_of n bytes 0 → b ≡ word_of n bytes 1 → c ≡ word_of n bytes 2 → d ≡ word_of n bytes 3 → ◌≡◌ {A = List (List ℕ)} (a ∷ b ∷ c ∷ d ∷ []) (words_of n bytes)
unfolding words_of
four_words n bytes a b c d ea eb ec ed = ap₂ (λ x xs. x ∷ xs) ea (ap₂ (λ x xs. x ∷ xs) eb (ap₂ (λ x xs. x ∷ xs) ec (ap (λ x. x ∷ []) ed)))
