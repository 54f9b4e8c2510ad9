-- Levels as bits of a number: how the flips so far are found, and what they say of the word of levels.
use Rattle.std.proofs.Common.{◌≡◌, ◌⊎◌, ℕ, zero, suc, ◌+◌, ◌-◌, ◌*◌, ◌^◌, ◌/◌, ◌%◌, ◌<◌, ◌≤◌, Bool, true, false, eqb, List, length, take, get_or, subst, pos, ◌-ℤ◌, ◌*ℤ◌, refl, sym, ap, ◌∙◌, inl, inr, arith}
use Rattle.std.specs.Int.{bit_at, bit_not, w64}
use Rattle.std.specs.Int.Bits.{bit_xor}
use Rattle.std.proofs.lemmas.Bool.{cases_lt}
use Rattle.std.proofs.lemmas.List.{get_or-take, length-take-le}
use Rattle.std.proofs.lemmas.List.FromFn.{get_or-map-range_with_len}
use Rattle.std.proofs.lemmas.Nat.{pow_pos, shr-shr, mod-pow-add, mod_low, field_of}
use Rattle.std.proofs.lemmas.Nat.Bits.{bit_at-lt, bit_at-zero, bit_at_xor, bit_at_not, bit_at_cat_low, bit_at_cat_high}
use Rattle.bit_words.specs.Words.{word_bits}
use Rattle.bit_words.proofs.BitLists.{bit_at-cut, bit_at-mod, get_or-word_bits, length-word_bits}
use Rattle.prml_viterbi.specs.Levels.{level_for, is_high, flip, level_word, level_at, clean_at}
use Rattle.prml_viterbi.specs.LevelBits.{level_by, sample_by, eight_samples, GiveLevels}
use Rattle.prml_viterbi.proofs.ChannelBits.{get_or-levels_after}
use Rattle.prml_viterbi.proofs.Traces.{is_high-level_for}

-- how many 1s a word has at a place and below it, over so many places
abbrev ones_at : ℕ → ℕ → ℕ → ℕ
ones_at w i zero = 0
ones_at w zero (suc n) = bit_at w 0
ones_at w (suc i) (suc n) = bit_at w (suc i) + ones_at w i n

ones-split : (w i m n : ℕ) → m ≤ i → ones_at w i (m + n) ≡ ones_at w i m + ones_at w (i - m) n
ones-split w i zero n h =
    let z : 0 + n ≡ n = omega arith in
    let s : i ≡ i - 0 = omega arith in
    let t : ones_at w (i - 0) n ≡ 0 + ones_at w (i - 0) n = omega arith in
    ap (ones_at w i) z ∙ ap (λ k. ones_at w k n) s ∙ t
ones-split w zero (suc m) n h = absurd (omega arith)
ones-split w (suc i) (suc m) n h =
    let z : suc m + n ≡ suc (m + n) = omega arith in
    let s : i - m ≡ suc i - suc m = omega arith in
    let b = bit_at w (suc i) in
    ap (ones_at w (suc i)) z
    ∙ ap (λ x. b + x) (ones-split w i m n (omega arith))
    ∙ (let e : b + (ones_at w i m + ones_at w (i - m) n) ≡ (b + ones_at w i m) + ones_at w (i - m) n = omega arith in e)
    ∙ ap (λ k. (b + ones_at w i m) + ones_at w k n) s

ones-clip : (w i m n : ℕ) → i < m → ones_at w i (m + n) ≡ ones_at w i m
ones-clip w i zero n h = absurd (omega arith)
ones-clip w zero (suc m) n h = let z : suc m + n ≡ suc (m + n) = omega arith in ap (ones_at w zero) z
ones-clip w (suc i) (suc m) n h =
    let z : suc m + n ≡ suc (m + n) = omega arith in
    ap (ones_at w (suc i)) z ∙ ap (λ x. bit_at w (suc i) + x) (ones-clip w i m n (omega arith))

pub shifted_low : (x m i : ℕ) → i < 64 → i < m → bit_at (x * 2 ^ m % 2 ^ 64) i ≡ 0
shifted_low x m i below low =
    let e : x * 2 ^ m ≡ x * 2 ^ m + 0 = omega arith in
    bit_at-mod (x * 2 ^ m) 64 i below ∙ ap (λ v. bit_at v i) e ∙ bit_at_cat_low x m 0 i low ∙ bit_at-zero i

pub shifted_high : (x m i : ℕ) → i < 64 → m ≤ i → bit_at (x * 2 ^ m % 2 ^ 64) i ≡ bit_at x (i - m)
shifted_high x m i below high =
    let e : x * 2 ^ m ≡ x * 2 ^ m + 0 = omega arith in
    bit_at-mod (x * 2 ^ m) 64 i below ∙ ap (λ v. bit_at v i) e ∙ bit_at_cat_high x m 0 i (pow_pos m) high

-- the bits of a number say whether there is an odd number of 1s over so many places
abbrev AreOdd : ℕ → ℕ → ℕ → Type 0
AreOdd w x m = (i : ℕ) → i < 64 → bit_at x i ≡ ones_at w i m % 2

-- a shift and an exclusive or see twice as many places
doubled : (w x m : ℕ) → AreOdd w x m → AreOdd w (bit_xor x (x * 2 ^ m % 2 ^ 64)) (m + m)
doubled w x m odd i below = bit_at_xor x (x * 2 ^ m % 2 ^ 64) i ∙ by_place (cases_lt i m)
  where
    by_place : (i < m) ⊎ (m ≤ i) → (bit_at x i + bit_at (x * 2 ^ m % 2 ^ 64) i) % 2 ≡ ones_at w i (m + m) % 2
    by_place (inl low) =
        let a : bit_at x i ≡ ones_at w i m % 2 = odd i below in
        let b : bit_at (x * 2 ^ m % 2 ^ 64) i ≡ 0 = shifted_low x m i below low in
        ap (λ v. (bit_at x i + v) % 2) b ∙ ap (λ v. (v + 0) % 2) a
        ∙ (let e : (ones_at w i m % 2 + 0) % 2 ≡ ones_at w i m % 2 = omega arith in e)
        ∙ ap (λ v. v % 2) (sym (ones-clip w i m m low))
    by_place (inr high) =
        let a : bit_at x i ≡ ones_at w i m % 2 = odd i below in
        let b : bit_at (x * 2 ^ m % 2 ^ 64) i ≡ ones_at w (i - m) m % 2 = shifted_high x m i below high ∙ odd (i - m) (omega arith) in
        ap (λ v. (bit_at x i + v) % 2) b ∙ ap (λ v. (v + ones_at w (i - m) m % 2) % 2) a
        ∙ (let e : (ones_at w i m % 2 + ones_at w (i - m) m % 2) % 2 ≡ (ones_at w i m + ones_at w (i - m) m) % 2 = omega arith in e)
        ∙ ap (λ v. v % 2) (sym (ones-split w i m m high))

odd_alone : (w : ℕ) → AreOdd w w 1
odd_alone w zero below = let l = bit_at-lt w 0 in omega arith
odd_alone w (suc i) below = let l = bit_at-lt w (suc i) in omega arith

-- the bits of a number above two others
pub above_two : (levels before k : ℕ) → before < 4 → bit_at (4 * levels + before) (k + 2) ≡ bit_at levels k
above_two levels before k small =
    let e : 4 * levels + before ≡ levels * 4 + before = omega arith in
    let d : k + 2 - 2 ≡ k = omega arith in
    ap (λ v. bit_at v (k + 2)) e ∙ bit_at_cat_high levels 2 before (k + 2) small (omega arith) ∙ ap (bit_at levels) d

pub two_below : (levels before k : ℕ) → k < 2 → bit_at (4 * levels + before) k ≡ bit_at before k
two_below levels before k small =
    let e : 4 * levels + before ≡ levels * 4 + before = omega arith in
    ap (λ v. bit_at v k) e ∙ bit_at_cat_low levels 2 before k small

-- each bit by the one before it
steps : (w x : ℕ) → AreOdd w x 64 → (k : ℕ) → suc k < 64 → bit_at x (suc k) ≡ (bit_at w (suc k) + bit_at x k) % 2
steps w x odd k below =
    let clip : ones_at w k 64 ≡ ones_at w k 63 = ones-clip w k 63 1 (omega arith) in
    let a : bit_at x (suc k) ≡ (bit_at w (suc k) + ones_at w k 63) % 2 = odd (suc k) below in
    let b : bit_at x k ≡ ones_at w k 63 % 2 = odd k (omega arith) ∙ ap (λ v. v % 2) clip in
    omega arith

-- flips after a high level
pub GiveLevels-odd : (w x : ℕ) → AreOdd w x 64 → GiveLevels w 0 x
GiveLevels-odd w x odd zero below =
    let a : bit_at x 0 ≡ bit_at w 0 % 2 = odd 0 (omega arith) in
    let b : bit_at (4 * x + 0) (0 + 1) ≡ 0 = two_below x 0 1 (omega arith) in
    above_two x 0 zero (omega arith) ∙ a ∙ (let e : bit_at w 0 % 2 ≡ (bit_at w 0 + 0) % 2 = omega arith in e) ∙ ap (λ v. (bit_at w 0 + v) % 2) (sym b)
GiveLevels-odd w x odd (suc k) below =
    let s : k + 2 ≡ suc k + 1 = omega arith in
    let b : bit_at (4 * x + 0) (suc k + 1) ≡ bit_at x k = ap (bit_at (4 * x + 0)) (sym s) ∙ above_two x 0 k (omega arith) in
    above_two x 0 (suc k) (omega arith) ∙ steps w x odd k below ∙ ap (λ v. (bit_at w (suc k) + v) % 2) (sym b)

pub six_shifts : (w a b c d e f : ℕ) → a ≡ bit_xor w (w * 2 % 2 ^ 64) → b ≡ bit_xor a (a * 4 % 2 ^ 64) → c ≡ bit_xor b (b * 16 % 2 ^ 64) → d ≡ bit_xor c (c * 256 % 2 ^ 64) → e ≡ bit_xor d (d * 65536 % 2 ^ 64) → f ≡ bit_xor e (e * 4294967296 % 2 ^ 64) → GiveLevels w 0 f
six_shifts w a b c d e f ia ib ic id ie if =
    let at : (x y m : ℕ) → y ≡ bit_xor x (x * 2 ^ m % 2 ^ 64) → AreOdd w x m → AreOdd w y (m + m) = λ x y m is odd i below. ap (λ v. bit_at v i) is ∙ doubled w x m odd i below in
    GiveLevels-odd w f (at e f 32 if (at d e 16 ie (at c d 8 id (at b c 4 ic (at a b 2 ib (at w a 1 ia (odd_alone w)))))))

-- flips after a low level are the others turned
pub GiveLevels-turned : (w before f r : ℕ) → before < 4 → ((k : ℕ) → k < 64 → bit_at r k ≡ (bit_at f k + bit_at before 1) % 2) → GiveLevels w 0 f → GiveLevels w before r
GiveLevels-turned w before f r small turned flips zero below =
    let first = flips zero below in
    let none : bit_at (4 * f + 0) (0 + 1) ≡ 0 = two_below f 0 1 (omega arith) in
    let now : bit_at f 0 ≡ (bit_at w 0 + 0) % 2 = sym (above_two f 0 zero (omega arith)) ∙ first ∙ ap (λ v. (bit_at w 0 + v) % 2) none in
    let last : bit_at (4 * r + before) (0 + 1) ≡ bit_at before 1 = two_below r before 1 (omega arith) in
    above_two r before zero small ∙ turned zero below ∙ ap (λ v. (v + bit_at before 1) % 2) now
    ∙ (let e : ((bit_at w 0 + 0) % 2 + bit_at before 1) % 2 ≡ (bit_at w 0 + bit_at before 1) % 2 = omega arith in e)
    ∙ ap (λ v. (bit_at w 0 + v) % 2) (sym last)
GiveLevels-turned w before f r small turned flips (suc k) below =
    let s : k + 2 ≡ suc k + 1 = omega arith in
    let now : bit_at f (suc k) ≡ (bit_at w (suc k) + bit_at f k) % 2 =
    sym (above_two f 0 (suc k) (omega arith)) ∙ flips (suc k) below ∙ ap (λ v. (bit_at w (suc k) + bit_at (4 * f + 0) v) % 2) (sym s) ∙ ap (λ v. (bit_at w (suc k) + v) % 2) (above_two f 0 k (omega arith)) in
    let last : bit_at (4 * r + before) (suc k + 1) ≡ (bit_at f k + bit_at before 1) % 2 = ap (bit_at (4 * r + before)) (sym s) ∙ above_two r before k small ∙ turned k (omega arith) in
    above_two r before (suc k) small ∙ turned (suc k) below ∙ ap (λ v. (v + bit_at before 1) % 2) now
    ∙ (let e : ((bit_at w (suc k) + bit_at f k) % 2 + bit_at before 1) % 2 ≡ (bit_at w (suc k) + (bit_at f k + bit_at before 1) % 2) % 2 = omega arith in e)
    ∙ ap (λ v. (bit_at w (suc k) + v) % 2) (sym last)

pub turned_high : (before f k : ℕ) → before < 2 → bit_at f k ≡ (bit_at f k + bit_at before 1) % 2
turned_high before f k small =
    let l = bit_at-lt f k in
    let b : bit_at before 1 ≡ 0 = omega arith in
    omega arith

pub turned_low : (before f k : ℕ) → 2 ≤ before → before < 4 → f < 2 ^ 64 → k < 64 → bit_at (bit_not w64 f) k ≡ (bit_at f k + bit_at before 1) % 2
turned_low before f k low small fits below =
    let l = bit_at-lt f k in
    let b : bit_at before 1 ≡ 1 = omega arith in
    bit_at_not w64 f k fits below ∙ (let e : 1 - bit_at f k ≡ (bit_at f k + bit_at before 1) % 2 = omega arith in e)

-- levels of a word of channel bits, from two places before `at` on
abbrev pub AreLevelsFrom : List Bool → ℕ → ℕ → ℕ → Type 0
AreLevelsFrom bits at count levels = (m : ℕ) → m < count → at + m < length bits + 2 → level_at (level_word bits) (at + m + 1) ≡ level_by levels m

flip_bits : (a b : ℕ) → a < 2 → b < 2 → flip (eqb a 1) (eqb b 0) ≡ eqb ((a + b) % 2) 0
flip_bits zero zero h k = refl
flip_bits zero (suc zero) h k = refl
flip_bits (suc zero) zero h k = refl
flip_bits (suc zero) (suc zero) h k = refl
flip_bits zero (suc (suc b)) h k = absurd (omega arith)
flip_bits (suc zero) (suc (suc b)) h k = absurd (omega arith)
flip_bits (suc (suc a)) b h k = absurd (omega arith)

-- the levels of a word's places, behind the two before it
levels_from : (bits : List Bool) (at word before levels : ℕ) → before < 4 → ((k : ℕ) → k < 64 → at + k < length bits → get_or bits (at + k) false ≡ eqb (bit_at word k) 1) → GiveLevels word before levels → AreLevelsFrom bits at 2 before → AreLevelsFrom bits at 66 (4 * levels + before)
levels_from bits at word before levels small holds gives so_far zero below inside = so_far zero (omega arith) inside ∙ ap (λ b. level_for (eqb b 0)) (sym (two_below levels before 0 (omega arith)))
levels_from bits at word before levels small holds gives so_far (suc zero) below inside = so_far 1 (omega arith) inside ∙ ap (λ b. level_for (eqb b 0)) (sym (two_below levels before 1 (omega arith)))
levels_from bits at word before levels small holds gives so_far (suc (suc k)) below inside =
    let t = 4 * levels + before in
    let w = level_word bits in
    let here : at + suc (suc k) + 1 ≡ suc (suc (suc (at + k))) = omega arith in
    let there : at + suc k + 1 ≡ suc (suc (at + k)) = omega arith in
    let one : k + 1 ≡ suc k = omega arith in
    let two : k + 2 ≡ suc (suc k) = omega arith in
    let last : level_at w (suc (suc (at + k))) ≡ level_for (eqb (bit_at t (k + 1)) 0) =
    ap (level_at w) (sym there) ∙ levels_from bits at word before levels small holds gives so_far (suc k) (omega arith) (omega arith) ∙ ap (λ i. level_by t i) (sym one) in
    let high : is_high (level_at w (suc (suc (at + k)))) ≡ eqb (bit_at t (k + 1)) 0 = ap is_high last ∙ is_high-level_for (eqb (bit_at t (k + 1)) 0) in
    ap (level_at w) here
    ∙ get_or-levels_after true bits (at + k) (omega arith)
    ∙ ap (λ b. level_for (flip b (is_high (level_at w (suc (suc (at + k))))))) (holds k (omega arith) (omega arith))
    ∙ ap (λ b. level_for (flip (eqb (bit_at word k) 1) b)) high
    ∙ ap level_for (flip_bits (bit_at word k) (bit_at t (k + 1)) (bit_at-lt word k) (bit_at-lt t (k + 1)))
    ∙ ap (λ b. level_for (eqb b 0)) (sym (gives k (omega arith)))
    ∙ ap (λ i. level_by t i) two

-- three levels +1 stand before the first
pub levels_none : (bits : List Bool) → AreLevelsFrom bits 0 2 0
levels_none bits zero below inside = refl
levels_none bits (suc zero) below inside = refl
levels_none bits (suc (suc m)) below inside = absurd (omega arith)

-- the last two levels of a word are those before the next
levels_next : (bits : List Bool) (at levels before : ℕ) → before < 4 → AreLevelsFrom bits at 66 (4 * levels + before) → AreLevelsFrom bits (at + 64) 2 (levels / 2 ^ 62)
levels_next bits at levels before small all m below inside =
    let e : at + 64 + m + 1 ≡ at + (62 + m + 2) + 1 = omega arith in
    ap (level_at (level_word bits)) e
    ∙ all (62 + m + 2) (omega arith) (omega arith)
    ∙ ap (λ b. level_for (eqb b 0)) (above_two levels before (62 + m) small ∙ ap (λ n. n % 2) (sym (shr-shr levels 62 m)))

-- a sample by the levels
pub sample_from : (bits : List Bool) (at t : ℕ) → AreLevelsFrom bits at 66 t → (k : ℕ) → k < 64 → at + k < length bits → clean_at (level_word bits) (at + k) ≡ sample_by t k
sample_from bits at t levels k below inside =
    let here : at + (k + 2) + 1 ≡ suc (suc (suc (at + k))) = omega arith in
    let there : at + k + 1 ≡ suc (at + k) = omega arith in
    let a : level_at (level_word bits) (suc (suc (suc (at + k)))) ≡ level_by t (k + 2) = ap (level_at (level_word bits)) (sym here) ∙ levels (k + 2) (omega arith) (omega arith) in
    let b : level_at (level_word bits) (suc (at + k)) ≡ level_by t k = ap (level_at (level_word bits)) (sym there) ∙ levels k (omega arith) (omega arith) in
    ap (λ x. pos 16 *ℤ (x -ℤ level_at (level_word bits) (suc (at + k)))) a ∙ ap (λ x. pos 16 *ℤ (level_by t (k + 2) -ℤ x)) b

-- a sample of levels cut out of a number
pub sample_cut : (t s k : ℕ) → k < 8 → sample_by (t / 2 ^ s % 1024) k ≡ sample_by t (s + k)
sample_cut t s k below =
    let e : s + (k + 2) ≡ s + k + 2 = omega arith in
    let a : level_by (t / 2 ^ s % 1024) (k + 2) ≡ level_by t (s + k + 2) = ap (λ b. level_for (eqb b 0)) (bit_at-cut t s 10 (k + 2) (omega arith) ∙ ap (bit_at t) e) in
    let b : level_by (t / 2 ^ s % 1024) k ≡ level_by t (s + k) = ap (λ b. level_for (eqb b 0)) (bit_at-cut t s 10 k (omega arith)) in
    ap (λ x. pos 16 *ℤ (x -ℤ level_by (t / 2 ^ s % 1024) k)) a ∙ ap (λ x. pos 16 *ℤ (level_by t (s + k + 2) -ℤ x)) b

pub get_or-eight_samples : (levels k : ℕ) → k < 8 → get_or (eight_samples levels) k (pos 0) ≡ sample_by levels k
get_or-eight_samples levels k below = get_or-map-range_with_len (sample_by levels) 0 8 k k (pos 0) below (omega arith)

-- what is cut out below the highest bits may be cut out of what is left of a division
pub ten_cut : (levels before i : ℕ) → before < 4 → i < 7 → (levels % 2 ^ 62 * 4 + before) / 2 ^ (8 * i) % 1024 ≡ (4 * levels + before) / 2 ^ (8 * i) % 1024
ten_cut levels before i small low =
    let t = 4 * levels + before in
    let s = 8 * i in
    let j = 54 - s in
    let all : 2 ^ 64 ≡ 2 ^ (j + 10 + s) = (let e : 64 ≡ j + 10 + s = omega arith in ap (λ n. 2 ^ n) e) in
    let front : levels % 2 ^ 62 * 4 + before ≡ t % 2 ^ 64 = omega arith in
    ap (λ n. n / 2 ^ s % 1024) (front ∙ ap (λ m. t % m) all)
    ∙ ap (λ n. n % 1024) (field_of t (j + 10) s)
    ∙ ap (λ n. n % 1024) (mod-pow-add (t / 2 ^ s) j 10)
    ∙ mod_low (t / 2 ^ s / 2 ^ 10 % 2 ^ j) 10 (t / 2 ^ s % 1024) (omega arith)

pub ten_highest : (levels before i : ℕ) → before < 4 → levels < 2 ^ 64 → 7 ≤ i → i < 8 → levels / 2 ^ 54 ≡ (4 * levels + before) / 2 ^ (8 * i) % 1024
ten_highest levels before i small fits low high =
    let e : 7 ≡ i = omega arith in
    let all : levels / 2 ^ 54 ≡ (4 * levels + before) / 2 ^ 56 % 1024 = omega arith in
    all ∙ ap (λ n. (4 * levels + before) / 2 ^ (8 * n) % 1024) e

-- the bits of the words are those of the list
holds_bits : (words : List ℕ) (n j : ℕ) → j < length words → n ≤ 64 * length words
    → (k : ℕ) → k < 64 → 64 * j + k < length (take n (word_bits words)) → get_or (take n (word_bits words)) (64 * j + k) false ≡ eqb (bit_at (get_or words j 0) k) 1
holds_bits words n j inside room k below short =
    let long : length (take n (word_bits words)) ≡ n = length-take-le n (word_bits words) (omega (arith, length-word_bits words)) in
    get_or-take n (word_bits words) (64 * j + k) false (omega arith) ∙ get_or-word_bits words j k inside below

-- so many bits of words
pub length-taken : (words : List ℕ) (n : ℕ) → n ≤ 64 * length words → length (take n (word_bits words)) ≡ n
length-taken words n room = length-take-le n (word_bits words) (omega (arith, length-word_bits words))

-- the levels of word j, and the two before the next
pub record AreLevelsOf (bits : List Bool) (j levels before : ℕ) : Type 0 where
  pub here : AreLevelsFrom bits (64 * j) 66 (4 * levels + before)
  pub next : AreLevelsFrom bits (64 * (j + 1)) 2 (levels / 2 ^ 62)

pub levels_of_word : (words : List ℕ) (n i j before levels : ℕ) → i ≡ j → j < length words → n ≤ 64 * length words → before < 4 → GiveLevels (get_or words j 0) before levels
    → AreLevelsFrom (take n (word_bits words)) (64 * i) 2 before → AreLevelsOf (take n (word_bits words)) j levels before
levels_of_word words n i j before levels same inside room small gives so_far =
    let bits = take n (word_bits words) in
    let start : AreLevelsFrom bits (64 * j) 2 before = subst (λ m. AreLevelsFrom bits (64 * m) 2 before) same so_far in
    let here = levels_from bits (64 * j) (get_or words j 0) before levels small (holds_bits words n j inside room) gives start in
    let next : 64 * j + 64 ≡ 64 * (j + 1) = omega arith in
    record { here = here; next = subst (λ at. AreLevelsFrom bits at 2 (levels / 2 ^ 62)) next (levels_next bits (64 * j) levels before small here) }
