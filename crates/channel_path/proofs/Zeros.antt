-- Samples that are all zero.
use Rattle.std.proofs.Common.{◌≡◌, ℕ, zero, suc, ◌+◌, ◌-◌, ◌*◌, ◌/◌, ◌%◌, ◌^◌, ◌<◌, ◌≤◌, Bool, true, false, List, [], ◌∷◌, length, take, get_or, arith, sym, ap, ◌∙◌, refl, subst, lit<, lit≤}
use Rattle.std.specs.Prelude.{map, replicate, ℤ, pos, None}
use Rattle.std.specs.List.{range_with_len}
use Rattle.std.proofs.lemmas.List.{ext_get_or, length-replicate, get_or-replicate, get_or-map}
use Rattle.std.proofs.lemmas.List.FromFn.{length-map-range_with_len, get_or-map-range_with_len}
use Rattle.rs_sector.specs.Field.{polynomial_product, polynomial_remainder, field_product, power, sum_below}
use Rattle.rs_sector.specs.Code.{IsCodeword, value_at, count_below}
use Rattle.rs_sector.specs.Decoding.{IsNear, IsNearErased, is_marked, marked}
use Rattle.rs_sector.specs.Sector.{word_of, bytes_of}
use Rattle.std.proofs.Math.Nat.{zero-div, zero-mul, mul-zero}
use Rattle.disk_base.specs.declared.payload.Payload.{Payload}
use Rattle.disk_base.specs.declared.stage.How.{How}
use Rattle.disk_base.specs.declared.stage.How.TheVariants.{Light, Full, Erased}
use Rattle.disk_base.specs.Payload.{layout}
use Rattle.rs_sector.specs.Code.{differs_at}
use Rattle.rs_sector.specs.Laws.{HaveOneNear}
use Rattle.prml_viterbi.specs.Levels.{channel_bits, SpacedGiveAllowed, InvertEachOther}
use Rattle.prml_viterbi.specs.Detected.{IsDetected, IsUnique, CleanSamplesTell}
use Rattle.channel_path.specs.Sector.{AreHeard, IsInReach, flags_of}
use Rattle.channel_path.specs.Laws.{ZerosReadAsNothing}
use Rattle.channel_path.proofs.Back.{count-none, same_nowhere, gathered_at}
use Rattle.rll_code.specs.Bits.{octets}
use Rattle.rll_code.specs.Reading.{unread, row_at, reading_after, reading, byte_of, is_flagged, bytes_read, flags_read}
use Rattle.prml_viterbi.specs.Levels.{level_word, level_at, clean_at, clean_samples, AreSpaced}

-- the levels of a word without a 1
high_levels : (n : ℕ) → level_word (replicate n false) ≡ replicate n (pos 1)
high_levels zero = refl
high_levels (suc n) = ap (λ t. pos 1 ∷ t) (high_levels n)

-- each level of such a word, and of those before it
high_at : (n k : ℕ) → get_or (replicate n (pos 1)) k (pos 1) ≡ pos 1
high_at zero k = refl
high_at (suc n) zero = refl
high_at (suc n) (suc k) = high_at n k

level_high : (n k : ℕ) → level_at (replicate n (pos 1)) k ≡ pos 1
level_high n zero = refl
level_high n (suc zero) = refl
level_high n (suc (suc zero)) = refl
level_high n (suc (suc (suc k))) = high_at n k

-- its clean samples
clean_zero : (n k : ℕ) → clean_at (replicate n (pos 1)) k ≡ pos 0
clean_zero n k = rw (level_high n (suc (suc (suc k))), level_high n (suc k))

clean_zeros : (n : ℕ) → clean_samples (replicate n (pos 1)) ≡ replicate n (pos 0)
clean_zeros n =
    let word : List ℤ = replicate n (pos 1) in
    ext_get_or (pos 0) (clean_samples word) (replicate n (pos 0))
    (length-map-range_with_len (clean_at word) 0 (length word) ∙ length-replicate n (pos 1) ∙ sym (length-replicate n (pos 0)))
    (λ k h. let lt : k < n = omega (arith, length-map-range_with_len (clean_at word) 0 (length word), length-replicate n (pos 1)) in
    get_or-map-range_with_len (clean_at word) 0 (length word) k k (pos 0) (omega (arith, length-replicate n (pos 1))) (omega arith)
    ∙ clean_zero n k ∙ sym (get_or-replicate n k (pos 0) (pos 0) lt))

zero_samples : (n : ℕ) → clean_samples (level_word (replicate n false)) ≡ replicate n (pos 0)
zero_samples n = ap clean_samples (high_levels n) ∙ clean_zeros n

-- no 1 has to be followed by 0s
no_ones : (n k : ℕ) → get_or (replicate n false) k false ≡ false
no_ones zero k = refl
no_ones (suc n) zero = refl
no_ones (suc n) (suc k) = no_ones n k

spaced_zeros : (n : ℕ) → AreSpaced (replicate n false)
spaced_zeros n k one = absurd (let no : get_or (replicate n false) k false ≡ false = no_ones n k in cc)

-- no right side begins where no 1 stands
no_row : (n : ℕ) → row_at (replicate n false) ≡ None
no_row zero = refl
no_row (suc zero) = refl
no_row (suc (suc zero)) = refl
no_row (suc (suc (suc zero))) = refl
no_row (suc (suc (suc (suc zero)))) = refl
no_row (suc (suc (suc (suc (suc zero))))) = refl
no_row (suc (suc (suc (suc (suc n))))) = refl

-- twice a number
doubled : ℕ → ℕ
doubled zero = zero
doubled (suc m) = suc (suc (doubled m))

-- each two channel bits give one bit that is flagged
reading_zeros : (m : ℕ) → reading (replicate (doubled m) false) ≡ replicate m unread
unfolding doubled reading_after
reading_zeros zero = refl
reading_zeros (suc m) = rw (no_row (suc (suc (doubled m)))) (ap (λ t. unread ∷ t) (reading_zeros m))

-- eight for each byte, and three
eights : ℕ → ℕ
eights zero = 3
eights (suc k) = suc (suc (suc (suc (suc (suc (suc (suc (eights k))))))))

octets_same : (k : ℕ) → octets (replicate (eights k) unread) ≡ replicate k (replicate 8 unread)
unfolding eights octets
octets_same zero = refl
octets_same (suc k) = ap (λ t. replicate 8 unread ∷ t) (octets_same k)

map_same : {X Y : Type 0} (f : X → Y) (x : X) (n : ℕ) → map f (replicate n x) ≡ replicate n (f x)
map_same f x zero = refl
map_same f x (suc n) = ap (λ t. f x ∷ t) (map_same f x n)

doubled_bits : doubled 4739 ≡ 9478
unfolding doubled
doubled_bits = refl

eights_bits : eights 592 ≡ 4739
unfolding eights
eights_bits = refl

pieces : octets (reading (replicate 9478 false)) ≡ replicate 592 (replicate 8 unread)
pieces =
    ap (λ n. octets (reading (replicate n false))) (sym doubled_bits) ∙ ap octets (reading_zeros 4739)
    ∙ ap (λ n. octets (replicate n unread)) (sym eights_bits) ∙ octets_same 592

-- zero bytes, each of them flagged
bytes_zero : bytes_read (replicate 9478 false) ≡ replicate 592 0
bytes_zero = ap (map byte_of) pieces ∙ map_same byte_of (replicate 8 unread) 592

flags_set : flags_read (replicate 9478 false) ≡ replicate 592 true
flags_set = ap (map is_flagged) pieces ∙ map_same is_flagged (replicate 8 unread) 592

-- the field's zero times anything
zero_product : (n b : ℕ) → polynomial_product n 0 b ≡ 0
unfolding polynomial_product
zero_product zero b = refl
zero_product (suc n) b = rw (zero_product n b, zero-mul (2 ^ n), mul-zero (b / 2 ^ n % 2))

zero_remainder : (n : ℕ) → polynomial_remainder n 0 ≡ 0
unfolding polynomial_remainder
zero_remainder zero = refl
zero_remainder (suc n) = rw (zero-div (2 ^ (8 + n)), zero-mul (285 * 2 ^ n)) (zero_remainder n)

field_zero : (b : ℕ) → field_product 0 b ≡ 0
unfolding field_product
field_zero b = ap (polynomial_remainder 7) (zero_product 8 (b % 256)) ∙ zero_remainder 7

sum_zero : (f : ℕ → ℕ) (n : ℕ) → ((k : ℕ) → f k ≡ 0) → sum_below f n ≡ 0
unfolding sum_below
sum_zero f zero none = refl
sum_zero f (suc n) none = rw (sum_zero f n none, none n)

zero_at : (n k : ℕ) → get_or (replicate {A = ℕ} n 0) k 0 ≡ 0
zero_at zero k = refl
zero_at (suc n) zero = refl
zero_at (suc n) (suc k) = zero_at n k

value_zero : (y n : ℕ) → value_at y (replicate {A = ℕ} n 0) ≡ 0
unfolding value_at
value_zero y n =
    let word : List ℕ = replicate n 0 in
    sum_zero (λ k. field_product (get_or word k 0) (power y (length word - 1 - k))) (length word)
    (λ k. ap (λ x. field_product x (power y (length word - 1 - k))) (zero_at n k) ∙ field_zero (power y (length word - 1 - k)))

-- the word of zeros is a codeword
zero_codeword : (n : ℕ) → n ≡ 148 → IsCodeword (replicate {A = ℕ} n 0)
zero_codeword n is = record {
  long = length-replicate {A = ℕ} n 0 ∙ is;
  bytes = λ k. rw (zero_at n k) (lit< tt);
  zeros = λ j h. value_zero (power 2 j) n;
}

-- the word that zero bytes are dealt to
dealt_zeros : (n i : ℕ) → word_of n (replicate {A = ℕ} (4 * n) 0) i ≡ replicate n 0
unfolding word_of
dealt_zeros n i =
    let f : ℕ → ℕ = λ k. get_or (replicate {A = ℕ} (4 * n) 0) (4 * k + i) 0 in
    ext_get_or 0 (map f (range_with_len 0 n)) (replicate {A = ℕ} n 0) (length-map-range_with_len f 0 n ∙ sym (length-replicate {A = ℕ} n 0))
    (λ k h. get_or-map-range_with_len f 0 n k k 0 (omega (arith, length-map-range_with_len f 0 n)) (omega arith)
    ∙ zero_at (4 * n) (4 * k + i) ∙ sym (zero_at n k))

-- as many pass a test as there are, where each does
count-all : (test : ℕ → Bool) (n : ℕ) → ((k : ℕ) → k < n → test k ≡ true) → count_below test n ≡ n
unfolding count_below
count-all test zero each = refl
count-all test (suc n) each = rw (count-all test n (λ k h. each k (omega arith)), each n (omega arith)) (omega arith)

-- each byte of the word is flagged
flags_all : (i k : ℕ) → i < 4 → k < 148 → get_or (flags_of (replicate 592 true) i) k false ≡ true
unfolding flags_of
flags_all i k hi hk =
    get_or-map-range_with_len (λ j. get_or (replicate 592 true) (4 * j + i) false) 0 148 k k false hk (omega arith)
    ∙ get_or-replicate 592 (4 * k + i) true false (omega arith)

all_marked : (i : ℕ) → i < 4 → marked (flags_of (replicate 592 true) i) ≡ 148
unfolding marked
all_marked i h = count-all (is_marked (flags_of (replicate 592 true) i)) 148 (λ k hk. flags_all i k h hk)

-- what zero samples are heard as: zero bytes, each flagged
heard_zeros : IsUnique → CleanSamplesTell → SpacedGiveAllowed → InvertEachOther → (bytes : List ℕ) (flags : List Bool)
    → AreHeard (replicate 9478 (pos 0)) bytes flags → (bytes ≡ replicate 592 0) × (flags ≡ replicate 592 true)
heard_zeros unique tell allowed invert bytes flags heard =
    let channel : List Bool = replicate 9478 false in
    let high : IsDetected (replicate 9478 (pos 0)) (level_word channel)
    = subst (λ samples. IsDetected samples (level_word channel)) (zero_samples 9478) (tell (level_word channel) (allowed channel (spaced_zeros 9478))) in
    let same : channel_bits heard.word ≡ channel
    = ap channel_bits (unique (replicate 9478 (pos 0)) heard.word (level_word channel) heard.detected high) ∙ invert.bits channel in (
      heard.bytes_are ∙ ap bytes_read same ∙ bytes_zero,
      heard.flags_are ∙ ap flags_read same ∙ flags_set,
    )

-- with the word of zeros in reach, the payload's first byte is 0
no_kind : (codewords : List (List ℕ)) (payload : Payload) → length codewords ≡ 4 → get_or codewords 0 [] ≡ replicate 148 0
    → layout payload ≡ bytes_of 132 (map (take 132) codewords) → payload.kind ≡ 0
no_kind codewords payload four first joined =
    ap (λ t. get_or t 0 0) joined
    ∙ gathered_at 132 (map (take 132) codewords) 0 0 (lit< tt)
    ∙ ap (λ word. get_or word 0 0) (get_or-map (take 132) codewords 0 [] [] (omega arith))
    ∙ ap (λ word. get_or (take 132 word) 0 0) first

-- the codeword of the first word, by a way of decoding that isn't by erasures, is that of zeros
near_zeros : HaveOneNear → (radius : ℕ) (codeword : List ℕ) → radius ≤ 8 → IsNear (word_of 148 (replicate 592 0) 0) radius codeword → codeword ≡ replicate 148 0
near_zeros one radius codeword small near =
    let zeros : List ℕ = replicate 148 0 in
    let dealt : word_of 148 (replicate 592 0) 0 ≡ zeros = dealt_zeros 148 0 in
    let here : IsNear zeros radius codeword = subst (λ word. IsNear word radius codeword) dealt near in
    let own : IsNear zeros radius zeros = record {
      is_codeword = zero_codeword 148 refl;
      near = omega (arith, count-none (differs_at zeros zeros) 148 (same_nowhere zeros));
    } in
    one zeros codeword zeros radius small here own

-- too many bytes are flagged for a decoding by erasures
erased_zeros : (codeword : List ℕ) → IsNearErased (word_of 148 (replicate 592 0) 0) (flags_of (replicate 592 true) 0) codeword → ⊥
erased_zeros codeword near = omega (arith, near.near, all_marked 0 (lit< tt))

-- by no way of decoding do zero samples read as a payload
reached : HaveOneNear → (how : How) (codewords : List (List ℕ)) (payload : Payload) → length codewords ≡ 4
    → IsInReach how (word_of 148 (replicate 592 0) 0) (flags_of (replicate 592 true) 0) (get_or codewords 0 [])
    → layout payload ≡ bytes_of 132 (map (take 132) codewords) → 1 ≤ payload.kind → ⊥
reached one Light codewords payload four near joined kind =
    omega (arith, no_kind codewords payload four (near_zeros one 4 (get_or codewords 0 []) (lit≤ tt) near) joined)
reached one Full codewords payload four near joined kind =
    omega (arith, no_kind codewords payload four (near_zeros one 8 (get_or codewords 0 []) (lit≤ tt) near) joined)
reached one Erased codewords payload four near joined kind = erased_zeros (get_or codewords 0 []) near

pub nothing_read : IsUnique → CleanSamplesTell → SpacedGiveAllowed → InvertEachOther → HaveOneNear → ZerosReadAsNothing
nothing_read unique tell allowed invert one p how payload reads =
    let heard = heard_zeros unique tell allowed invert reads.bytes reads.flags reads.heard in
    let here : IsInReach how (word_of 148 (replicate 592 0) 0) (flags_of (replicate 592 true) 0) (get_or reads.codewords 0 [])
    = rw (heard.0, heard.1) at (reads.in_reach.each 0 (lit< tt)) in
    reached one how reads.codewords payload reads.in_reach.four here reads.joined reads.of_sector.lowest
