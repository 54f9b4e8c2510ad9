-- Eight bits gathered in the lowest bits of eight bytes, and moved by one product into the highest byte.
use Rattle.std.proofs.Common.{◌≡◌, ℕ, ◌*◌, ◌/◌, ◌%◌, Bool, true, false, ◌&&◌, List, [], ◌∷◌, length, get_or, bit_or, refl, sym, ◌∙◌, arith}
use Rattle.std.proofs.lemmas.Bool.{and_parts}
use lib.Pointwise.{pointwise}
use mir.Val.{bool_byte}
use Rattle.rll_code.specs.Bits.{same, low_bits, byte_bits}
use Rattle.rll_code.proofs.TableTests.{same_bits}

-- the highest byte of the product
abbrev pub moved : ℕ → ℕ → ℕ → ℕ → ℕ → ℕ → ℕ → ℕ → ℕ
moved a b c d e f g h =
    bit_or (bit_or (bit_or (bit_or (bit_or (bit_or (bit_or a (b * 256 % 18446744073709551616)) (c * 65536 % 18446744073709551616)) (d * 16777216 % 18446744073709551616)) (e * 4294967296 % 18446744073709551616)) (f * 1099511627776 % 18446744073709551616)) (g * 281474976710656 % 18446744073709551616)) (h * 72057594037927936 % 18446744073709551616) * 9241421688590303745 % 18446744073709551616 / 72057594037927936

-- whether a test passes at both bits
abbrev both : (Bool → Bool) → Bool
both test = test true && test false

one_of_both : (test : Bool → Bool) → both test ≡ true → (b : Bool) → test b ≡ true
one_of_both test h true = (and_parts (test true) (test false) h).0
one_of_both test h false = (and_parts (test true) (test false) h).1

abbrev passes : Bool → Bool → Bool → Bool → Bool → Bool → Bool → Bool → Bool
passes a b c d e f g h =
    pointwise same (byte_bits (moved (bool_byte a) (bool_byte b) (bool_byte c) (bool_byte d) (bool_byte e) (bool_byte f) (bool_byte g) (bool_byte h))) (a ∷ b ∷ c ∷ d ∷ e ∷ f ∷ g ∷ h ∷ [])

all_pass : both (λ a. both (λ b. both (λ c. both (λ d. both (λ e. both (λ f. both (λ g. both (λ h. passes a b c d e f g h)))))))) ≡ true
unfolding low_bits
all_pass = refl

each_passes : (a b c d e f g h : Bool) → passes a b c d e f g h ≡ true
each_passes a b c d e f g h =
    let pa = one_of_both (λ a. both (λ b. both (λ c. both (λ d. both (λ e. both (λ f. both (λ g. both (λ h. passes a b c d e f g h)))))))) all_pass a in
    let pb = one_of_both (λ b. both (λ c. both (λ d. both (λ e. both (λ f. both (λ g. both (λ h. passes a b c d e f g h))))))) pa b in
    let pc = one_of_both (λ c. both (λ d. both (λ e. both (λ f. both (λ g. both (λ h. passes a b c d e f g h)))))) pb c in
    let pd = one_of_both (λ d. both (λ e. both (λ f. both (λ g. both (λ h. passes a b c d e f g h))))) pc d in
    let pe = one_of_both (λ e. both (λ f. both (λ g. both (λ h. passes a b c d e f g h)))) pd e in
    let pf = one_of_both (λ f. both (λ g. both (λ h. passes a b c d e f g h))) pe f in
    let pg = one_of_both (λ g. both (λ h. passes a b c d e f g h)) pf g in
    one_of_both (λ h. passes a b c d e f g h) pg h

-- eight bits, one by one
pub eight : (xs : List Bool) → length xs ≡ 8 → xs ≡ get_or xs 0 false ∷ get_or xs 1 false ∷ get_or xs 2 false ∷ get_or xs 3 false ∷ get_or xs 4 false ∷ get_or xs 5 false ∷ get_or xs 6 false ∷ get_or xs 7 false ∷ []
eight (a ∷ b ∷ c ∷ d ∷ e ∷ f ∷ g ∷ h ∷ []) long = refl
eight [] long = absurd (omega arith)
eight (a ∷ []) long = absurd (omega arith)
eight (a ∷ b ∷ []) long = absurd (omega arith)
eight (a ∷ b ∷ c ∷ []) long = absurd (omega arith)
eight (a ∷ b ∷ c ∷ d ∷ []) long = absurd (omega arith)
eight (a ∷ b ∷ c ∷ d ∷ e ∷ []) long = absurd (omega arith)
eight (a ∷ b ∷ c ∷ d ∷ e ∷ f ∷ []) long = absurd (omega arith)
eight (a ∷ b ∷ c ∷ d ∷ e ∷ f ∷ g ∷ []) long = absurd (omega arith)
eight (a ∷ b ∷ c ∷ d ∷ e ∷ f ∷ g ∷ h ∷ i ∷ more) long = absurd (omega arith)

-- the byte has the bits that were gathered
pub packed_bits : (xs : List Bool) (a b c d e f g h : ℕ) → length xs ≡ 8 → a ≡ bool_byte (get_or xs 0 false) → b ≡ bool_byte (get_or xs 1 false) → c ≡ bool_byte (get_or xs 2 false) → d ≡ bool_byte (get_or xs 3 false) → e ≡ bool_byte (get_or xs 4 false) → f ≡ bool_byte (get_or xs 5 false) → g ≡ bool_byte (get_or xs 6 false) → h ≡ bool_byte (get_or xs 7 false) → byte_bits (moved a b c d e f g h) ≡ xs
packed_bits xs a b c d e f g h long ia ib ic id ie if ig ih =
    let x = λ (k : ℕ). get_or xs k false in
    rw (ia, ib, ic, id, ie, if, ig, ih) (same_bits _ _ (each_passes (x 0) (x 1) (x 2) (x 3) (x 4) (x 5) (x 6) (x 7)) ∙ sym (eight xs long))
