-- Vectors of 16 lanes: a product by two look-ups.
use Rattle.std.proofs.Common.{◌≡◌, ℕ, zero, suc, ◌+◌, ◌-◌, ◌*◌, ◌/◌, ◌%◌, ◌^◌, ◌<◌, List, [], ◌∷◌, ◌++◌, map, length, get_or, replicate, bit_and, bit_xor, refl, sym, ap, ap₂, ◌∙◌, subst, inl, inr, arith, w8, Fits}
use Rattle.std.proofs.lemmas.List.{get_or-map, get_or_past, get_or_append_left, get_or-append_right, length-map, ext_get_or}
use Rattle.std.proofs.lemmas.List.FromFn.{get_or-map-range_with_len, get_or-range_with_len}
use Rattle.std.proofs.lemmas.Bool.{cases_lt}
use Rattle.std.proofs.lemmas.Nat.{and_le_r, and_mask, xor_comm, xor_lt}
use Rattle.std.proofs.lemmas.Simd.{Each1-all, Each1-weaker, Each1-zip2, Each2-splat, below_from_Fits, length-zip2, get_or-zip2, zip2_splat, zip2_of_maps, swz_l, SwzOk, SwzOk-from_below, length-swz_l, get_or-swz_l_below}
use lib.Bits.{xor_shifted}
use lib.Lanes.{zip2, pick_l, Each1}
use Rattle.std.specs.List.{range_with_len}
use Rattle.rs_sector.specs.Field.{field_product, multiples, sum_below}
use Rattle.rs_sector.specs.Code.{AreBytes}
use Rattle.rs_sector.specs.Lanes.{entry, combination, combination_of, combination_of_first, AddsScaled, Eliminates}
use Rattle.rs_sector.proofs.Sums.{sum-suc}
use Rattle.rs_sector.proofs.FieldLaws.{product_of_sum, product-lt}

-- 16 lanes that are bytes
abbrev pub AreLanes : List ℕ → Type 0
AreLanes v = (length v ≡ 16) × Each1 (Fits w8) v

pub lane-lt : (v : List ℕ) (i : ℕ) → Each1 (Fits w8) v → get_or v i 0 < 256
lane-lt [] i h = omega arith
lane-lt (x ∷ xs) zero h = h.0.fits
lane-lt (x ∷ xs) (suc i) h = lane-lt xs i h.1

-- ---- the product of a byte from the products of its halves

pub get_or-multiples : (a step k : ℕ) → k < 16 → get_or (multiples a step) k 0 ≡ field_product a (k * step)
unfolding multiples
get_or-multiples a step k l = get_or-map-range_with_len (λ n. field_product a (n * step)) 0 16 k k 0 l (omega arith)

pub product_of_halves : (a b : ℕ) → b < 256 → bit_xor (get_or (multiples a 1) (bit_and b 15) 0) (get_or (multiples a 16) (b / 16) 0) ≡ field_product a b
product_of_halves a b l =
    let low : bit_and b 15 ≡ b % 16 = and_mask b 4 in
    let e : bit_xor (b % 16) (b / 16 * 16) ≡ b = xor_comm (b % 16) (b / 16 * 16) ∙ xor_shifted (b / 16) 4 (b % 16) (omega arith) ∙ omega arith in
    ap₂ bit_xor
    (ap (λ k. get_or (multiples a 1) k 0) low ∙ get_or-multiples a 1 (b % 16) (omega arith) ∙ ap (field_product a) (omega arith))
    (get_or-multiples a 16 (b / 16) (omega arith))
    ∙ sym (product_of_sum a (b % 16) (b / 16 * 16)) ∙ ap (field_product a) e

-- ---- the same in lanes

abbrev pub down : ℕ → ℕ → ℕ
down a b = a / 2 ^ b

pub high_ok : (v : List ℕ) → AreLanes v → SwzOk w8 16 16 0 (zip2 down v (replicate 16 4))
high_ok v fits =
    let small = Each1-weaker (λ a. a < 256) (λ a. a / 16 < 16) (λ a h. omega arith) v (below_from_Fits w8 v fits.1) in
    SwzOk-from_below w8 16 1 16 0 (zip2 down v (replicate 16 4)) refl (omega (arith, length-zip2 down v (replicate 16 4) fits.0))
    (Each1-zip2 down (λ j. j < 16) v (replicate 16 4) (Each2-splat (λ a b. down a b < 16) v 16 4 small))

pub low_ok : (v : List ℕ) → AreLanes v → SwzOk w8 16 16 0 (zip2 bit_and v (replicate 16 15))
low_ok v fits =
    let small = Each1-all (λ a. bit_and a 15 < 16) (λ a. omega (arith, and_le_r a 15)) v in
    SwzOk-from_below w8 16 1 16 0 (zip2 bit_and v (replicate 16 15)) refl (omega (arith, length-zip2 bit_and v (replicate 16 15) fits.0))
    (Each1-zip2 bit_and (λ j. j < 16) v (replicate 16 15) (Each2-splat (λ a b. bit_and a b < 16) v 16 15 small))

-- a table read at places g x below 16
looked_up : (t : List ℕ) (g : ℕ → ℕ) (v js : List ℕ) → AreLanes v → js ≡ map g v → ((x : ℕ) → x < 256 → g x < 16) → swz_l w8 16 t 0 js ≡ map (λ x. get_or t (g x) 0) v
looked_up t g v js fits e small =
    let long : length js ≡ 16 = ap length e ∙ length-map v g ∙ fits.0 in
    ext_get_or 0 _ _ (length-swz_l w8 16 t 0 js ∙ long ∙ sym (length-map v (λ x. get_or t (g x) 0) ∙ fits.0)) (λ i h.
    let lt : i < 16 = omega (arith, length-swz_l w8 16 t 0 js) in
    let within : i < length v = omega (arith, fits.0) in
    let is : get_or js i 0 ≡ g (get_or v i 0) = ap (λ l. get_or l i 0) e ∙ get_or-map g v i 0 0 within in
    let below : get_or js i 0 < 16 = omega (arith, small (get_or v i 0) (lane-lt v i fits.1)) in
    get_or-swz_l_below w8 16 t 0 js i (omega arith) below
    ∙ ap (λ k. get_or t k 0) (let first : 16 * ((0 + i) / 16) + get_or js i 0 ≡ get_or js i 0 = omega arith in first ∙ is)
    ∙ sym (get_or-map (λ x. get_or t (g x) 0) v i 0 0 within))

map_same : (f g : ℕ → ℕ) (v : List ℕ) → Each1 (Fits w8) v → ((x : ℕ) → x < 256 → f x ≡ g x) → map f v ≡ map g v
map_same f g [] h e = refl
map_same f g (x ∷ xs) h e = ap₂ (λ z zs. z ∷ zs) (e x h.0.fits) (map_same f g xs h.1 e)

pub scaled_lanes : (a : ℕ) (v low high : List ℕ) → AreLanes v → low ≡ multiples a 1 → high ≡ multiples a 16
    → zip2 bit_xor (swz_l w8 16 low 0 (zip2 bit_and v (replicate 16 15))) (swz_l w8 16 high 0 (zip2 down v (replicate 16 4))) ≡ map (λ x. field_product a x) v
scaled_lanes a v low high fits el eh =
    let lows = looked_up low (λ x. bit_and x 15) v _ fits (zip2_splat bit_and v 16 15 fits.0) (λ x h. omega (arith, and_le_r x 15)) in
    let highs = looked_up high (λ x. x / 16) v _ fits (zip2_splat down v 16 4 fits.0) (λ x h. omega arith) in
    zip2_of_maps bit_xor (λ x. get_or low (bit_and x 15) 0) (λ x. get_or high (x / 16) 0) v lows highs
    ∙ map_same _ _ v fits.1 (λ x l. ap₂ (λ s t. bit_xor (get_or s (bit_and x 15) 0) (get_or t (x / 16) 0)) el eh ∙ product_of_halves a x l)

-- ---- the sum of the rows

-- lane j after n rows
abbrev partial : List ℕ → List (List ℕ) → ℕ → ℕ → ℕ
partial bytes rows n j = sum_below (λ k. field_product (get_or bytes k 0) (entry rows k j)) n

pub first_none : (bytes : List ℕ) (rows : List (List ℕ)) → replicate 16 0 ≡ combination_of_first bytes rows 0
unfolding combination_of_first sum_below
first_none bytes rows = refl

pub first_more : (bytes : List ℕ) (rows : List (List ℕ)) (n : ℕ) (sums scaled : List ℕ) → sums ≡ combination_of_first bytes rows n
    → scaled ≡ map (λ x. field_product (get_or bytes n 0) x) (get_or rows n []) → length (get_or rows n []) ≡ 16 → zip2 bit_xor sums scaled ≡ combination_of_first bytes rows (n + 1)
unfolding combination_of_first
first_more bytes rows n sums scaled es et long =
    let range : length (range_with_len 0 16) ≡ 16 = refl in
    let length_sums : length sums ≡ 16 = ap length es in
    let length_scaled : length scaled ≡ 16 = ap length et ∙ length-map (get_or rows n []) (λ x. field_product (get_or bytes n 0) x) ∙ long in
    ext_get_or 0 (zip2 bit_xor sums scaled) _ (length-zip2 bit_xor sums scaled (length_sums ∙ sym length_scaled) ∙ length_sums) (λ j h.
    let lt : j < 16 = omega (arith, length-zip2 bit_xor sums scaled (length_sums ∙ sym length_scaled)) in
    get_or-zip2 bit_xor sums scaled j 0 0 0 (omega arith) (omega arith)
    ∙ ap₂ bit_xor
    (ap (λ l. get_or l j 0) es ∙ get_or-map-range_with_len (partial bytes rows n) 0 16 j j 0 lt (omega arith))
    (ap (λ l. get_or l j 0) et ∙ get_or-map (λ x. field_product (get_or bytes n 0) x) (get_or rows n []) j 0 0 (omega arith))
    ∙ sym (sum-suc (λ k. field_product (get_or bytes k 0) (entry rows k j)) n)
    ∙ ap (λ m. partial bytes rows m j) (let e : suc n ≡ n + 1 = omega arith in e)
    ∙ sym (get_or-map-range_with_len (partial bytes rows (n + 1)) 0 16 j j 0 lt (omega arith)))

pub first_all : (bytes : List ℕ) (rows : List (List ℕ)) (n : ℕ) (sums : List ℕ) → n ≡ length bytes → sums ≡ combination_of_first bytes rows n → sums ≡ combination_of bytes rows
unfolding combination_of combination combination_of_first
first_all bytes rows n sums e h = h ∙ ap (λ m. map (partial bytes rows m) (range_with_len 0 16)) e

-- ---- sums of vectors

-- the sum of two vectors of 16 bytes
xor_of_lanes : (xs ys : List ℕ) → length xs ≡ 16 → length ys ≡ 16 → AreBytes xs → AreBytes ys
    → (length (zip2 bit_xor xs ys) ≡ 16) × (AreBytes (zip2 bit_xor xs ys)) × ((j : ℕ) → j < 16 → get_or (zip2 bit_xor xs ys) j 0 ≡ bit_xor (get_or xs j 0) (get_or ys j 0))
xor_of_lanes xs ys lx ly bx by =
    let long : length (zip2 bit_xor xs ys) ≡ 16 = length-zip2 bit_xor xs ys (lx ∙ sym ly) ∙ lx in
    let sums : (j : ℕ) → j < 16 → get_or (zip2 bit_xor xs ys) j 0 ≡ bit_xor (get_or xs j 0) (get_or ys j 0) = λ j l. get_or-zip2 bit_xor xs ys j 0 0 0 (omega arith) (omega arith) in (
      long,
      λ j. elim (cases_lt j 16) [
        | inl l ↦ subst (λ x. x < 256) (sym (sums j l)) (xor_lt 8 (get_or xs j 0) (get_or ys j 0) (bx j) (by j))
        | inr g ↦ subst (λ x. x < 256) (sym (get_or_past (zip2 bit_xor xs ys) j 0 (omega arith))) (omega arith)
      ],
      sums,
    )

scaled_facts : (factor : ℕ) (lanes out : List ℕ) → length lanes ≡ 16 → out ≡ map (λ x. field_product factor x) lanes → (length out ≡ 16) × (AreBytes out) × ((j : ℕ) → j < 16 → get_or out j 0 ≡ field_product factor (get_or lanes j 0))
scaled_facts factor lanes out long e =
    let long_out : length out ≡ 16 = ap length e ∙ length-map lanes (λ x. field_product factor x) ∙ long in
    let products : (j : ℕ) → j < 16 → get_or out j 0 ≡ field_product factor (get_or lanes j 0) = λ j l. ap (λ s. get_or s j 0) e ∙ get_or-map (λ x. field_product factor x) lanes j 0 0 (omega arith) in (
      long_out,
      λ j. elim (cases_lt j 16) [
        | inl l ↦ subst (λ x. x < 256) (sym (products j l)) (product-lt factor (get_or lanes j 0))
        | inr g ↦ subst (λ x. x < 256) (sym (get_or_past out j 0 (omega arith))) (omega arith)
      ],
      products,
    )

pub adds_scaled : (old lanes out : List ℕ) (factor : ℕ) → length old ≡ 16 → AreBytes old → length lanes ≡ 16 → out ≡ map (λ x. field_product factor x) lanes → AddsScaled old (zip2 bit_xor old out) factor lanes
adds_scaled old lanes out factor lo bo ll e =
    let products = scaled_facts factor lanes out ll e in
    let all = xor_of_lanes old out lo products.0 bo products.1 in
    record { long = all.0; bytes = all.1; sums = λ j l. all.2 j l ∙ ap (bit_xor (get_or old j 0)) (products.2 j l) }

pub eliminates : (sums out : List ℕ) (point last : ℕ) → length sums ≡ 16 → AreBytes sums → out ≡ map (λ x. field_product point x) sums
    → Eliminates sums (zip2 bit_xor (pick_l 0 (sums ++ sums) (range_with_len 1 15 ++ last ∷ [])) out) point
eliminates sums out point last ls bs e =
    let places : List ℕ = range_with_len 1 15 ++ last ∷ [] in
    let next : List ℕ = pick_l 0 (sums ++ sums) places in
    let products = scaled_facts point sums out ls e in
    let twice : AreBytes (sums ++ sums) = λ k. elim (cases_lt k 16) [
      | inl l ↦ subst (λ x. x < 256) (sym (get_or_append_left sums sums 0 k (omega arith))) (bs k)
      | inr g ↦ subst (λ x. x < 256) (sym (get_or-append_right sums sums 16 k 0 ls g)) (bs (k - 16))
    ] in
    let picked : (j : ℕ) → j < 16 → get_or next j 0 ≡ get_or (sums ++ sums) (get_or places j 0) 0 = λ j l. get_or-map (λ k. get_or (sums ++ sums) k 0) places j 0 0 l in
    let next_bytes : AreBytes next = λ j. elim (cases_lt j 16) [
      | inl l ↦ subst (λ x. x < 256) (sym (picked j l)) (twice (get_or places j 0))
      | inr g ↦ subst (λ x. x < 256) (sym (get_or_past next j 0 g)) (omega arith)
    ] in
    let all = xor_of_lanes next out refl products.0 next_bytes products.1 in
    record {
      long = all.0;
      bytes = all.1;
      sums = λ j l.
          let here : get_or places j 0 ≡ j + 1 = get_or_append_left (range_with_len 1 15) (last ∷ []) 0 j l ∙ get_or-range_with_len 1 15 j 0 l ∙ omega arith in
          all.2 j (omega arith) ∙ ap₂ bit_xor (picked j (omega arith) ∙ ap (λ k. get_or (sums ++ sums) k 0) here ∙ get_or_append_left sums sums 0 (j + 1) (omega arith)) (products.2 j (omega arith));
    }
