-- Numbers spelled by bits read, above the places of bits that wait.
use Rattle.std.proofs.Common.{◌≡◌, ℕ, ◌+◌, ◌*◌, ◌/◌, ◌%◌, ◌^◌, ◌<◌, Bool, true, false, not, ◌||◌, eqb, List, [], ◌∷◌, ◌++◌, map, length, take, drop, refl, sym, subst, ap, ◌∙◌, length-append, arith}
use Rattle.std.proofs.lemmas.Nat.{div-mul-add, mod-mul-add, pow-add, pow_pos}
use Rattle.std.proofs.Math.Nat.{mul-lt-mul_of_pos_right}
use Rattle.std.proofs.lemmas.List.{map-append, length-map, take-append-drop}
use Rattle.std.proofs.lemmas.Bool.Decides.{nat_tests}
use Rattle.rll_code.specs.Bits.{number}
use Rattle.rll_code.specs.Reading.{BitRead, is_flagged}
use Rattle.rll_code.specs.Steps.{places_waiting, spelled}
use Rattle.rll_code.proofs.BitLists.{number-append, number-bound, number-cons}

-- what stands before other bits is worth their places more
spelled-append : (part : BitRead → Bool) (xs ys : List BitRead) (z : ℕ) → number (map part (xs ++ ys)) * 2 ^ z ≡ number (map part xs) * 2 ^ (length ys + z) + number (map part ys) * 2 ^ z
spelled-append part xs ys z =
    let apart = ap number (map-append part xs ys) ∙ number-append (map part xs) (map part ys) in
    let long = length-map ys part in
    ap (λ n. n * 2 ^ z) (apart ∙ ap (λ k. number (map part xs) * 2 ^ k + number (map part ys)) long)
    ∙ (let e : (number (map part xs) * 2 ^ length ys + number (map part ys)) * 2 ^ z ≡ number (map part xs) * (2 ^ length ys * 2 ^ z) + number (map part ys) * 2 ^ z = omega arith in e)
    ∙ ap (λ p. number (map part xs) * p + number (map part ys) * 2 ^ z) (sym (pow-add 2 (length ys) z))

pub spelled-bound : (part : BitRead → Bool) (xs : List BitRead) (state n : ℕ) → length xs + places_waiting state ≡ n → spelled part xs state < 2 ^ n
spelled-bound part xs state n places =
    let z = places_waiting state in
    let below : number (map part xs) < 2 ^ length xs = subst (λ k. number (map part xs) < 2 ^ k) (length-map xs part) (number-bound (map part xs)) in
    let power : 2 ^ n ≡ 2 ^ length xs * 2 ^ z = ap (λ k. 2 ^ k) (sym places) ∙ pow-add 2 (length xs) z in
    subst (λ p. spelled part xs state < p) (sym power) (mul-lt-mul_of_pos_right below (pow_pos z))

-- bits kept, and two times four places behind them
pub spelled_joined : (part : BitRead → Bool) (kept first second : List BitRead) (state then last : ℕ) → length first + places_waiting then ≡ 4 + places_waiting state → length second + places_waiting last ≡ 4 + places_waiting then → spelled part kept state * 256 + spelled part first then * 16 + spelled part second last ≡ spelled part (kept ++ (first ++ second)) last
spelled_joined part kept first second state then last places_first places_second =
    let z = places_waiting last in
    let all = spelled-append part kept (first ++ second) z in
    let both = spelled-append part first second z in
    let high : length (first ++ second) + z ≡ 8 + places_waiting state = omega (arith, length-append first second) in
    let high_power : 2 ^ (length (first ++ second) + z) ≡ 256 * 2 ^ places_waiting state = ap (λ k. 2 ^ k) high ∙ pow-add 2 8 (places_waiting state) in
    let low_power : 2 ^ (length second + z) ≡ 16 * 2 ^ places_waiting then = ap (λ k. 2 ^ k) places_second ∙ pow-add 2 4 (places_waiting then) in
    omega (arith, all, both, ap (λ p. number (map part kept) * p) high_power, ap (λ p. number (map part first) * p) low_power)

-- three places from the end on are what is left of a division by 8
pub record CutAt (part : BitRead → Bool) (all : List BitRead) (state n : ℕ) : Type 0 where
  pub above : spelled part all state / 8 ≡ number (map part (take n all))
  pub below : spelled part all state % 8 ≡ spelled part (drop n all) state

pub spelled_cut : (part : BitRead → Bool) (all : List BitRead) (state n : ℕ) → length (drop n all) + places_waiting state ≡ 3 → CutAt part all state n
spelled_cut part all state n places =
    let front = take n all in
    let rest = drop n all in
    let value : spelled part all state ≡ number (map part front) * 8 + spelled part rest state =
    ap (λ l. spelled part l state) (sym (take-append-drop n all))
    ∙ spelled-append part front rest (places_waiting state)
    ∙ ap (λ k. number (map part front) * 2 ^ k + spelled part rest state) places in
    let small : spelled part rest state < 8 = spelled-bound part rest state 3 places in
    record {
      above = ap (λ v. v / 8) value ∙ div-mul-add (number (map part front)) 8 (spelled part rest state) small;
      below = ap (λ v. v % 8) value ∙ mod-mul-add (number (map part front)) 8 (spelled part rest state) small;
    }

positive : (n : ℕ) → 0 < n → not (eqb n 0) ≡ true
positive n more = grind (arith, nat_tests)

-- a bit is flagged where the flags spell no 0
pub flags_spell : (read : List BitRead) → not (eqb (number (map (λ b. b.flagged) read)) 0) ≡ is_flagged read
flags_spell [] = refl
flags_spell (b ∷ rest) = by_flag b.flagged (map (λ x. x.flagged) rest) (is_flagged rest) (flags_spell rest)
  where
    by_flag : (f : Bool) (fs : List Bool) (others : Bool) → not (eqb (number fs) 0) ≡ others → not (eqb (number (f ∷ fs)) 0) ≡ (f || others)
    by_flag true fs others e = positive (number (true ∷ fs)) (omega (arith, number-cons true fs, pow_pos (length fs)))
    by_flag false fs others e = e
