-- The flags of one word.
use Rattle.std.proofs.Common.{◌≡◌, ℕ, zero, suc, ◌+◌, ◌-◌, ◌*◌, ◌<◌, Bool, false, List, length, get_or, arith, sym, ◌∙◌, refl}
use Rattle.std.specs.Prelude.{map, replicate}
use mathlib.Core.Logic.{inl, inr}
use Rattle.std.proofs.Math.Nat.{eq-zero-or-pos}
use Rattle.std.specs.List.{range_with_len}
use Rattle.std.proofs.lemmas.List.FromFn.{length-map-range_with_len, get_or-map-range_with_len}
use Rattle.std.proofs.lemmas.List.{ext_get_or, get_or_past}
use Rattle.channel_path.specs.Sector.{flags_of}

replicate_false : (n k : ℕ) → get_or (replicate n false) k false ≡ false
replicate_false zero k = refl
replicate_false (suc n) zero = refl
replicate_false (suc n) (suc k) = replicate_false n k

-- a list that has the word's flags at each place is the list of them
pub flags_from : (flags : List Bool) (i : ℕ) (word : List Bool) → length word ≡ 148 → ((k : ℕ) → k < 148 → get_or word k false ≡ get_or flags (4 * k + i) false) → word ≡ flags_of flags i
unfolding flags_of
flags_from flags i word long each =
    let f : ℕ → Bool = λ k. get_or flags (4 * k + i) false in
    ext_get_or false word (map f (range_with_len 0 148)) (long ∙ sym (length-map-range_with_len f 0 148))
    (λ k lt. each k (omega arith) ∙ sym (get_or-map-range_with_len f 0 148 k k false (omega arith) (omega arith)))

-- no flag of a word is set where none of the sector is
pub none_flagged : (flags : List Bool) (n i : ℕ) → flags ≡ replicate n false → (k : ℕ) → get_or (flags_of flags i) k false ≡ false
unfolding flags_of
none_flagged flags n i is k =
    let f : ℕ → Bool = λ j. get_or flags (4 * j + i) false in
    let none : (j : ℕ) → f j ≡ false = λ j. rw is (replicate_false n (4 * j + i)) in
    elim (eq-zero-or-pos (148 - k)) [
      | inl e ↦ get_or_past (map f (range_with_len 0 148)) k false (omega (arith, length-map-range_with_len f 0 148))
      | inr lt ↦ get_or-map-range_with_len f 0 148 k k false (omega arith) (omega arith) ∙ none k
    ]
