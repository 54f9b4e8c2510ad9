-- Values at places of a list of which a part was written.
use Rattle.std.proofs.Common.{◌≡◌, ℕ, ◌+◌, ◌-◌, ◌<◌, ◌≤◌, ◌⊎◌, Bool, true, List, ◌++◌, map, length, take, drop, get_or, ℤ, pos, sym, ap, ◌∙◌, inl, inr, arith}
use Rattle.std.specs.List.{range_with_len}
use Rattle.std.proofs.lemmas.Bool.{cases_lt}
use Rattle.std.proofs.lemmas.List.{get_or-take, get_or-append_right, get_or_append_left, length-take-le}
use Rattle.std.proofs.lemmas.List.FromFn.{fill_by_all}
use borrow.Rule.Slice.PartMut.{put_mid}
use Rattle.prml_viterbi.specs.Levels.{level_word, clean_at, clean_samples}
use Rattle.prml_viterbi.proofs.ChannelBits.{length-levels_after}

-- a part written behind what was written before
pub part_written : (f : ℕ → ℤ) (out ys : List ℤ) (a k n : ℕ) → a ≤ length out → n ≡ a + length ys
    → ((i : ℕ) → i < a → get_or out i (pos 0) ≡ f i)
    → ((i : ℕ) → i < length ys → get_or ys i (pos 0) ≡ f (a + i))
    → (i : ℕ) → i < n → get_or (put_mid a k out ys) i (pos 0) ≡ f i
part_written f out ys a k n inside end before part i less = by_place (cases_lt i a)
  where
    by_place : (i < a) ⊎ (a ≤ i) → get_or (take a out ++ (ys ++ drop k (drop a out))) i (pos 0) ≡ f i
    by_place (inl low) =
        get_or_append_left (take a out) (ys ++ drop k (drop a out)) (pos 0) i (omega (arith, length-take-le a out inside))
        ∙ get_or-take a out i (pos 0) low
        ∙ before i low
    by_place (inr high) =
        let e : a + (i - a) ≡ i = omega arith in
        get_or-append_right (take a out) (ys ++ drop k (drop a out)) a i (pos 0) (length-take-le a out inside) high
        ∙ get_or_append_left ys (drop k (drop a out)) (pos 0) (i - a) (omega arith)
        ∙ part (i - a) (omega arith)
        ∙ ap f e

-- all places hold the clean samples
pub all_samples : (bits : List Bool) (out : List ℤ) (n : ℕ) → length out ≡ n → length bits ≡ n
    → ((k : ℕ) → k < n → get_or out k (pos 0) ≡ clean_at (level_word bits) k) → out ≡ clean_samples (level_word bits)
all_samples bits out n long same each =
    fill_by_all (clean_at (level_word bits)) out n (pos 0) long each
    ∙ ap (λ m. map (clean_at (level_word bits)) (range_with_len 0 m)) (sym (length-levels_after true bits ∙ same))
