-- Samples in words that are the clean ones of channel bits.
use Rattle.std.proofs.Common.{◌≡◌, ℕ, ◌+◌, ◌-◌, ◌*◌, ◌/◌, ◌%◌, ◌^◌, ◌<◌, ◌≤◌, Bool, true, ◌&&◌, Decides, List, length, take, drop, get_or, ℤ, pos, sym, ap, ◌∙◌, inl, inr, arith}
use Rattle.std.proofs.lemmas.Bool.{cases_lt}
use Rattle.std.proofs.lemmas.Bool.Decides.{Decides-and, Decides-like}
use Rattle.std.proofs.lemmas.List.{get_or-take, get_or-drop}
use Rattle.std.proofs.lemmas.List.FromFn.{get_or-map-range_with_len}
use Rattle.prml_viterbi.specs.Levels.{level_word, clean_at, clean_samples}
use Rattle.prml_viterbi.specs.LevelBits.{AreSamplesBy, sample_by}
use Rattle.prml_viterbi.proofs.ChannelBits.{length-levels_after}
use Rattle.prml_viterbi.proofs.LevelNumbers.{AreLevelsFrom, sample_cut, sample_from}

-- a row of eight samples more
pub row_more : (samples row : List ℤ) (t i : ℕ) (so_far here : Bool) → ((k : ℕ) → k < 8 → get_or row k (pos 0) ≡ get_or samples (8 * i + k) (pos 0))
    → Decides so_far (AreSamplesBy samples t (8 * i)) → Decides here (AreSamplesBy row (t / 2 ^ (8 * i) % 1024) 8) → Decides (so_far && here) (AreSamplesBy samples t (8 * (i + 1)))
row_more samples row t i so_far here same before now =
    Decides-like (so_far && here) joined (λ f. (λ k less. f k (omega arith), λ k less. same k less ∙ f (8 * i + k) (omega arith) ∙ sym (sample_cut t (8 * i) k less))) (Decides-and so_far here before now)
  where
    joined : AreSamplesBy samples t (8 * i) × AreSamplesBy row (t / 2 ^ (8 * i) % 1024) 8 → AreSamplesBy samples t (8 * (i + 1))
    joined p k less = elim (cases_lt k (8 * i)) [
      | inl low ↦ p.0 k low
      | inr high ↦
          let e : 8 * i + (k - 8 * i) ≡ k = omega arith in
          ap (λ j. get_or samples j (pos 0)) (sym e) ∙ sym (same (k - 8 * i) (omega arith)) ∙ p.1 (k - 8 * i) (omega arith) ∙ sample_cut t (8 * i) (k - 8 * i) (omega arith) ∙ ap (sample_by t) e
    ]

-- all samples are clean, place by place
abbrev pub AreCleanTo : List ℤ → List Bool → ℕ → Type 0
AreCleanTo samples bits count = (k : ℕ) → k < count → get_or samples k (pos 0) ≡ clean_at (level_word bits) k

pub clean_places : (samples : List ℤ) (bits : List Bool) (n : ℕ) → length bits ≡ n → samples ≡ clean_samples (level_word bits) → AreCleanTo samples bits n
clean_places samples bits n long is k less =
    let levels_long : length (level_word bits) ≡ n = length-levels_after true bits ∙ long in
    ap (λ l. get_or l k (pos 0)) is ∙ get_or-map-range_with_len (clean_at (level_word bits)) 0 (length (level_word bits)) k k (pos 0) (omega arith) (omega arith)

-- a part of the samples, and the whole up to its end
pub clean_more : (samples part : List ℤ) (bits : List Bool) (at t count n : ℕ) → AreLevelsFrom bits at 66 t → at + count ≤ length bits → count ≤ 64 → n ≡ at + count → ((k : ℕ) → k < count → get_or part k (pos 0) ≡ get_or samples (at + k) (pos 0)) → AreSamplesBy part t count → AreCleanTo samples bits at → AreCleanTo samples bits n
clean_more samples part bits at t count n levels inside few end same here so_far k less = elim (cases_lt k at) [
  | inl low ↦ so_far k low
  | inr high ↦
      let e : at + (k - at) ≡ k = omega arith in
      ap (λ i. get_or samples i (pos 0)) (sym e) ∙ sym (same (k - at) (omega arith)) ∙ here (k - at) (omega arith) ∙ sym (sample_from bits at t levels (k - at) (omega arith) (omega arith)) ∙ ap (clean_at (level_word bits)) e
]

pub clean_part : (samples part : List ℤ) (bits : List Bool) (at t count n : ℕ) → AreLevelsFrom bits at 66 t → at + count ≤ length bits → count ≤ 64 → at + count ≤ n → ((k : ℕ) → k < count → get_or part k (pos 0) ≡ get_or samples (at + k) (pos 0)) → AreCleanTo samples bits n → AreSamplesBy part t count
clean_part samples part bits at t count n levels inside few end same clean k less =
    same k less ∙ clean (at + k) (omega arith) ∙ sample_from bits at t levels k (omega arith) (omega arith)

-- samples cut out of others
pub slice_place : (samples : List ℤ) (a m k : ℕ) → k < m → get_or (take m (drop a samples)) k (pos 0) ≡ get_or samples (a + k) (pos 0)
slice_place samples a m k less = get_or-take m (drop a samples) k (pos 0) less ∙ get_or-drop a samples k (pos 0)
