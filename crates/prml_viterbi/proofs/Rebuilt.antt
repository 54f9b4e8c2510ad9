-- The way forward over clean samples: what is written so far is the one word that can have them.
use Rattle.std.proofs.Common.{◌≡◌, ◌≢◌, ℕ, suc, ◌+◌, ◌<◌, ◌≤◌, List, length, ℤ, pos, ◌-ℤ◌, ◌*ℤ◌, get_or, set, refl, sym, ◌∙◌, subst, below_more, arith, get_or-set_same, get_or-set_other}
use Rattle.std.proofs.Math.Numerals.{add-one}
use Rattle.std.proofs.lemmas.List.{ext_get_or}
use Rattle.prml_viterbi.specs.Levels.{IsLevel, level_at}
use Rattle.prml_viterbi.specs.Clean.{AreClean, AreRebuilt}
use Rattle.prml_viterbi.proofs.LevelWords.{level_at-is_level}
use Rattle.prml_viterbi.proofs.CleanPlaces.{IsAllowed-from_clean}

pub AreRebuilt-none : (samples out : List ℤ) → AreRebuilt samples out (pos 1) (pos 1) 0
AreRebuilt-none samples out word long clean = record { two_is = refl; one_is = refl; levels = λ j h. absurd (omega arith) }

-- the level moved to is the word's
pub moved-level : (samples out : List ℤ) (two one level : ℤ) (k : ℕ) → k < length samples
    → ((l : ℤ) → IsLevel l → IsLevel two → get_or samples k (pos 0) ≡ pos 16 *ℤ (l -ℤ two) → level ≡ l)
    → AreRebuilt samples out two one k
    → (word : List ℤ) → length word ≡ length samples → AreClean samples word → level ≡ level_at word (suc (suc (suc k)))
moved-level samples out two one level k inside moved before word long clean =
    let so_far = before word long clean in
    let here = clean k inside in
    let is_level = level_at-is_level word (IsAllowed-from_clean samples word long clean).levels (suc k) in
    moved (level_at word (suc (suc (suc k)))) here.is_level (subst IsLevel (sym so_far.two_is) is_level) (rw so_far.two_is here.clean)

pub AreRebuilt-more : (samples out : List ℤ) (two one level : ℤ) (k : ℕ) → k < length samples → length out ≡ length samples
    → ((l : ℤ) → IsLevel l → IsLevel two → get_or samples k (pos 0) ≡ pos 16 *ℤ (l -ℤ two) → level ≡ l)
    → AreRebuilt samples out two one k
    → AreRebuilt samples (set out k level) one level (k + 1)
AreRebuilt-more samples out two one level k inside room moved before word long clean =
    let so_far = before word long clean in
    let level_is = moved-level samples out two one level k inside moved before word long clean in
    record {
      two_is = rw add-one so_far.one_is;
      one_is = rw add-one level_is;
      levels = below_more (λ j. get_or (set out k level) j (pos 1) ≡ get_or word j (pos 1)) k
          (λ j h. let ne : j ≢ k = omega arith in get_or-set_other out k j level (pos 1) ne ∙ so_far.levels j h)
          (get_or-set_same out k level (pos 1) (omega arith) ∙ level_is);
    }

-- where one of the last two is no level, no word has these clean samples
pub no_word : (samples out : List ℤ) (two one : ℤ) (k : ℕ) → AreRebuilt samples out two one k → (IsLevel two → IsLevel one → ⊥)
    → (word : List ℤ) → length word ≡ length samples → AreClean samples word → ⊥
no_word samples out two one k rebuilt none word long clean =
    let so_far = rebuilt word long clean in
    let levels = (IsAllowed-from_clean samples word long clean).levels in
    none (subst IsLevel (sym so_far.two_is) (level_at-is_level word levels (suc k))) (subst IsLevel (sym so_far.one_is) (level_at-is_level word levels (suc (suc k))))

pub AreRebuilt-all : (samples out : List ℤ) (two one : ℤ) (k : ℕ) → length samples ≤ k → length out ≡ length samples
    → AreRebuilt samples out two one k → (word : List ℤ) → length word ≡ length samples → AreClean samples word → out ≡ word
AreRebuilt-all samples out two one k all room rebuilt word long clean =
    ext_get_or (pos 1) out word (room ∙ sym long) (λ i h. (rebuilt word long clean).levels i (omega arith))
