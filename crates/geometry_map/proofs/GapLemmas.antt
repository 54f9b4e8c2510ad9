-- The gaps count how often a place slips.
use Rattle.std.proofs.Common.{◌≡◌, ℕ, ◌+◌, ◌-◌, ◌<◌, ◌≤◌, zero, suc, true, false, List, [], ◌∷◌, ◌++◌, length, take, get_or, refl, sym, subst, ◌∙◌, ap, inl, inr, arith, length-take}
use Rattle.std.proofs.lemmas.List.{take_more}
use Rattle.std.specs.Prelude.{nat_le, map}
use Rattle.std.specs.List.{enumerate_from}
use Rattle.std.specs.List.Sorted.{IsPartitionPoint, IsPartitionedBy, IsNonDecreasingBy}
use Rattle.std.proofs.lemmas.List.Sorted.{IsPartitionedBy-leb}
use Rattle.std.proofs.lemmas.Bool.Decides.{leb_tells}
use Rattle.disk_base.specs.declared.address.Psn.{Psn}
use Rattle.geometry_map.specs.DefectMap.{AscendsWithin}
use Rattle.geometry_map.specs.Slips.{slipped}
use Rattle.geometry_map.specs.Placer.{gaps_of}
use Rattle.geometry_map.proofs.OwnSpares.{true_false}

-- the gaps of a list whose first stands at place i of the whole
abbrev pub gaps_from : ℕ → List Psn → List ℕ
gaps_from i primary = map (λ e. e.1.0 - 16 - e.0) (enumerate_from i primary)

-- a lower bound may be given up for a lower one
pub AscendsWithin-from : (low more high : ℕ) (qs : List Psn) → low ≤ more → AscendsWithin more high qs → AscendsWithin low high qs
AscendsWithin-from low more high [] less up = tt
AscendsWithin-from low more high (q ∷ qs) less up = (omega arith, up.1, up.2)

-- no gap is below that of the first sector
pub gaps-low : (i low high : ℕ) (qs : List Psn) → AscendsWithin (16 + i + low) high qs → (k d : ℕ) → k < length (gaps_from i qs) → low ≤ get_or (gaps_from i qs) k d
gaps-low i low high [] up k d within = absurd (omega arith)
gaps-low i low high (q ∷ qs) up zero d within = omega arith
gaps-low i low high (q ∷ qs) up (suc k) d within =
    gaps-low (i + 1) low high qs (AscendsWithin-from (16 + (i + 1) + low) (q.0 + 1) high qs (omega arith) up.2) k d (omega arith)

-- the gaps do not fall
pub gaps-rise : (i high : ℕ) (qs : List Psn) → AscendsWithin (16 + i) high qs → IsNonDecreasingBy (λ x. x) (gaps_from i qs)
gaps-rise i high [] up j k d before within = absurd (omega arith)
gaps-rise i high (q ∷ qs) up zero zero d before within = omega arith
gaps-rise i high (q ∷ qs) up zero (suc k) d before within =
    gaps-low (i + 1) (q.0 - 16 - i) high qs (AscendsWithin-from (16 + (i + 1) + (q.0 - 16 - i)) (q.0 + 1) high qs (omega arith) up.2) k d (omega arith)
gaps-rise i high (q ∷ qs) up (suc j) zero d before within = absurd (omega arith)
gaps-rise i high (q ∷ qs) up (suc j) (suc k) d before within =
    gaps-rise (i + 1) high qs (AscendsWithin-from (16 + (i + 1)) (q.0 + 1) high qs (omega arith) up.2) j k d (omega arith) (omega arith)

-- those of a list
pub gaps-never-fall : (high : ℕ) (qs : List Psn) (gaps : List ℕ) → AscendsWithin 16 high qs → gaps ≡ gaps_of qs → IsNonDecreasingBy (λ x. x) gaps
gaps-never-fall high qs gaps up same =
    let P : List ℕ → Type 0 = IsNonDecreasingBy (λ x. x) in
    subst P (sym same) (gaps-rise 0 high qs (AscendsWithin-from (16 + 0) 16 high qs (omega arith) up))

-- so they can be halved at any number
pub gaps-partitioned : (high b : ℕ) (qs : List Psn) → AscendsWithin 16 high qs → IsPartitionedBy (λ g. nat_le g b) (gaps_of qs)
gaps-partitioned high b qs up = IsPartitionedBy-leb (λ x. x) (gaps_of qs) b (gaps-rise 0 high qs (AscendsWithin-from (16 + 0) 16 high qs (omega arith) up))

-- k gaps are at most b
abbrev pub SplitsAt : ℕ → List ℕ → ℕ → Type 0
SplitsAt b gaps k = IsPartitionPoint (λ g. nat_le g b ≡ true) (λ g. nat_le g b ≡ false) gaps k

-- and so often does the place of block b slip
pub slipped-counted : (i b k high : ℕ) (qs : List Psn) → AscendsWithin (16 + i) high qs → k ≤ length (gaps_from i qs) → SplitsAt b (gaps_from i qs) k
    → slipped (16 + b + i) qs ≡ 16 + b + i + k
slipped-counted i b zero high [] up most splits = omega arith
slipped-counted i b (suc k) high [] up most splits = absurd (omega arith)
slipped-counted i b zero high (q ∷ qs) up most splits =
    let above : nat_le (q.0 - 16 - i) b ≡ false = splits.1 0 0 (omega arith) (omega arith) in
    elim (leb_tells (q.0 - 16 - i) b) [
      | inl w ↦ absurd (true_false (sym w.0 ∙ above))
      | inr w ↦ elim (leb_tells q.0 (16 + b + i)) [ inl v ↦ absurd (omega arith) | inr v ↦ rw v.0 (omega arith) ]
    ]
slipped-counted i b (suc k) high (q ∷ qs) up most splits =
    let below : nat_le (q.0 - 16 - i) b ≡ true = splits.0 0 0 (omega arith) (omega arith) in
    let up' : AscendsWithin (16 + (i + 1)) high qs = AscendsWithin-from (16 + (i + 1)) (q.0 + 1) high qs (omega arith) up.2 in
    let rest : SplitsAt b (gaps_from (i + 1) qs) k = ((λ j d low before. splits.0 (suc j) d (omega arith) (omega arith)), (λ j d low before. splits.1 (suc j) d (omega arith) (omega arith))) in
    let on : slipped (16 + b + (i + 1)) qs ≡ 16 + b + (i + 1) + k = slipped-counted (i + 1) b k high qs up' (omega arith) rest in
    let e : 16 + b + i + 1 ≡ 16 + b + (i + 1) = omega arith in
    elim (leb_tells (q.0 - 16 - i) b) [
      | inl w ↦ elim (leb_tells q.0 (16 + b + i)) [ inl v ↦ rw v.0 (ap (λ p. slipped p qs) e ∙ on ∙ omega arith) | inr v ↦ absurd (omega arith) ]
      | inr w ↦ absurd (true_false (sym below ∙ w.0))
    ]

-- how far up the k-th of them is
pub AscendsWithin-at : (k low high : ℕ) (qs : List Psn) (d : Psn) → AscendsWithin low high qs → k < length qs → low + k ≤ (get_or qs k d).0
AscendsWithin-at k low high [] d up within = absurd (omega arith)
AscendsWithin-at zero low high (q ∷ qs) d up within = omega arith
AscendsWithin-at (suc k) low high (q ∷ qs) d up within =
    omega (arith, AscendsWithin-at k (q.0 + 1) high qs d up.2 (omega arith))

-- one more sector, one more gap
gaps_from-push : (i : ℕ) (qs : List Psn) (q : Psn) → gaps_from i (qs ++ q ∷ []) ≡ gaps_from i qs ++ (q.0 - 16 - (i + length qs)) ∷ []
gaps_from-push i [] q = let e : i ≡ i + 0 = omega arith in ap (λ (n : ℕ). (q.0 - 16 - n) ∷ []) e
gaps_from-push i (p ∷ qs) q =
    let e : i + 1 + length qs ≡ i + suc (length qs) = omega arith in
    ap (λ (l : List ℕ). (p.0 - 16 - i) ∷ l) (gaps_from-push (i + 1) qs q ∙ ap (λ (n : ℕ). gaps_from (i + 1) qs ++ (q.0 - 16 - n) ∷ []) e)

pub gaps_of-more : (qs : List Psn) (i : ℕ) (d : Psn) → i < length qs → gaps_of (take (i + 1) qs) ≡ gaps_of (take i qs) ++ ((get_or qs i d).0 - 16 - i) ∷ []
gaps_of-more qs i d within =
    let e : 0 + length (take i qs) ≡ i = omega (arith, length-take i qs) in
    ap gaps_of (take_more qs i d within) ∙ gaps_from-push 0 (take i qs) (get_or qs i d) ∙ ap (λ (n : ℕ). gaps_of (take i qs) ++ ((get_or qs i d).0 - 16 - n) ∷ []) e

pub length-gaps_of : (i : ℕ) (qs : List Psn) → length (gaps_from i qs) ≡ length qs
length-gaps_of i [] = refl
length-gaps_of i (q ∷ qs) = ap suc (length-gaps_of (i + 1) qs)
