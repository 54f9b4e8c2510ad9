-- Where pairs take a sector: never two to one, and never to a sector that is new of none.
use Rattle.std.proofs.Common.{◌≡◌, ◌≢◌, ℕ, suc, true, false, List, [], ◌∷◌, refl, sym, ◌∙◌, subst, inl, inr, arith}
use Rattle.std.specs.Prelude.{◌==◌, All, AllPairs}
use Rattle.std.proofs.lemmas.List.Elements.{All-tail, All-head}
use Rattle.std.proofs.lemmas.Bool.Decides.{eqb_tells}
use Rattle.disk_base.specs.declared.address.Psn.{Psn}
use Rattle.geometry_map.specs.declared.pair.Pair.{Pair}
use Rattle.geometry_map.specs.DefectMap.{moved, through, HaveOwnSpares}

-- the sector is new of none of the pairs
abbrev pub IsNewOfNone : ℕ → List Pair → Type 0
IsNewOfNone p [] = Unit {0}
IsNewOfNone p (pair ∷ pairs) = (p ≢ pair.new.0) × IsNewOfNone p pairs

-- no spare is new of two of the pairs
abbrev pub HaveDifferentSpares : List Pair → Type 0
HaveDifferentSpares [] = Unit {0}
HaveDifferentSpares (pair ∷ pairs) = IsNewOfNone pair.new.0 pairs × HaveDifferentSpares pairs

-- a pair takes its old sector to its new one
pub moved-at : (at : Psn) (pair : Pair) → (at.0 == pair.old.0) ≡ true → moved at pair ≡ pair.new
moved-at at pair here = rw here refl

-- and leaves each other one
pub moved-off : (at : Psn) (pair : Pair) → (at.0 == pair.old.0) ≡ false → moved at pair ≡ at
moved-off at pair off = rw off refl

-- pairs take a sector to another only where that is new of one
pub through-apart : (pairs : List Pair) (at : Psn) (p : ℕ) → at.0 ≢ p → IsNewOfNone p pairs → (through pairs at).0 ≢ p
through-apart [] at p apart none = apart
through-apart (pair ∷ pairs) at p apart none =
    let Q : Psn → Type 0 = λ v. (through pairs v).0 ≢ p in
    elim (eqb_tells at.0 pair.old.0) [
      | inl w ↦ subst Q (sym (moved-at at pair w.0)) (through-apart pairs pair.new p (λ same. none.0 (sym same)) none.1)
      | inr w ↦ subst Q (sym (moved-off at pair w.0)) (through-apart pairs at p apart none.1)
    ]

-- two sectors that are new of none are never taken to one
pub through-distinct : (pairs : List Pair) (a b : Psn) → a.0 ≢ b.0 → IsNewOfNone a.0 pairs → IsNewOfNone b.0 pairs → HaveDifferentSpares pairs
    → (through pairs a).0 ≢ (through pairs b).0
through-distinct [] a b apart u v own = apart
through-distinct (pair ∷ pairs) a b apart u v own =
    let Q : Psn → Psn → Type 0 = λ x y. (through pairs x).0 ≢ (through pairs y).0 in
    let both : (x y : Psn) → moved a pair ≡ x → moved b pair ≡ y → Q x y → Q (moved a pair) (moved b pair) =
    λ x y e f q. let P : Psn → Type 0 = λ z. Q z (moved b pair) in let R : Psn → Type 0 = λ z. Q x z in subst P (sym e) (subst R (sym f) q) in
    elim (eqb_tells a.0 pair.old.0) [
      | inl w ↦ elim (eqb_tells b.0 pair.old.0) [
        | inl x ↦ absurd (apart (w.1 ∙ sym x.1))
        | inr x ↦ both pair.new b (moved-at a pair w.0) (moved-off b pair x.0) (through-distinct pairs pair.new b (λ same. v.0 (sym same)) own.0 v.1 own.1)
      ]
      | inr w ↦ elim (eqb_tells b.0 pair.old.0) [
        | inl x ↦ both a pair.new (moved-off a pair w.0) (moved-at b pair x.0) (through-distinct pairs a pair.new u.0 u.1 own.0 own.1)
        | inr x ↦ both a b (moved-off a pair w.0) (moved-off b pair x.0) (through-distinct pairs a b apart u.1 v.1 own.1)
      ]
    ]

-- the same from the words of the contracts
pub IsNewOfNone-from_All : (p : ℕ) (pairs : List Pair) → All (λ pair. p ≢ pair.new.0) pairs → IsNewOfNone p pairs
IsNewOfNone-from_All p [] all = tt
IsNewOfNone-from_All p (pair ∷ pairs) all =
    let P : Pair → Type 0 = λ q. p ≢ q.new.0 in
    (All-head P pair pairs all, IsNewOfNone-from_All p pairs (All-tail P pair pairs all))

pub HaveDifferentSpares-from_AllPairs : (pairs : List Pair) → AllPairs HaveOwnSpares pairs → HaveDifferentSpares pairs
HaveDifferentSpares-from_AllPairs [] own = tt
HaveDifferentSpares-from_AllPairs (pair ∷ pairs) own = (
  IsNewOfNone-from_All pair.new.0 pairs (λ k d in'. own 0 (suc k) d (omega arith) (omega arith)),
  HaveDifferentSpares-from_AllPairs pairs (λ i j d before in'. own (suc i) (suc j) d (omega arith) (omega arith)),
)
