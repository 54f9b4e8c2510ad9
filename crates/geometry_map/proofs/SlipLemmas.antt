-- Places that slip past ascending defects, and the ranges that a filter leaves.
use Rattle.std.proofs.Common.{◌≡◌, ℕ, ◌+◌, ◌-◌, ◌<◌, ◌≤◌, zero, suc, Bool, true, false, not, List, [], ◌∷◌, length, drop, refl, sym, ◌∙◌, ap, subst, inl, inr, arith}
use Rattle.std.specs.Prelude.{filter, nat_le, ◌==◌}
use Rattle.std.specs.List.{range_with_len}
use Rattle.std.proofs.Math.Seq.{drop-nil}
use Rattle.std.proofs.lemmas.Bool.Decides.{leb_tells, eqb_tells}
use Rattle.disk_base.specs.declared.address.Psn.{Psn}
use Rattle.geometry_map.specs.DefectMap.{is_listed, AscendsWithin}
use Rattle.geometry_map.specs.Slips.{slipped}

-- a place slips up only
pub slipped-low : (at : ℕ) (qs : List Psn) → at ≤ slipped at qs
slipped-low at [] = omega arith
slipped-low at (q ∷ qs) = elim (leb_tells q.0 at) [ inl w ↦ rw w.0 (let more : at + 1 ≤ slipped (at + 1) qs = slipped-low (at + 1) qs in omega arith) | inr w ↦ rw w.0 (omega arith) ]

-- and by no more than there are defects
pub slipped-high : (at : ℕ) (qs : List Psn) → slipped at qs ≤ at + length qs
slipped-high at [] = omega arith
slipped-high at (q ∷ qs) = elim (leb_tells q.0 at) [ inl w ↦ rw w.0 (let more : slipped (at + 1) qs ≤ at + 1 + length qs = slipped-high (at + 1) qs in omega arith) | inr w ↦ rw w.0 (omega arith) ]

-- higher places stay higher
pub slipped-rises : (at to : ℕ) (qs : List Psn) → at < to → slipped at qs < slipped to qs
slipped-rises at to [] up = up
slipped-rises at to (q ∷ qs) up =
    elim (leb_tells q.0 at) [
      | inl w ↦ elim (leb_tells q.0 to) [ inl v ↦ rw (w.0, v.0) (slipped-rises (at + 1) (to + 1) qs (omega arith)) | inr v ↦ absurd (omega arith) ]
      | inr w ↦ rw w.0 (let up' : to ≤ slipped to (q ∷ qs) = slipped-low to (q ∷ qs) in omega arith)
    ]

-- no sector below the first is listed
pub is_listed-below : (p low high : ℕ) (qs : List Psn) → AscendsWithin low high qs → p < low → is_listed p qs ≡ false
is_listed-below p low high [] up h = refl
is_listed-below p low high (q ∷ qs) up h =
    elim (eqb_tells q.0 p) [ inl w ↦ absurd (omega arith) | inr w ↦ rw w.0 (is_listed-below p (q.0 + 1) high qs up.2 (omega arith)) ]

-- the place that is left is no defect
pub slipped-free : (at low high : ℕ) (qs : List Psn) → AscendsWithin low high qs → low ≤ at → is_listed (slipped at qs) qs ≡ false
slipped-free at low high [] up h = refl
slipped-free at low high (q ∷ qs) up h =
    let IsFree : ℕ → Type 0 = λ p. is_listed p (q ∷ qs) ≡ false in
    elim (leb_tells q.0 at) [
      | inl w ↦ (
          let here : slipped (at + 1) qs ≡ slipped at (q ∷ qs) = rw w.0 in
          let past : at + 1 ≤ slipped (at + 1) qs = slipped-low (at + 1) qs in
          let free : is_listed (slipped (at + 1) qs) (q ∷ qs) ≡ false = elim (eqb_tells q.0 (slipped (at + 1) qs)) [ inl v ↦ absurd (omega arith) | inr v ↦ rw v.0 (slipped-free (at + 1) (q.0 + 1) high qs up.2 (omega arith)) ] in
          subst IsFree here free)
      | inr w ↦ (
          let here : at ≡ slipped at (q ∷ qs) = rw w.0 in
          let free : is_listed at (q ∷ qs) ≡ false = elim (eqb_tells q.0 at) [ inl v ↦ absurd (omega arith) | inr v ↦ rw v.0 (is_listed-below at (q.0 + 1) high qs up.2 (omega arith)) ] in
          subst IsFree here free)
    ]

-- the sectors from `low` on, of which there are n, that a test keeps
abbrev pub kept : (ℕ → Bool) → ℕ → ℕ → List ℕ
kept keep low n = filter keep (range_with_len low n)

-- the test keeps the sectors from `low` on that are not listed
pub record KeepsUnlisted (keep : ℕ → Bool) (low : ℕ) (qs : List Psn) : Type 0 where
  pub at : (p : ℕ) → low ≤ p → keep p ≡ not (is_listed p qs)

-- past the first of the list it need not look there
pub KeepsUnlisted-rest : (keep : ℕ → Bool) (low : ℕ) (q : Psn) (qs : List Psn) → q.0 ≡ low → KeepsUnlisted keep low (q ∷ qs) → KeepsUnlisted keep (low + 1) qs
KeepsUnlisted-rest keep low q qs here keeps =
    record { at = λ p past. elim (eqb_tells q.0 p) [ inl w ↦ absurd (omega arith) | inr w ↦ keeps.at p (omega arith) ∙ rw w.0 ] }

KeepsUnlisted-from : (keep : ℕ → Bool) (low more : ℕ) (qs : List Psn) → low ≤ more → KeepsUnlisted keep low qs → KeepsUnlisted keep more qs
KeepsUnlisted-from keep low more qs up keeps = record { at = λ p past. keeps.at p (omega arith) }

-- equal bounds keep equal lists
pub kept-at : (keep : ℕ → Bool) (a b m n : ℕ) → a ≡ b → m ≡ n → kept keep a m ≡ kept keep b n
kept-at keep a b m n e f = cc

-- what is left of the range from `low` on after b that are kept, where it is known from `low + 1` on and `low` is kept
drop-kept_more : (n low : ℕ) (keep : ℕ → Bool) (qs : List Psn) → keep low ≡ true → slipped low qs ≡ low
    → ((b : ℕ) → drop b (kept keep (low + 1) n) ≡ kept keep (slipped (low + 1 + b) qs) (low + 1 + n - slipped (low + 1 + b) qs))
    → (b : ℕ) → drop b (kept keep low (suc n)) ≡ kept keep (slipped (low + b) qs) (low + suc n - slipped (low + b) qs)
drop-kept_more n low keep qs keeps stays rest zero =
    let e : low + 0 ≡ low = omega arith in
    let f : slipped (low + 0) qs ≡ low = rw e stays in
    kept-at keep low (slipped (low + 0) qs) (suc n) (low + suc n - slipped (low + 0) qs) (sym f) (omega arith)
drop-kept_more n low keep qs keeps stays rest (suc b) =
    let e : low + 1 + b ≡ low + suc b = omega arith in
    let f : slipped (low + 1 + b) qs ≡ slipped (low + suc b) qs = ap (λ p. slipped p qs) e in
    rw keeps (rest b ∙ kept-at keep (slipped (low + 1 + b) qs) (slipped (low + suc b) qs) (low + 1 + n - slipped (low + 1 + b) qs) (low + suc n - slipped (low + suc b) qs) f (omega arith))

-- after the first b that are kept come those that are kept from where b slips to
pub drop-kept : (n low b high : ℕ) (keep : ℕ → Bool) (qs : List Psn) → AscendsWithin low high qs → KeepsUnlisted keep low qs
    → drop b (kept keep low n) ≡ kept keep (slipped (low + b) qs) (low + n - slipped (low + b) qs)
drop-kept zero low b high keep qs up keeps =
    let past : low + b ≤ slipped (low + b) qs = slipped-low (low + b) qs in
    let none : low + 0 - slipped (low + b) qs ≡ 0 = omega arith in
    rw none (drop-nil b)
drop-kept (suc n) low b high keep [] up keeps =
    drop-kept_more n low keep [] (keeps.at low (omega arith)) refl
    (λ b. drop-kept n (low + 1) b high keep [] tt (KeepsUnlisted-from keep low (low + 1) [] (omega arith) keeps)) b
drop-kept (suc n) low b high keep (q ∷ qs) up keeps =
    elim (leb_tells q.0 low) [
      | inl w ↦ (
          let here : q.0 ≡ low = omega arith in
          let self : (low == low) ≡ true = elim (eqb_tells low low) [ inl v ↦ v.0 | inr v ↦ absurd (v.1 refl) ] in
          let listed : is_listed low (q ∷ qs) ≡ true = rw (here, self) refl in
          let no : keep low ≡ false = keeps.at low (omega arith) ∙ ap not listed in
          let past : nat_le q.0 (low + b) ≡ true = elim (leb_tells q.0 (low + b)) [ inl v ↦ v.0 | inr v ↦ absurd (omega arith) ] in
          let up' : AscendsWithin (low + 1) high qs = (let P : ℕ → Type 0 = λ v. AscendsWithin (v + 1) high qs in subst P here up.2) in
          let rest : KeepsUnlisted keep (low + 1) qs = KeepsUnlisted-rest keep low q qs here keeps in
          let e : low + 1 + b ≡ low + b + 1 = omega arith in
          let f : slipped (low + 1 + b) qs ≡ slipped (low + b + 1) qs = ap (λ p. slipped p qs) e in
          rw (no, past) (drop-kept n (low + 1) b high keep qs up' rest ∙ kept-at keep (slipped (low + 1 + b) qs) (slipped (low + b + 1) qs) (low + 1 + n - slipped (low + 1 + b) qs) (low + suc n - slipped (low + b + 1) qs) f (omega arith)))
      | inr w ↦ (
          let unlisted : is_listed low (q ∷ qs) ≡ false = elim (eqb_tells q.0 low) [ inl v ↦ absurd (omega arith) | inr v ↦ rw v.0 (is_listed-below low (q.0 + 1) high qs up.2 (omega arith)) ] in
          let stays : slipped low (q ∷ qs) ≡ low = rw w.0 refl in
          let up' : AscendsWithin (low + 1) high (q ∷ qs) = (omega arith, up.1, up.2) in
          drop-kept_more n low keep (q ∷ qs) (keeps.at low (omega arith) ∙ ap not unlisted) stays
          (λ b. drop-kept n (low + 1) b high keep (q ∷ qs) up' (KeepsUnlisted-from keep low (low + 1) (q ∷ qs) (omega arith) keeps)) b)
    ]
