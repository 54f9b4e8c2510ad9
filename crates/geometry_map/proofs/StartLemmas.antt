-- The block that starts at a sector, read from the gaps.
use Rattle.std.proofs.Common.{◌≡◌, ◌≢◌, ℕ, ◌+◌, ◌-◌, ◌<◌, ◌≤◌, zero, suc, List, [], ◌∷◌, length, get_or, drop, refl, sym, ◌∙◌, ap, inl, inr, arith}
use Rattle.std.specs.Prelude.{◌==◌, nat_lt, if◌then◌else◌, Option, Some, None, MatchOption}
use Rattle.std.proofs.lemmas.List.{drop_more, drop_all}
use Rattle.std.proofs.lemmas.Bool.Decides.{leb_tells, eqb_tells}
use Rattle.disk_base.specs.declared.address.Psn.{Psn}
use Rattle.geometry_map.specs.DefectMap.{AscendsWithin}
use Rattle.geometry_map.specs.Slips.{slipped}
use Rattle.geometry_map.specs.Placer.{gaps_of}
use Rattle.geometry_map.proofs.SlipLemmas.{slipped-low}
use Rattle.geometry_map.proofs.OwnSpares.{eqb_same}
use Rattle.geometry_map.proofs.GapLemmas.{gaps_from, AscendsWithin-from}

-- what gaps leave of an offset: each that is below it takes one, and one that is at it leaves none
abbrev pub block_at : ℕ → List ℕ → Option ℕ
block_at o [] = Some o
block_at o (g ∷ gs) = if g == o then None else if nat_lt o g then Some o else block_at (o - 1) gs

-- gaps that are passed one after another take one each
pub block_at-passed : (o k : ℕ) (gaps : List ℕ) → k ≤ length gaps → ((i : ℕ) → i < k → get_or gaps i 0 + i < o) → block_at o gaps ≡ block_at (o - k) (drop k gaps)
block_at-passed o zero gaps most below = let e : o ≡ o - 0 = omega arith in ap (λ n. block_at n gaps) e
block_at-passed o (suc k) [] most below = absurd (omega arith)
block_at-passed o (suc k) (g ∷ gs) most below =
    let first : g + 0 < o = below 0 (omega arith) in
    let rest : block_at (o - 1) gs ≡ block_at (o - 1 - k) (drop k gs) = block_at-passed (o - 1) k gs (omega arith) (λ i less. omega (arith, below (suc i) (omega arith))) in
    let e : o - 1 - k ≡ o - suc k = omega arith in
    elim (eqb_tells g o) [
      | inl w ↦ absurd (omega arith)
      | inr w ↦ elim (leb_tells (suc o) g) [ inl v ↦ absurd (omega arith) | inr v ↦ rw (w.0, v.0) (rest ∙ ap (λ n. block_at n (drop k gs)) e) ]
    ]

-- what the gaps from place i on leave: none where the gap there is at the offset, all of it where that is above it or past the last
pub block_at-defect : (o i : ℕ) (gaps : List ℕ) → i < length gaps → get_or gaps i 0 ≡ o → block_at o (drop i gaps) ≡ None
block_at-defect o i gaps within same = ap (block_at o) (drop_more gaps i 0 within) ∙ rw (eqb_same (get_or gaps i 0) o same) refl

pub block_at-below : (o i : ℕ) (gaps : List ℕ) → i < length gaps → o < get_or gaps i 0 → block_at o (drop i gaps) ≡ Some o
block_at-below o i gaps within less =
    ap (block_at o) (drop_more gaps i 0 within)
    ∙ elim (eqb_tells (get_or gaps i 0) o) [
      | inl w ↦ absurd (omega arith)
      | inr w ↦ elim (leb_tells (suc o) (get_or gaps i 0)) [ inl v ↦ rw (w.0, v.0) refl | inr v ↦ absurd (omega arith) ]
    ]

pub block_at-end : (o i : ℕ) (gaps : List ℕ) → length gaps ≤ i → block_at o (drop i gaps) ≡ Some o
block_at-end o i gaps past = ap (block_at o) (drop_all i gaps past)

-- a place below the first sector does not slip
slipped-still : (at low high : ℕ) (qs : List Psn) → AscendsWithin low high qs → at < low → slipped at qs ≡ at
slipped-still at low high [] up less = refl
slipped-still at low high (q ∷ qs) up less = elim (leb_tells q.0 at) [ inl w ↦ absurd (omega arith) | inr w ↦ rw w.0 refl ]

-- the block that is left slips to the sector
block_at-some : (i o b high : ℕ) (qs : List Psn) → AscendsWithin (16 + i) high qs → block_at o (gaps_from i qs) ≡ Some b → slipped (16 + b + i) qs ≡ 16 + o + i
block_at-some i o b high [] up found = let same : o ≡ b = cc in omega arith
block_at-some i o b high (q ∷ qs) up found =
    elim (eqb_tells (q.0 - 16 - i) o) [
      | inl w ↦ absurd (let no : None ≡ Some b = rw w.0 at found in cc)
      | inr w ↦ elim (leb_tells (suc o) (q.0 - 16 - i)) [
        | inl v ↦ (
            let left : Some o ≡ Some b = rw (w.0, v.0) at found in
            let same : o ≡ b = cc in
            elim (leb_tells q.0 (16 + b + i)) [ inl u ↦ absurd (omega arith) | inr u ↦ rw u.0 (omega arith) ])
        | inr v ↦ (
            let rest : block_at (o - 1) (gaps_from (i + 1) qs) ≡ Some b = rw (w.0, v.0) at found in
            let up' : AscendsWithin (16 + (i + 1)) high qs = AscendsWithin-from (16 + (i + 1)) (q.0 + 1) high qs (omega arith) up.2 in
            let on : slipped (16 + b + (i + 1)) qs ≡ 16 + (o - 1) + (i + 1) = block_at-some (i + 1) (o - 1) b high qs up' rest in
            let e : 16 + b + i + 1 ≡ 16 + b + (i + 1) = omega arith in
            let less : q.0 - 16 - i < o = omega (arith, w.1, v.1) in
            elim (leb_tells q.0 (16 + b + i)) [
              | inl u ↦ rw u.0 (ap (λ p. slipped p qs) e ∙ on ∙ omega arith)
              | inr u ↦ absurd (let still : slipped (16 + b + (i + 1)) qs ≡ 16 + b + (i + 1) = slipped-still (16 + b + (i + 1)) (q.0 + 1) high qs up.2 (omega (arith, u.1)) in omega (arith, u.1))
            ])
      ]
    ]

-- a block that slips to the sector is left
block_at-finds : (i o b high : ℕ) (qs : List Psn) → AscendsWithin (16 + i) high qs → slipped (16 + b + i) qs ≡ 16 + o + i → block_at o (gaps_from i qs) ≡ Some b
block_at-finds i o b high [] up start = let same : o ≡ b = omega arith in ap Some same
block_at-finds i o b high (q ∷ qs) up start =
    elim (leb_tells q.0 (16 + b + i)) [
      | inl u ↦ (
          let start' : slipped (16 + b + i + 1) qs ≡ 16 + o + i = rw u.0 at start in
          let low : 16 + b + i + 1 ≤ slipped (16 + b + i + 1) qs = slipped-low (16 + b + i + 1) qs in
          let up' : AscendsWithin (16 + (i + 1)) high qs = AscendsWithin-from (16 + (i + 1)) (q.0 + 1) high qs (omega arith) up.2 in
          let e : 16 + b + (i + 1) ≡ 16 + b + i + 1 = omega arith in
          let rest : block_at (o - 1) (gaps_from (i + 1) qs) ≡ Some b = block_at-finds (i + 1) (o - 1) b high qs up' (ap (λ p. slipped p qs) e ∙ start' ∙ omega arith) in
          let less : q.0 - 16 - i < o = omega (arith, u.1) in
          elim (eqb_tells (q.0 - 16 - i) o) [
            | inl w ↦ absurd (omega arith)
            | inr w ↦ elim (leb_tells (suc o) (q.0 - 16 - i)) [ inl v ↦ absurd (omega arith) | inr v ↦ rw (w.0, v.0) rest ]
          ])
      | inr u ↦ (
          let start' : 16 + b + i ≡ 16 + o + i = rw u.0 at start in
          let same : o ≡ b = omega arith in
          let more : o < q.0 - 16 - i = omega (arith, u.1) in
          elim (eqb_tells (q.0 - 16 - i) o) [
            | inl w ↦ absurd (omega arith)
            | inr w ↦ elim (leb_tells (suc o) (q.0 - 16 - i)) [ inl v ↦ rw (w.0, v.0) (ap Some same) | inr v ↦ absurd (omega arith) ]
          ])
    ]

-- what the gaps of a list leave of a sector's offset is the block that starts there
pub block-read : (r : Option ℕ) (gaps : List ℕ) (p : ℕ) → 16 ≤ p → r ≡ block_at (p - 16) gaps → (primary : List Psn) (high : ℕ) → AscendsWithin 16 high primary → gaps ≡ gaps_of primary
    → MatchOption r ((b : ℕ) → slipped (16 + b) primary ≢ p) (λ b. slipped (16 + b) primary ≡ p)
block-read None gaps p from left primary high up same =
    λ b at.
    let e : 16 + b + 0 ≡ 16 + b = omega arith in
    let up' : AscendsWithin (16 + 0) high primary = AscendsWithin-from (16 + 0) 16 high primary (omega arith) up in
    let found : block_at (p - 16) (gaps_from 0 primary) ≡ Some b = block_at-finds 0 (p - 16) b high primary up' (ap (λ q. slipped q primary) e ∙ at ∙ omega arith) in
    let none : None ≡ block_at (p - 16) (gaps_from 0 primary) = left ∙ ap (block_at (p - 16)) same in
    let no : None ≡ Some b = none ∙ found in
    cc
block-read (Some b) gaps p from left primary high up same =
    let e : 16 + b ≡ 16 + b + 0 = omega arith in
    let up' : AscendsWithin (16 + 0) high primary = AscendsWithin-from (16 + 0) 16 high primary (omega arith) up in
    let found : block_at (p - 16) (gaps_from 0 primary) ≡ Some b = ap (block_at (p - 16)) (sym same) ∙ sym left in
    ap (λ q. slipped q primary) e ∙ block_at-some 0 (p - 16) b high primary up' found ∙ omega arith

-- below the sectors of users none starts
pub no-block-below : (p : ℕ) (primary : List Psn) (b : ℕ) → p < 16 → slipped (16 + b) primary ≢ p
no-block-below p primary b below = λ at. omega (arith, at, slipped-low (16 + b) primary)
