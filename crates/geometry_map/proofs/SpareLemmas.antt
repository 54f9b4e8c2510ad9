-- The slip list and the spares of a drive, as ranges that skip the primary defects.
use Rattle.std.proofs.Common.{◌≡◌, ℕ, ◌+◌, ◌-◌, ◌<◌, ◌≤◌, zero, suc, Bool, true, false, not, ◌&&◌, List, ◌∷◌, drop, get_or, refl, sym, ◌∙◌, ap, inl, inr, ◌⊎◌, arith}
use Rattle.std.specs.Prelude.{find, ◌==◌, slice_index}
use Rattle.std.specs.List.{list_any, range_with_len}
use Rattle.std.proofs.lemmas.List.{get_or-drop}
use Rattle.std.proofs.lemmas.Bool.Decides.{eqb_tells}
use Rattle.disk_base.specs.declared.address.Psn.{Psn}
use Rattle.geometry_map.specs.declared.size.Size.{Size}
use Rattle.geometry_map.specs.Size.{total_of, capacity_of}
use Rattle.geometry_map.specs.DefectMap.{is_listed, IsPrimaryList, slip_list, spares}
use Rattle.geometry_map.specs.Slips.{slipped}
use Rattle.geometry_map.proofs.SlipLemmas.{slipped-low, slipped-high, slipped-free, kept, kept-at, KeepsUnlisted, drop-kept}

-- a test answers one or the other
pub answer_of : (b : Bool) → (b ≡ true) ⊎ (b ≡ false)
answer_of true = inl refl
answer_of false = inr refl

-- whether a sector is no primary defect
abbrev pub is_sound : List Psn → ℕ → Bool
is_sound primary p = not (is_listed p primary)

-- it keeps what is not listed, from anywhere
pub is_sound-keeps : (primary : List Psn) (low : ℕ) → KeepsUnlisted (is_sound primary) low primary
is_sound-keeps primary low = record { at = λ p past. refl }

-- what is kept from `low` on, where the first of the range is
pub kept-head : (keep : ℕ → Bool) (low n k : ℕ) → n ≡ suc k → keep low ≡ true → kept keep low n ≡ low ∷ kept keep (low + 1) k
kept-head keep low n k e passes = rw (e, passes) refl

-- a block's place before its slips has room: the places of all blocks lie within the drive
pub slipped-within : (size : Size) (primary : List Psn) (b : ℕ) → IsPrimaryList size primary → b < capacity_of size → slipped (16 + b) primary < total_of size
slipped-within size primary b listed below = omega (arith, slipped-high (16 + b) primary, size.within_limits.a_block, listed.kept_back)

-- block b starts where 16 + b slips to
pub slip_place-slipped : (size : Size) (primary : List Psn) (b : ℕ) → IsPrimaryList size primary → b < capacity_of size
    → slice_index (slip_list size primary) b ≡ slipped (16 + b) primary
slip_place-slipped size primary b listed below =
    let at : ℕ = slipped (16 + b) primary in
    let within : slipped (16 + b) primary < total_of size = slipped-within size primary b listed below in
    let low : 16 + b ≤ slipped (16 + b) primary = slipped-low (16 + b) primary in
    let left : ℕ = total_of size - slipped (16 + b) primary - 1 in
    let some : 16 + (total_of size - 16) - slipped (16 + b) primary ≡ suc (total_of size - slipped (16 + b) primary - 1) = omega arith in
    let free : is_sound primary (slipped (16 + b) primary) ≡ true = ap not (slipped-free (16 + b) 16 (total_of size) primary listed.ascending (omega arith)) in
    let rest = drop-kept (total_of size - 16) 16 b (total_of size) (is_sound primary) primary listed.ascending (is_sound-keeps primary 16) in
    let head = kept-head (is_sound primary) (slipped (16 + b) primary) (16 + (total_of size - 16) - slipped (16 + b) primary) left some free in
    let first : get_or (drop b (slip_list size primary)) 0 0 ≡ slipped (16 + b) primary = ap (λ (l : List ℕ). get_or l 0 0) (rest ∙ head) in
    let here : get_or (drop b (slip_list size primary)) 0 0 ≡ get_or (slip_list size primary) (b + 0) 0 = get_or-drop b (slip_list size primary) 0 0 in
    let e : b + 0 ≡ b = omega arith in
    (ap (λ (i : ℕ). get_or (slip_list size primary) i 0) (sym e) ∙ sym here) ∙ first

-- the first sector past the places of all blocks
abbrev pub first_of : Size → List Psn → ℕ
first_of size primary = slipped (16 + capacity_of size) primary

-- how many sectors there are from it on
abbrev pub left_of : Size → List Psn → ℕ
left_of size primary = total_of size - first_of size primary

-- the spares are the sound sectors from the first on
pub spares-kept : (size : Size) (primary : List Psn) → IsPrimaryList size primary → spares size primary ≡ kept (is_sound primary) (first_of size primary) (left_of size primary)
spares-kept size primary listed =
    let rest = drop-kept (total_of size - 16) 16 (capacity_of size) (total_of size) (is_sound primary) primary listed.ascending (is_sound-keeps primary 16) in
    let room : 16 + (total_of size - 16) - slipped (16 + capacity_of size) primary ≡ total_of size - slipped (16 + capacity_of size) primary = omega (arith, size.within_limits.a_block) in
    rest ∙ kept-at (is_sound primary) (first_of size primary) (first_of size primary) _ _ refl room

-- a number is among those that are kept of a range
pub record IsKept (keep : ℕ → Bool) (low n p : ℕ) : Type 0 where
  pub from : low ≤ p
  pub to : p < low + n
  pub passes : keep p ≡ true

-- such a number is found there
pub kept-contains : (n low p : ℕ) (keep : ℕ → Bool) → IsKept keep low n p → list_any (λ q. q == p) (kept keep low n) ≡ true
kept-contains zero low p keep is = absurd (omega (arith, is.from, is.to))
kept-contains (suc n) low p keep is =
    elim (eqb_tells low p) [
      | inl w ↦ (let first : keep low ≡ true = rw w.1 is.passes in rw (first, w.0) refl)
      | inr w ↦ (
          let later : IsKept keep (low + 1) n p = record { from = omega (arith, is.from, w.1); to = omega (arith, is.to); passes = is.passes } in
          let found : list_any (λ q. q == p) (kept keep (low + 1) n) ≡ true = kept-contains n (low + 1) p keep later in
          elim (answer_of (keep low)) [ inl v ↦ rw (v, w.0) found | inr v ↦ rw v found ])
    ]

-- and no other one is
pub kept-contained : (n low p : ℕ) (keep : ℕ → Bool) → list_any (λ q. q == p) (kept keep low n) ≡ true → IsKept keep low n p
kept-contained zero low p keep found = absurd (cc)
kept-contained (suc n) low p keep found =
    let wider : IsKept keep (low + 1) n p → IsKept keep low (suc n) p = λ is. record { from = omega (arith, is.from); to = omega (arith, is.to); passes = is.passes } in
    elim (answer_of (keep low)) [
      | inl v ↦ elim (eqb_tells low p) [
        | inl w ↦ record { from = omega (arith, w.1); to = omega (arith, w.1); passes = rw (← w.1) v }
        | inr w ↦ wider (kept-contained n (low + 1) p keep (rw (v, w.0) at found))
      ]
      | inr v ↦ wider (kept-contained n (low + 1) p keep (rw v at found))
    ]

-- the first that passes a test among those kept is the first that passes both
pub find-kept : (n low : ℕ) (keep test : ℕ → Bool) → find test (kept keep low n) ≡ find (λ p. keep p && test p) (range_with_len low n)
find-kept zero low keep test = refl
find-kept (suc n) low keep test =
    elim (answer_of (keep low)) [
      | inl v ↦ elim (answer_of (test low)) [ inl w ↦ rw (v, w) refl | inr w ↦ rw (v, w) (find-kept n (low + 1) keep test) ]
      | inr v ↦ rw v (find-kept n (low + 1) keep test)
    ]

-- whether a sector is a spare
abbrev pub is_spare_of : Size → List Psn → ℕ → Bool
is_spare_of size primary p = list_any (λ q. q == p) (spares size primary)

-- a spare is a sound sector from the first on
pub spare-kept : (size : Size) (primary : List Psn) (p : ℕ) → IsPrimaryList size primary → is_spare_of size primary p ≡ true
    → IsKept (is_sound primary) (first_of size primary) (left_of size primary) p
spare-kept size primary p listed spare =
    kept-contained (left_of size primary) (first_of size primary) p (is_sound primary) (rw (spares-kept size primary listed) at spare)

-- past the places of all blocks, a sector is a spare where it is sound
pub spare-sound : (size : Size) (primary : List Psn) (p : ℕ) → IsPrimaryList size primary → first_of size primary ≤ p → p < total_of size
    → is_spare_of size primary p ≡ is_sound primary p
spare-sound size primary p listed from to =
    elim (answer_of (is_sound primary p)) [
      | inl v ↦ (let is : IsKept (is_sound primary) (first_of size primary) (left_of size primary) p = record { from = from; to = omega arith; passes = v } in
          rw (spares-kept size primary listed, v) (kept-contains (left_of size primary) (first_of size primary) p (is_sound primary) is))
      | inr v ↦ elim (answer_of (is_spare_of size primary p)) [
        | inl w ↦ (let is = spare-kept size primary p listed w in absurd (let no : true ≡ false = sym is.passes ∙ v in cc))
        | inr w ↦ w ∙ sym v
      ]
    ]

-- elsewhere none is
pub spare-nowhere : (size : Size) (primary : List Psn) (p : ℕ) → IsPrimaryList size primary → (p < first_of size primary) ⊎ (total_of size ≤ p)
    → is_spare_of size primary p ≡ false
spare-nowhere size primary p listed out =
    elim (answer_of (is_spare_of size primary p)) [
      | inl w ↦ (let is = spare-kept size primary p listed w in
          elim out [ inl low ↦ absurd (omega (arith, is.from)) | inr high ↦ absurd (omega (arith, is.from, is.to)) ])
      | inr w ↦ w
    ]

-- a search over a range that its first number does not end goes on after it
pub find-passed : (test : ℕ → Bool) (p to : ℕ) → p < to → test p ≡ false → find test (range_with_len p (to - p)) ≡ find test (range_with_len (p + 1) (to - (p + 1)))
find-passed test p to within fails =
    let some : to - p ≡ suc (to - (p + 1)) = omega arith in
    rw (some, fails) refl
