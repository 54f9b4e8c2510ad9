-- A spare is a sector of the drive.
use Rattle.std.proofs.Common.{◌≡◌, ℕ, ◌+◌, ◌-◌, ◌<◌, zero, suc, Bool, true, false, List, [], ◌∷◌, drop, refl, ◌⊎◌, inl, inr, arith}
use Rattle.std.specs.Prelude.{filter, ◌==◌}
use Rattle.std.specs.List.{list_any, range_with_len}
use Rattle.std.proofs.lemmas.Bool.Decides.{eqb_tells}
use Rattle.disk_base.specs.declared.address.Psn.{Psn}
use Rattle.geometry_map.specs.declared.size.Size.{Size}
use Rattle.geometry_map.specs.Size.{total_of, capacity_of}
use Rattle.geometry_map.specs.DefectMap.{slip_list, spares}

-- a test answers one or the other
answer_of : (b : Bool) → (b ≡ true) ⊎ (b ≡ false)
answer_of true = inl refl
answer_of false = inr refl

-- what is found behind a place is found in the whole
found_in_whole : (test : ℕ → Bool) (k : ℕ) (xs : List ℕ) → list_any test (drop k xs) ≡ true → list_any test xs ≡ true
found_in_whole test zero xs found = found
found_in_whole test (suc k) [] found = absurd (cc)
found_in_whole test (suc k) (x ∷ xs) found =
    let later : list_any test xs ≡ true = found_in_whole test k xs found in
    elim (answer_of (test x)) [ inl w ↦ rw w refl | inr w ↦ rw w later ]

-- what is kept of a range is below its end
kept_below : (n low p : ℕ) (keep : ℕ → Bool) → list_any (λ q. q == p) (filter keep (range_with_len low n)) ≡ true → p < low + n
kept_below zero low p keep found = absurd (cc)
kept_below (suc n) low p keep found =
    let next : list_any (λ q. q == p) (filter keep (range_with_len (low + 1) n)) ≡ true → p < low + suc n = λ later. omega (arith, kept_below n (low + 1) p keep later) in
    elim (answer_of (keep low)) [
      | inl v ↦ elim (eqb_tells low p) [
        | inl w ↦ omega (arith, w.1)
        | inr w ↦ next (rw (v, w.0) at found)
      ]
      | inr v ↦ next (rw v at found)
    ]

-- a spare is below the end of the drive
pub spare_below : (size : Size) (primary : List Psn) (p : ℕ) → list_any (λ q. q == p) (spares size primary) ≡ true → p < total_of size
spare_below size primary p found =
    let whole : list_any (λ q. q == p) (slip_list size primary) ≡ true = found_in_whole (λ q. q == p) (capacity_of size) (slip_list size primary) found in
    omega (arith, kept_below (total_of size - 16) 16 p _ whole, size.within_limits.a_block)
