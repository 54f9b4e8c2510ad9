-- Records that are meant: which of them belong to the pair, and what a write changes.
use Rattle.std.proofs.Common.{◌≡◌, ℕ, ◌-◌, ◌%◌, ◌<◌, ◌≤◌, List, [], ◌∷◌, Option, Some, None, refl, sym, ◌∙◌, ap, subst, ◌⊎◌, inl, inr, arith}
use Rattle.std.proofs.lemmas.Bool.{cases_eq}
use Rattle.std.proofs.lemmas.Bool.Decides.{eqb_tells}
use Rattle.disk_base.specs.At.{put_at}
use Rattle.disk_base.specs.declared.payload.Payload.{Payload}
use Rattle.geometry_map.specs.DefectMap.{DefectMap}
use Rattle.map_generations.specs.MapRecord.{record_bytes, record_sector, map_record}
use Rattle.map_generations.specs.Laws.{AreAlike}
use Rattle.map_generations.specs.Recovery.{Reads, Carries}
use Rattle.map_generations.specs.SafeMaps.{KeptPair, kept_for, IsKept, HasRecord, Belongs, StaleAreBelow, SafeMaps}

-- alike maps have the same records
pub alike_records : (m n : DefectMap) → AreAlike m n → (index : ℕ) → record_bytes m index ≡ record_bytes n index
alike_records m n alike index =
    rw (alike.measures.cylinders, alike.measures.heads, alike.measures.sectors, alike.measures.reserved, alike.primary, alike.grown) refl

-- a map is kept under each number of the same parity
pub kept_renamed : (pair : KeptPair) (n k : ℕ) → n % 2 ≡ k % 2 → kept_for pair n ≡ kept_for pair k
kept_renamed pair n k same = rw same refl

-- the records of a kept map belong
pub kept_belongs : (pair : KeptPair) (m : DefectMap) (copy index : ℕ) → IsKept pair m → Belongs pair index (map_record m copy index)
kept_belongs pair m copy index kept = record {
  map = kept.map;
  for_number = kept.for_number;
  carries = record { version = refl; state = kept.one.state; bytes = alike_records m kept.map kept.one.alike index };
}

-- two lists are the same or not
same_or_not : (xs ys : List ℕ) → (xs ≡ ys) ⊎ (xs ≡ ys → ⊥)
same_or_not [] [] = inl refl
same_or_not [] (y ∷ ys) = inr (λ e. cc (e))
same_or_not (x ∷ xs) [] = inr (λ e. cc (e))
same_or_not (x ∷ xs) (y ∷ ys) =
    elim (cases_eq x y) [
      | inl v ↦ elim (same_or_not xs ys) [ inl w ↦ inl (cc (v, w)) | inr w ↦ inr (λ e. let tails : xs ≡ ys = cc (e) in w tails) ]
      | inr v ↦ inr (λ e. let heads : x ≡ y = cc (e) in v heads)
    ]

-- a payload carries a map's record or not
carries_or_not : (m : DefectMap) (index : ℕ) (p : Payload) → Carries m index p ⊎ (Carries m index p → ⊥)
carries_or_not m index p =
    elim (cases_eq p.version 1) [
      | inl u ↦ elim (cases_eq p.state m.state) [
        | inl v ↦ elim (same_or_not p.block (record_bytes m index)) [
          | inl w ↦ inl (record { version = u; state = v; bytes = w })
          | inr w ↦ inr (λ c. w c.bytes)
        ]
        | inr v ↦ inr (λ c. v c.state)
      ]
      | inr u ↦ inr (λ c. u c.version)
    ]

-- it belongs or not, by the map that is kept for its number
belongs_or_not_by : (pair : KeptPair) (index : ℕ) (p : Payload) (kept : Option DefectMap) → kept_for pair p.address ≡ kept
    → Belongs pair index p ⊎ (Belongs pair index p → ⊥)
belongs_or_not_by pair index p None e = inr (λ b. let both : None ≡ Some b.map = sym e ∙ b.for_number in cc (both))
belongs_or_not_by pair index p (Some m) e =
    elim (carries_or_not m index p) [
      | inl w ↦ inl (record { map = m; for_number = e; carries = w })
      | inr w ↦ inr (λ b.
          let both : Some b.map ≡ Some m = sym b.for_number ∙ e in
          let same : b.map ≡ m = cc (both) in
          w (subst (λ (t : DefectMap). Carries t index p) same b.carries))
    ]

-- a record whose number is not below belongs
pub belongs_above : (meant : Reads) (pair : KeptPair) (number slot copy index : ℕ) (p : Payload)
    → StaleAreBelow meant pair number → HasRecord meant slot copy index p → number ≤ p.address → Belongs pair index p
belongs_above meant pair number slot copy index p stale has from =
    elim (belongs_or_not_by pair index p (kept_for pair p.address) refl) [
      | inl w ↦ w
      | inr w ↦ let less : p.address < number = stale slot copy index p has w in absurd (omega arith)
    ]

-- what is meant after a write is the new, there, or what was meant before
pub seen_through : (meant : Reads) (q : ℕ) (v : Option Payload) (n : ℕ) (p : Payload)
    → put_at q v meant n ≡ Some p → (v ≡ Some p) ⊎ (meant n ≡ Some p)
seen_through meant q v n p there = elim (eqb_tells n q) [ inl w ↦ inl (rw w.0 at there) | inr w ↦ inr (rw w.0 at there) ]

-- the payload is no record of what is meant after, or it was one before
pub record-put : (meant : Reads) (q : ℕ) (v : Option Payload) (slot copy index : ℕ) (p : Payload)
    → HasRecord (put_at q v meant) slot copy index p → (v ≡ Some p) ⊎ HasRecord meant slot copy index p
record-put meant q v slot copy index p has =
    elim (seen_through meant q v (record_sector slot copy index).0 p has.there) [
      | inl w ↦ inl w
      | inr w ↦ inr (record { a_slot = has.a_slot; a_copy = has.a_copy; an_index = has.an_index; there = w; kind = has.kind; own_index = has.own_index })
    ]

-- where less is meant, the stale numbers are below the same number
pub stale_of_less : (meant less : Reads) (pair : KeptPair) (number : ℕ)
    → ((slot copy index : ℕ) (p : Payload) → HasRecord less slot copy index p → HasRecord meant slot copy index p)
    → StaleAreBelow meant pair number → StaleAreBelow less pair number
stale_of_less meant less pair number before stale slot copy index p has apart = stale slot copy index p (before slot copy index p has) apart

-- and the maps are safe
pub safe_of_less : (meant less : Reads) (pair : KeptPair)
    → ((slot copy index : ℕ) (p : Payload) → HasRecord less slot copy index p → HasRecord meant slot copy index p)
    → SafeMaps meant pair → SafeMaps less pair
safe_of_less meant less pair before safe = record {
  valid = safe.valid;
  worn = safe.worn;
  a_slot = safe.a_slot;
  below = λ copy index p has. stale_of_less meant less pair p.address before (safe.below copy index p (before (1 - safe.worn) copy index p has));
}

-- a write of a record that belongs adds no stale number
pub stale_after : (meant : Reads) (pair : KeptPair) (q i : ℕ) (r : Payload) (number : ℕ)
    → r.index ≡ i → Belongs pair i r → StaleAreBelow meant pair number → StaleAreBelow (put_at q (Some r) meant) pair number
stale_after meant pair q i r number own belongs stale slot copy index p has apart =
    elim (record-put meant q (Some r) slot copy index p has) [
      | inl w ↦
          let same : r ≡ p = cc in
          let here : i ≡ index = sym own ∙ ap (λ (t : Payload). t.index) same ∙ has.own_index in
          let P : ℕ → Payload → Type 0 = λ j t. Belongs pair j t in
          absurd (apart (subst (λ (t : Payload). P index t) same (subst (λ (j : ℕ). P j r) here belongs)))
      | inr w ↦ stale slot copy index p w apart
    ]

-- a write of a record that belongs, above all stale numbers, keeps the maps safe
pub safe_after : (meant : Reads) (pair : KeptPair) (q i : ℕ) (r : Payload)
    → r.index ≡ i → Belongs pair i r → StaleAreBelow meant pair r.address → SafeMaps meant pair → SafeMaps (put_at q (Some r) meant) pair
safe_after meant pair q i r own belongs stale safe = record {
  valid = safe.valid;
  worn = safe.worn;
  a_slot = safe.a_slot;
  below = λ copy index p has.
      elim (record-put meant q (Some r) (1 - safe.worn) copy index p has) [
        | inl w ↦
            let same : r ≡ p = cc in
            subst (λ (t : Payload). StaleAreBelow (put_at q (Some r) meant) pair t.address) same (stale_after meant pair q i r r.address own belongs stale)
        | inr w ↦ stale_after meant pair q i r p.address own belongs (safe.below copy index p w)
      ];
}
