-- What writes do to safe maps: a commit and a recovery, from their beginnings to their ends.
use Rattle.std.proofs.Common.{◌≡◌, ℕ, ◌+◌, ◌-◌, ◌*◌, ◌%◌, ◌<◌, false, Some, None, refl, sym, ◌∙◌, ap, subst, ◌⊎◌, inl, inr, arith}
use Rattle.std.specs.Prelude.{◌==◌}
use Rattle.std.proofs.lemmas.Bool.{cases_Bool, cases_eq, eqb-true, eqb-false, ne_eqb}
use Rattle.std.proofs.lemmas.Bool.Decides.{eqb_tells}
use Rattle.disk_base.specs.At.{put_at}
use Rattle.disk_base.specs.declared.payload.Payload.{Payload}
use Rattle.geometry_map.specs.DefectMap.{DefectMap, IsValidMap}
use Rattle.map_generations.specs.MapRecord.{record_sector, map_record}
use Rattle.map_generations.specs.Recovery.{Reads}
use Rattle.map_generations.specs.SafeMaps.{KeptPair, kept_for, with_map, alone, AreValid, AreOneMap, IsKept, HasRecord, Belongs, StaleAreBelow, SafeMaps, StandsTo, IsPresent, MayBeWritten, NumbersUpTo}
use Rattle.map_generations.specs.SafetyLaws.{PresentMapsAreSafe, PresentMapsAreSafeAlone, PairsMayGrow, CommitsBegin, RecoveriesBegin, RecoveriesGoOn, RecordsStand, OtherSlotsStand, WritesKeepMapsSafe, TornWritesKeepMapsSafe, SafetyIsByPlace, WritesKeepNumbers, NumbersAreByPlace}
use Rattle.map_generations.proofs.SafeRecords.{kept_renamed, kept_belongs, record-put, safe_of_less, stale_of_less, stale_after, safe_after}
use Rattle.map_generations.proofs.SafeReads.{kept-taken, stale_below-may, whole_record}

-- a pair has the map that it was given, in the place for its number
pub kept_of_with_map : (pair : KeptPair) (m : DefectMap) → kept_for (with_map pair m) m.number ≡ Some m
kept_of_with_map pair m = elim (cases_Bool (m.number % 2 == 0)) [ inl w ↦ rw w refl | inr w ↦ rw w refl ]

-- a map that it has is that one, or one that it had
given_or_before : (pair : KeptPair) (m : DefectMap) (k : ℕ) (g : DefectMap)
    → kept_for (with_map pair m) k ≡ Some g → (Some m ≡ Some g) ⊎ (kept_for pair k ≡ Some g)
given_or_before pair m k g e =
    elim (cases_Bool (m.number % 2 == 0)) [
      | inl v ↦ elim (cases_Bool (k % 2 == 0)) [ inl w ↦ inl (rw (v, w) at e) | inr w ↦ inr (rw w (rw (v, w) at e)) ]
      | inr v ↦ elim (cases_Bool (k % 2 == 0)) [ inl w ↦ inr (rw w (rw (v, w) at e)) | inr w ↦ inl (rw (v, w) at e) ]
    ]

-- it loses none, where it had none for that number
pub kept_by_with_map : (pair : KeptPair) (m : DefectMap) (k : ℕ) (g : DefectMap)
    → kept_for pair m.number ≡ None → kept_for pair k ≡ Some g → kept_for (with_map pair m) k ≡ Some g
kept_by_with_map pair m k g free e =
    elim (cases_Bool (m.number % 2 == 0)) [
      | inl v ↦ elim (cases_Bool (k % 2 == 0)) [
        | inl w ↦ let none : pair.even ≡ None = rw v at free in let some : pair.even ≡ Some g = rw w at e in absurd (cc)
        | inr w ↦ rw (v, w) (rw w at e)
      ]
      | inr v ↦ elim (cases_Bool (k % 2 == 0)) [
        | inl w ↦ rw (v, w) (rw w at e)
        | inr w ↦ let none : pair.odd ≡ None = rw v at free in let some : pair.odd ≡ Some g = rw w at e in absurd (cc)
      ]
    ]

-- its maps are valid
valid_with_map : (pair : KeptPair) (m : DefectMap) → AreValid pair → IsValidMap m → AreValid (with_map pair m)
valid_with_map pair m before valid k g e =
    elim (given_or_before pair m k g e) [
      | inl w ↦ let same : m ≡ g = cc in subst (λ (t : DefectMap). IsValidMap t) same valid
      | inr w ↦ before k g w
    ]

-- a pair of none has no map
none_kept : (k : ℕ) → kept_for (record { even = None; odd = None }) k ≡ None
none_kept k = elim (cases_Bool (k % 2 == 0)) [ inl w ↦ rw w refl | inr w ↦ rw w refl ]

valid_alone : (m : DefectMap) → IsValidMap m → AreValid (alone m)
valid_alone m valid =
    let nothing : KeptPair = record { even = None; odd = None } in
    valid_with_map nothing m (λ k g e. let none : kept_for nothing k ≡ None = none_kept k in let both : None ≡ Some g = sym none ∙ e in absurd (cc)) valid

-- a map that a pair has is kept
pub kept_since : (pair : KeptPair) (m : DefectMap) → kept_for pair m.number ≡ Some m → IsKept pair m
kept_since pair m e = record {
  map = m;
  for_number = e;
  one = record {
    alike = record { measures = record { cylinders = refl; heads = refl; sectors = refl; reserved = refl }; primary = refl; grown = refl };
    state = refl;
  };
}

-- what belonged belongs
belongs_grown : (pair : KeptPair) (m : DefectMap) (index : ℕ) (p : Payload) → kept_for pair m.number ≡ None → Belongs pair index p → Belongs (with_map pair m) index p
belongs_grown pair m index p free belongs = record {
  map = belongs.map;
  for_number = kept_by_with_map pair m p.address belongs.map free belongs.for_number;
  carries = belongs.carries;
}

pub pairs-grow : PairsMayGrow
pairs-grow meant pair m safe free valid = record {
  valid = valid_with_map pair m safe.valid valid;
  worn = safe.worn;
  a_slot = safe.a_slot;
  below = λ copy index p has s c i q there apart. safe.below copy index p has s c i q there (λ b. apart (belongs_grown pair m i q free b));
}

-- where a map is present and kept, the stale numbers are below its number
pub present_stale : (meant : Reads) (pair : KeptPair) (m : DefectMap) → IsPresent meant m → IsKept pair m → StaleAreBelow meant pair m.number
present_stale meant pair m present kept slot copy index p has apart =
    let a_slot : m.slot < 2 = present.a_slot in
    let its_slot : slot < 2 = has.a_slot in
    elim (cases_eq slot m.slot) [
      | inl w ↦ absurd (apart (subst (λ (t : Payload). Belongs pair index t) (sym (whole_record meant m present.whole slot copy index p w has)) (kept_belongs pair m copy index kept)))
      | inr w ↦
          let behind : slot ≡ present.older.slot = let e : slot ≡ 1 - m.slot = omega (arith, w) in e ∙ sym present.behind in
          let number = ap (λ (t : Payload). t.address) (whole_record meant present.older present.older_whole slot copy index p behind has) in
          omega (arith, number, present.smaller)
    ]

pub present-safe : PresentMapsAreSafe
present-safe meant pair m present kept valid =
    let a_slot : m.slot < 2 = present.a_slot in
    let back : 1 - (1 - m.slot) ≡ m.slot = omega arith in
    record {
      valid = valid;
      worn = 1 - m.slot;
      a_slot = omega arith;
      below = λ copy index p has.
          let number = ap (λ (t : Payload). t.address) (whole_record meant m present.whole (1 - (1 - m.slot)) copy index p back has) in
          subst (λ (n : ℕ). StaleAreBelow meant pair n) (sym number) (present_stale meant pair m present kept);
    }

pub present-safe_alone : PresentMapsAreSafeAlone
present-safe_alone meant m present valid =
    present-safe meant (alone m) m present (kept_since (alone m) m (kept_of_with_map (record { even = None; odd = None }) m)) (valid_alone m valid)

-- a map alone leaves the place of the next number free
next_free : (m : DefectMap) (n : ℕ) → n ≡ m.number + 1 → kept_for (alone m) n ≡ None
next_free m n e =
    elim (cases_Bool (m.number % 2 == 0)) [
      | inl v ↦ elim (cases_Bool (n % 2 == 0)) [
        | inl w ↦ absurd (omega (arith, e, eqb-true (m.number % 2) 0 v, eqb-true (n % 2) 0 w))
        | inr w ↦ rw (v, w) refl
      ]
      | inr v ↦ elim (cases_Bool (n % 2 == 0)) [
        | inl w ↦ rw (v, w) refl
        | inr w ↦ absurd (omega (arith, e, eqb-false (m.number % 2) 0 v, eqb-false (n % 2) 0 w))
      ]
    ]

pub commits-begin : CommitsBegin
commits-begin meant m next present valid next_valid number slot =
    let pair : KeptPair = with_map (alone m) next in
    let free : kept_for (alone m) next.number ≡ None = next_free m next.number number in
    let own : kept_for (alone m) m.number ≡ Some m = kept_of_with_map (record { even = None; odd = None }) m in
    let kept : IsKept pair m = kept_since pair m (kept_by_with_map (alone m) next m.number m free own) in
    let a_slot : m.slot < 2 = present.a_slot in
    record {
      a_slot = omega (arith, slot);
      kept = kept_since pair next (kept_of_with_map (alone m) next);
      safe = present-safe meant pair m present kept (valid_with_map (alone m) next (valid_alone m valid) next_valid);
      above = λ s c i p has apart. omega (arith, present_stale meant pair m present kept s c i p has apart, number);
    }

-- what is one map with a map that is one with a third, is one with that
one_map_through : (a b c : DefectMap) → AreOneMap a b → AreOneMap b c → AreOneMap a c
one_map_through a b c ab bc = record {
  alike = record {
    measures = record {
      cylinders = ab.alike.measures.cylinders ∙ bc.alike.measures.cylinders;
      heads = ab.alike.measures.heads ∙ bc.alike.measures.heads;
      sectors = ab.alike.measures.sectors ∙ bc.alike.measures.sectors;
      reserved = ab.alike.measures.reserved ∙ bc.alike.measures.reserved;
    };
    primary = ab.alike.primary ∙ bc.alike.primary;
    grown = ab.alike.grown ∙ bc.alike.grown;
  };
  state = ab.state ∙ bc.state;
}

-- a kept map above all stale numbers may be written again, with two more
two_more : (meant : Reads) (pair : KeptPair) (m next : DefectMap) → m.slot < 2 → IsKept pair m → SafeMaps meant pair → StaleAreBelow meant pair m.number
    → AreOneMap next m → next.number ≡ m.number + 2 → next.slot ≡ 1 - m.slot → MayBeWritten meant pair next
two_more meant pair m next a_slot kept safe above same number slot = record {
  a_slot = omega (arith, slot);
  kept = record {
    map = kept.map;
    for_number = kept_renamed pair next.number m.number (omega (arith, number)) ∙ kept.for_number;
    one = one_map_through next m kept.map same kept.one;
  };
  safe = safe;
  above = λ s c i p has apart. omega (arith, above s c i p has apart, number);
}

pub recoveries-begin : RecoveriesBegin
recoveries-begin size meant pair m first safe may same number slot =
    two_more meant pair m first may.taken.slot (kept-taken size meant pair m safe may) safe (stale_below-may size meant pair m safe may) same number slot

pub recoveries-go_on : RecoveriesGoOn
recoveries-go_on meant pair first second may same number slot =
    two_more meant pair first second may.a_slot may.kept may.safe may.above same number slot

-- the record that is written stands beside those before it
pub one_more : RecordsStand
one_more meant m copy index a_copy an_index stands c i c_low i_low less =
    elim (eqb_tells (8 * m.slot + 4 * c + i) (8 * m.slot + 4 * copy + index)) [
      | inl w ↦
          let same_copy : copy ≡ c = omega (arith, w.1) in
          let same_index : index ≡ i = omega (arith, w.1) in
          rw w.0 (ap (λ (k : ℕ). Some (map_record m k index)) same_copy ∙ ap (λ (k : ℕ). Some (map_record m c k)) same_index)
      | inr w ↦ let below : 4 * c + i < 4 * copy + index = omega (arith, w.1) in rw w.0 (stands c i c_low i_low below)
    ]

-- the records of the other slot stand
pub others-stand : OtherSlotsStand
others-stand meant m other copy index count a_slot apart a_copy an_index stands c i c_low i_low less =
    let own : ((8 * other.slot + 4 * c + i) == (8 * m.slot + 4 * copy + index)) ≡ false = ne_eqb _ _ (λ e. omega (arith, e, apart)) in
    rw own (stands c i c_low i_low less)

pub writes-safe : WritesKeepMapsSafe
writes-safe meant pair m copy index may =
    let q : ℕ = (record_sector m.slot copy index).0 in
    let r : Payload = map_record m copy index in
    let belongs : Belongs pair index r = kept_belongs pair m copy index may.kept in
    record {
      a_slot = may.a_slot;
      kept = may.kept;
      safe = safe_after meant pair q index r refl belongs may.above may.safe;
      above = stale_after meant pair q index r m.number refl belongs may.above;
    }

pub torn-safe : TornWritesKeepMapsSafe
torn-safe meant torn pair m copy index may left =
    let q : ℕ = (record_sector m.slot copy index).0 in
    let r : Payload = map_record m copy index in
    let P : Reads → Type 0 = λ t. SafeMaps t pair in
    elim left [
      | inl same ↦ subst P (sym same) may.safe
      | inr changed ↦ elim changed [
        | inl new ↦ subst P (sym new) (safe_after meant pair q index r refl (kept_belongs pair m copy index may.kept) may.above may.safe)
        | inr none ↦
            let before : (s c i : ℕ) (p : Payload) → HasRecord (put_at q None meant) s c i p → HasRecord meant s c i p =
            λ s c i p has. elim (record-put meant q None s c i p has) [ inl w ↦ absurd (cc) | inr w ↦ w ] in
            subst P (sym none) (safe_of_less meant (put_at q None meant) pair before may.safe)
      ]
    ]

pub numbers-written : WritesKeepNumbers
numbers-written meant after m copy index number up_to within left =
    let q : ℕ = (record_sector m.slot copy index).0 in
    let r : Payload = map_record m copy index in
    let P : Reads → Type 0 = λ t. NumbersUpTo t number in
    elim left [
      | inl same ↦ subst P (sym same) up_to
      | inr changed ↦ elim changed [
        | inl new ↦
            let put : NumbersUpTo (put_at q (Some r) meant) number =
            λ s c i p has.
            elim (record-put meant q (Some r) s c i p has) [
              | inl w ↦ let same : r ≡ p = cc in omega (arith, ap (λ (t : Payload). t.address) same)
              | inr w ↦ up_to s c i p w
            ] in
            subst P (sym new) put
        | inr none ↦
            let taken : NumbersUpTo (put_at q None meant) number =
            λ s c i p has. elim (record-put meant q None s c i p has) [ inl w ↦ absurd (cc) | inr w ↦ up_to s c i p w ] in
            subst P (sym none) taken
      ]
    ]

-- what is a record where the same is meant, is one
record_at_same : (meant other : Reads) → ((p : ℕ) → p < 16 → meant p ≡ other p) → (slot copy index : ℕ) (p : Payload)
    → HasRecord other slot copy index p → HasRecord meant slot copy index p
record_at_same meant other same slot copy index p has = record {
  a_slot = has.a_slot;
  a_copy = has.a_copy;
  an_index = has.an_index;
  there = same (8 * slot + 4 * copy + index) (omega (arith, has.a_slot, has.a_copy, has.an_index)) ∙ has.there;
  kind = has.kind;
  own_index = has.own_index;
}

-- and what stands, stands
stand_at_same : (meant other : Reads) → ((p : ℕ) → p < 16 → meant p ≡ other p) → (m : DefectMap) (count : ℕ) → m.slot < 2
    → StandsTo meant m count → StandsTo other m count
stand_at_same meant other same m count a_slot stands c i c_low i_low less =
    sym (same (8 * m.slot + 4 * c + i) (omega arith)) ∙ stands c i c_low i_low less

pub safety-by_place : SafetyIsByPlace
safety-by_place meant other same =
    let before = record_at_same meant other same in (
      λ pair safe. safe_of_less meant other pair before safe,
      λ pair m may. record {
        a_slot = may.a_slot;
        kept = may.kept;
        safe = safe_of_less meant other pair before may.safe;
        above = stale_of_less meant other pair m.number before may.above;
      },
      λ m present.
          let a_slot : m.slot < 2 = present.a_slot in
          record {
            a_slot = a_slot;
            whole = stand_at_same meant other same m 8 a_slot present.whole;
            older = present.older;
            behind = present.behind;
            smaller = present.smaller;
            older_whole = stand_at_same meant other same present.older 8 (omega (arith, present.behind)) present.older_whole;
          },
      λ m count a_slot stands. stand_at_same meant other same m count a_slot stands,
    )

pub numbers-by_place : NumbersAreByPlace
numbers-by_place meant other same number up_to slot copy index p has = up_to slot copy index p (record_at_same meant other same slot copy index p has)
