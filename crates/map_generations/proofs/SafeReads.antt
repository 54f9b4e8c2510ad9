-- What recovery reads is meant, and what it takes of safe maps is kept.
use Rattle.std.proofs.Common.{◌≡◌, ℕ, ◌+◌, ◌-◌, ◌*◌, ◌^◌, ◌<◌, ◌≤◌, Option, Some, None, refl, sym, ◌∙◌, ap, subst, ◌⊎◌, inl, inr, arith, lit<}
use Rattle.std.specs.Prelude.{◌==◌, ◌&&◌, nat_lt}
use Rattle.std.proofs.lemmas.Bool.{cases_Bool, cases_eq, and_parts, eqb-true, eq-eqb, ltb-true, lt-ltb}
use Rattle.disk_base.specs.declared.payload.Payload.{Payload}
use Rattle.geometry_map.specs.declared.size.Size.{Size}
use Rattle.geometry_map.specs.DefectMap.{DefectMap}
use Rattle.map_generations.specs.MapRecord.{record_bytes, record_sector, map_record}
use Rattle.map_generations.specs.Recovery.{Reads, as_counted, counted, is_record, as_record, first_or, Carries, IsComplete, IsTaken}
use Rattle.map_generations.specs.SafeMaps.{AreReadFrom, MayBeTaken, KeptPair, kept_for, AreValid, IsKept, HasRecord, Belongs, StaleAreBelow, SafeMaps, StandsTo}
use Rattle.map_generations.specs.SafetyLaws.{RecoveryTakesKeptMaps, OneSlotIsWorn, RecoveryTakesThePresentMap, PresentMapsAreTaken, PresentMapsMayBeTaken, TakenNumbersAreSmall, TakenNumbersAreMeant}
use Rattle.map_generations.proofs.ReadBack.{records-tell}
use Rattle.map_generations.proofs.SafeRecords.{belongs_above}

-- the reads that count are reads, or nothing
as_counted_or : (o : Option Payload) → (as_counted o ≡ o) ⊎ (as_counted o ≡ None)
as_counted_or None = inl refl
as_counted_or (Some p) = elim (cases_Bool (nat_lt p.address (2 ^ 63))) [ inl w ↦ inl (rw w refl) | inr w ↦ inr (rw w refl) ]

counted_are_read : (meant reads : Reads) → AreReadFrom meant reads → AreReadFrom meant (counted reads)
counted_are_read meant reads read p low =
    elim (as_counted_or (reads p)) [
      | inl same ↦ elim (read p low) [ inl w ↦ inl (same ∙ w) | inr w ↦ inr (same ∙ w) ]
      | inr none ↦ inr none
    ]

counted_is_small : (o : Option Payload) (p : Payload) → as_counted o ≡ Some p → p.address < 2 ^ 63
counted_is_small None p e = absurd (cc)
counted_is_small (Some q) p e =
    elim (cases_Bool (nat_lt q.address (2 ^ 63))) [
      | inl w ↦
          let given : Some q ≡ Some p = rw w at e in
          let same : q ≡ p = cc in
          subst (λ (t : Payload). t.address < 2 ^ 63) same (ltb-true q.address (2 ^ 63) w)
      | inr w ↦ let given : None ≡ Some p = rw w at e in absurd (cc)
    ]

-- what is read is meant
read_is_meant : (meant reads : Reads) → AreReadFrom meant reads → (n : ℕ) → n < 16 → (p : Payload) → reads n ≡ Some p → meant n ≡ Some p
read_is_meant meant reads read n low p e = elim (read n low) [ inl w ↦ sym w ∙ e | inr w ↦ absurd (cc) ]

-- a sector that reads as a record has that record
record_read : (meant reads : Reads) → AreReadFrom meant reads → (slot copy index number : ℕ) (o : Option Payload) (p : Payload)
    → slot < 2 → copy < 2 → index < 4 → reads (record_sector slot copy index).0 ≡ o → as_record index number o ≡ Some p
    → HasRecord meant slot copy index p × (p.address ≡ number)
record_read meant reads read slot copy index number None p a_slot a_copy an_index there e = absurd (cc)
record_read meant reads read slot copy index number (Some q) p a_slot a_copy an_index there e =
    elim (cases_Bool (is_record index number q)) [
      | inl w ↦
          let given : Some q ≡ Some p = rw w at e in
          let same : q ≡ p = cc in
          let parts = and_parts (q.kind == 3) ((q.index == index) && (q.address == number)) w in
          let more = and_parts (q.index == index) (q.address == number) parts.1 in
          let low : 8 * slot + 4 * copy + index < 16 = omega arith in
          let all : HasRecord meant slot copy index q × (q.address ≡ number) = (
            record {
              a_slot = a_slot;
              a_copy = a_copy;
              an_index = an_index;
              there = read_is_meant meant reads read (8 * slot + 4 * copy + index) low q there;
              kind = eqb-true q.kind 3 parts.0;
              own_index = eqb-true q.index index more.0;
            },
            eqb-true q.address number more.1,
          ) in
          subst (λ (t : Payload). HasRecord meant slot copy index t × (t.address ≡ number)) same all
      | inr w ↦ let given : None ≡ Some p = rw w at e in absurd (cc)
    ]

-- the record of one copy or the other
first_or_parts : (a b : Option Payload) (p : Payload) → first_or a b ≡ Some p → (a ≡ Some p) ⊎ (b ≡ Some p)
first_or_parts None b p e = inr e
first_or_parts (Some q) b p e = inl e

-- a map for which its slot is complete has each of its records there
pub complete_records : (size : Size) (meant reads : Reads) → AreReadFrom meant reads → (m : DefectMap) → m.slot < 2 → IsComplete size reads m
    → (index : ℕ) → index < 4 → (copy : ℕ) × (p : Payload) × HasRecord meant m.slot copy index p × (p.address ≡ m.number) × Carries m index p
complete_records size meant reads read m a_slot complete index low =
    let found = complete.records index low in
    elim (first_or_parts (as_record index m.number (reads (record_sector m.slot 0 index).0)) (as_record index m.number (reads (record_sector m.slot 1 index).0)) found.0 found.1) [
      | inl w ↦
          let has = record_read meant reads read m.slot 0 index m.number (reads (record_sector m.slot 0 index).0) found.0 a_slot (lit< tt) low refl w in
          (0, found.0, has.0, has.1, found.2)
      | inr w ↦
          let has = record_read meant reads read m.slot 1 index m.number (reads (record_sector m.slot 1 index).0) found.0 a_slot (lit< tt) low refl w in
          (1, found.0, has.0, has.1, found.2)
    ]

-- a map whose records belong is kept
pub kept_from_records : (size : Size) (meant reads : Reads) (pair : KeptPair) (m : DefectMap) → AreReadFrom meant reads → m.slot < 2
    → IsComplete size reads m → AreValid pair → StaleAreBelow meant pair m.number → IsKept pair m
kept_from_records size meant reads pair m read a_slot complete valid above =
    let belongs : (index : ℕ) → index < 4 → (p : Payload) × Belongs pair index p × (p.address ≡ m.number) × Carries m index p =
    λ index low.
    let found = complete_records size meant reads read m a_slot complete index low in
    (found.1, belongs_above meant pair m.number m.slot found.0 index found.1 above found.2 (omega (arith, found.3)), found.3, found.4) in
    let first = belongs 0 (lit< tt) in
    let g : DefectMap = first.1.map in
    let for_number : kept_for pair m.number ≡ Some g = ap (λ (n : ℕ). kept_for pair n) (sym first.2) ∙ first.1.for_number in
    let same : (index : ℕ) → index < 4 → record_bytes m index ≡ record_bytes g index =
    λ index low.
    let one = belongs index low in
    let here : kept_for pair m.number ≡ Some one.1.map = ap (λ (n : ℕ). kept_for pair n) (sym one.2) ∙ one.1.for_number in
    let some : Some one.1.map ≡ Some g = sym here ∙ for_number in
    let alike : one.1.map ≡ g = cc (some) in
    sym one.3.bytes ∙ one.1.carries.bytes ∙ ap (λ (t : DefectMap). record_bytes t index) alike in
    record {
      map = g;
      for_number = for_number;
      one = record {
        alike = records-tell m g complete.valid (valid m.number g for_number) same;
        state = sym first.3.state ∙ first.1.carries.state;
      };
    }

-- the stale numbers are below each number that recovery takes
pub stale_below_taken : (size : Size) (meant reads : Reads) (pair : KeptPair) (m : DefectMap) → AreReadFrom meant reads
    → SafeMaps meant pair → IsTaken size reads m → StaleAreBelow meant pair m.number
stale_below_taken size meant reads pair m read safe taken slot copy index p has apart =
    let below : (s c i : ℕ) (q : Payload) → s ≡ 1 - safe.worn → HasRecord meant s c i q → q.address ≤ m.number → p.address < m.number =
    λ s c i q e there less. omega (arith, safe.below c i q (subst (λ (t : ℕ). HasRecord meant t c i q) e there) slot copy index p has apart) in
    let worn : safe.worn < 2 = safe.a_slot in
    let a_slot : m.slot < 2 = taken.slot in
    let other_slot : 1 - m.slot < 2 = omega arith in
    elim (cases_eq m.slot safe.worn) [
      | inl w ↦ elim taken.other [
        | inl h ↦
            let its_slot : h.0.slot < 2 = subst (λ (t : ℕ). t < 2) (sym h.1) other_slot in
            let one = complete_records size meant reads read h.0 its_slot h.2 0 (lit< tt) in
            let no_later : h.0.number ≤ m.number = elim (taken.no_older h.0 h.2 h.1) [ inl v ↦ omega (arith, v) | inr v ↦ omega (arith, v.0) ] in
            below h.0.slot one.0 0 one.1 (h.1 ∙ ap (λ (t : ℕ). 1 - t) w) one.2 (omega (arith, one.3))
        | inr h ↦
            let one = record_read meant reads read (1 - m.slot) 1 3 h.0 (reads (record_sector (1 - m.slot) 1 3).0) h.2 other_slot (lit< tt) (lit< tt) refl h.3 in
            below (1 - m.slot) 1 3 h.2 (ap (λ (t : ℕ). 1 - t) w) one.0 (omega (arith, one.1, h.1))
      ]
      | inr w ↦
          let one = complete_records size meant reads read m a_slot taken.latest.complete 0 (lit< tt) in
          let apart : m.slot ≡ 1 - safe.worn = omega (arith, w) in
          below m.slot one.0 0 one.1 apart one.2 (omega (arith, one.3))
    ]

-- and the map is kept
pub taken_is_kept : (size : Size) (meant reads : Reads) (pair : KeptPair) (m : DefectMap) → AreReadFrom meant reads
    → SafeMaps meant pair → IsTaken size reads m → IsKept pair m
taken_is_kept size meant reads pair m read safe taken =
    kept_from_records size meant reads pair m read taken.slot taken.latest.complete safe.valid (stale_below_taken size meant reads pair m read safe taken)

pub kept-taken : RecoveryTakesKeptMaps
kept-taken size meant pair m safe may =
    taken_is_kept size meant (counted may.reads) pair m (counted_are_read meant may.reads may.read) safe may.taken

pub stale_below-may : (size : Size) (meant : Reads) (pair : KeptPair) (m : DefectMap) → SafeMaps meant pair → MayBeTaken size meant m → StaleAreBelow meant pair m.number
stale_below-may size meant pair m safe may =
    stale_below_taken size meant (counted may.reads) pair m (counted_are_read meant may.reads may.read) safe may.taken

-- the slot that is not worn carries no stale number
pub one-worn : OneSlotIsWorn
one-worn meant pair safe copy index p has =
    belongs_above meant pair p.address (1 - safe.worn) copy index p (safe.below copy index p has) has (omega arith)

-- a taken number is below 2^63
pub small-taken : TakenNumbersAreSmall
small-taken size meant m may =
    let self : AreReadFrom (counted may.reads) (counted may.reads) = λ p low. inl refl in
    let one = complete_records size (counted may.reads) (counted may.reads) self m may.taken.slot may.taken.latest.complete 0 (lit< tt) in
    let small : one.1.address < 2 ^ 63 = counted_is_small (may.reads (record_sector m.slot one.0 0).0) one.1 one.2.there in
    subst (λ (t : ℕ). t < 2 ^ 63) one.3 small

-- and it is meant
pub numbers-taken : TakenNumbersAreMeant
numbers-taken size meant m number may up_to =
    let reads : Reads = counted may.reads in
    let one = complete_records size meant reads (counted_are_read meant may.reads may.read) m may.taken.slot may.taken.latest.complete 0 (lit< tt) in
    omega (arith, one.3, up_to m.slot one.0 0 one.1 one.2)

-- where a map stands whole, each record of its slot is its own
pub whole_record : (meant : Reads) (m : DefectMap) → StandsTo meant m 8 → (slot copy index : ℕ) (p : Payload)
    → slot ≡ m.slot → HasRecord meant slot copy index p → p ≡ map_record m copy index
whole_record meant m whole slot copy index p same has =
    let here : HasRecord meant m.slot copy index p = subst (λ (t : ℕ). HasRecord meant t copy index p) same has in
    let a_copy : copy < 2 = has.a_copy in
    let an_index : index < 4 = has.an_index in
    let both : Some p ≡ Some (map_record m copy index) = sym here.there ∙ whole copy index a_copy an_index (omega arith) in
    cc (both)

-- and each map for which the slot is complete has its number
whole_number : (size : Size) (meant reads : Reads) → AreReadFrom meant reads → (m n : DefectMap) → StandsTo meant m 8 → n.slot < 2
    → n.slot ≡ m.slot → IsComplete size reads n → n.number ≡ m.number
whole_number size meant reads read m n whole a_slot same complete =
    let one = complete_records size meant reads read n a_slot complete 0 (lit< tt) in
    sym one.3 ∙ ap (λ (t : Payload). t.address) (whole_record meant m whole n.slot one.0 0 one.1 same one.2)

-- nothing but a present map is taken
pub present-taken : RecoveryTakesThePresentMap
present-taken size meant m t present valid may =
    let reads : Reads = counted may.reads in
    let read : AreReadFrom meant reads = counted_are_read meant may.reads may.read in
    let a_slot : m.slot < 2 = present.a_slot in
    let its_slot : t.slot < 2 = may.taken.slot in
    let other_slot : 1 - t.slot < 2 = omega arith in
    let complete = may.taken.latest.complete in
    elim (cases_eq t.slot m.slot) [
      | inl w ↦
          let each : (index : ℕ) → index < 4 → (copy : ℕ) × (p : Payload) × (p ≡ map_record m copy index) × (p.address ≡ t.number) × Carries t index p =
          λ index low.
          let one = complete_records size meant reads read t its_slot complete index low in
          (one.0, one.1, whole_record meant m present.whole t.slot one.0 index one.1 w one.2, one.3, one.4) in
          let same : (index : ℕ) → index < 4 → record_bytes t index ≡ record_bytes m index =
          λ index low. let one = each index low in sym one.4.bytes ∙ ap (λ (q : Payload). q.block) one.2 in
          let first = each 0 (lit< tt) in (
            record { alike = records-tell t m complete.valid valid same; state = sym first.4.state ∙ ap (λ (q : Payload). q.state) first.2 },
            sym first.3 ∙ ap (λ (q : Payload). q.address) first.2,
            w,
          )
      | inr w ↦
          let behind : t.slot ≡ present.older.slot = let e : t.slot ≡ 1 - m.slot = omega (arith, w) in e ∙ sym present.behind in
          let number : t.number ≡ present.older.number = whole_number size meant reads read present.older t present.older_whole its_slot behind complete in
          let ours : 1 - t.slot ≡ m.slot = omega (arith, w) in
          let none : ⊥ = elim may.taken.other [
            | inl h ↦
                let at : h.0.slot ≡ m.slot = h.1 ∙ ours in
                let great : h.0.number ≡ m.number = whole_number size meant reads read m h.0 present.whole (subst (λ (s : ℕ). s < 2) (sym at) a_slot) at h.2 in
                elim (may.taken.no_older h.0 h.2 h.1) [ inl v ↦ omega (arith, v, great, number, present.smaller) | inr v ↦ omega (arith, v.0, great, number, present.smaller) ]
            | inr h ↦
                let one = record_read meant reads read (1 - t.slot) 1 3 h.0 (reads (record_sector (1 - t.slot) 1 3).0) h.2 other_slot (lit< tt) (lit< tt) refl h.3 in
                let own = ap (λ (q : Payload). q.address) (whole_record meant m present.whole (1 - t.slot) 1 3 h.2 ours one.0) in
                omega (arith, own, one.1, h.1, number, present.smaller)
          ] in
          absurd none
    ]

-- and over what is meant it is taken
pub taken-present : PresentMapsAreTaken
taken-present meant m present valid in_use =
    let self : AreReadFrom meant meant = λ p low. inl refl in
    let a_slot : m.slot < 2 = present.a_slot in
    let numbered : (n : DefectMap) → IsComplete m.size meant n → n.slot ≡ m.slot → n.number ≡ m.number =
    λ n complete same. whole_number m.size meant meant self m n present.whole (subst (λ (s : ℕ). s < 2) (sym same) a_slot) same complete in
    let last : meant (record_sector (1 - m.slot) 1 3).0 ≡ Some (map_record present.older 1 3) =
    subst (λ (s : ℕ). meant (record_sector s 1 3).0 ≡ Some (map_record present.older 1 3)) present.behind (present.older_whole 1 3 (lit< tt) (lit< tt) (lit< tt)) in
    record {
      slot = a_slot;
      latest = record {
        complete = record {
          valid = valid;
          of_drive = refl;
          in_use = in_use;
          records = λ index low.
              let there = present.whole 0 index (lit< tt) low (omega arith) in
              (map_record m 0 index, rw (there, eq-eqb index index refl, eq-eqb m.number m.number refl) refl, record { version = refl; state = refl; bytes = refl });
        };
        greatest = λ n complete same. omega (arith, numbered n complete same);
      };
      no_older = λ n complete same.
          let behind : n.slot ≡ present.older.slot = same ∙ sym present.behind in
          let older_slot : present.older.slot < 2 = omega (arith, present.behind) in
          let number = whole_number m.size meant meant self present.older n present.older_whole (subst (λ (s : ℕ). s < 2) (sym behind) older_slot) behind complete in
          inl (omega (arith, number, present.smaller));
      other = inr (present.older.number, present.smaller, map_record present.older 1 3, rw (last, eq-eqb present.older.number present.older.number refl) refl);
    }

-- a map that stands whole and counts, stands whole in the reads that count
counted_stands : (meant : Reads) (m : DefectMap) → m.number < 2 ^ 63 → StandsTo meant m 8 → StandsTo (counted meant) m 8
counted_stands meant m small stands c i c_low i_low less =
    rw (stands c i c_low i_low less, lt-ltb m.number (2 ^ 63) small) refl

pub may-present : PresentMapsMayBeTaken
may-present meant m present valid in_use small = record {
  reads = meant;
  read = λ p low. inl refl;
  taken = taken-present (counted meant) m
      (record {
        a_slot = present.a_slot;
        whole = counted_stands meant m small present.whole;
        older = present.older;
        behind = present.behind;
        smaller = present.smaller;
        older_whole = counted_stands meant present.older (omega (arith, present.smaller)) present.older_whole;
      })
      valid in_use;
}
