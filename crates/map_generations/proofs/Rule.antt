-- What the rule of recovery comes to.
use Rattle.std.proofs.Common.{◌≡◌, ℕ, ◌-◌, ◌<◌, zero, suc, true, Option, Some, None, refl, sym, ◌∙◌, ap, subst, ◌⊎◌, inl, inr, ◌↔◌, arith, lit<}
use Rattle.std.specs.Prelude.{nat_lt, ◌==◌, ◌&&◌, IfSome, IsTrue}
use Rattle.std.proofs.lemmas.Option.{same_Some, cond_some}
use Rattle.std.proofs.lemmas.Bool.Decides.{leb_tells, eqb_tells, Decides-ltb, Decides-eqb, nat_tests}
use Rattle.disk_base.specs.declared.payload.Payload.{Payload}
use Rattle.geometry_map.specs.declared.size.Size.{Size}
use Rattle.geometry_map.specs.DefectMap.{DefectMap, IsValidMap, map_of}
use Rattle.map_generations.specs.declared.recovery.Decision.{Decision}
use Rattle.map_generations.specs.declared.recovery.Decision.TheVariants.{Take, Corrupt}
use Rattle.map_generations.specs.MapRecord.{record_bytes, record_sector, map_record, IsState}
use Rattle.map_generations.specs.Recovery.{Reads, is_record, as_record, first_or, record_in, Carries, IsComplete, HasMap, IsLatest, LastIsOlder, IsNoOlder, IsTaken, IsCorrupt, IsDecided}
use Rattle.map_generations.specs.Laws.{IsReadable}
use Rattle.map_generations.specs.Reading.{IsNumbered, AreRecordsOf, later_map, later_of, IsLatestOf, IsDecidedAlone}
use Rattle.map_generations.proofs.ReadBack.{records-tell}

-- what holds of the four records holds below four
pub four : (P : ℕ → Type 0) → P 0 → P 1 → P 2 → P 3 → (index : ℕ) → index < 4 → P index
four P a b c d zero within = a
four P a b c d (suc zero) within = b
four P a b c d (suc (suc zero)) within = c
four P a b c d (suc (suc (suc zero))) within = d
four P a b c d (suc (suc (suc (suc n)))) within = absurd (omega arith)

-- what is found in either is found in one
pub first_or_some : (x y : Option Payload) (p : Payload) → first_or x y ≡ Some p → (x ≡ Some p) ⊎ (y ≡ Some p)
first_or_some None y p e = inr e
first_or_some (Some q) y p e = inl e

-- a record of a number carries it
pub carries_number : (index number : ℕ) (p : Payload) → is_record index number p ≡ true → p.address ≡ number
carries_number index number p is = grind (arith, nat_tests)

-- a record of an index and a number is one
own_record : (index number : ℕ) → (index == index) && (number == number) ≡ true
own_record index number =
    let same = (Decides-eqb index index).1 refl in
    let also = (Decides-eqb number number).1 refl in
    rw (same, also) refl

-- the payload that a sector reads as is a record with a smaller number, where its own is smaller
pub last_is_older : (reads : Reads) (slot number : ℕ) (p : Payload) → reads (record_sector slot 1 3).0 ≡ Some p → is_record 3 p.address p ≡ true
    → IsTrue (nat_lt p.address number) ↔ LastIsOlder reads slot number
last_is_older reads slot number p e is = (
  λ less. (p.address, (Decides-ltb p.address number).0 less, p, rw (e, is) refl),
  λ (n, smaller, q, found). (
      let record_is : is_record 3 n p ≡ true = (cond_some (is_record 3 n p) p q (rw e at found)).0 in
      let same = carries_number 3 n p record_is in
      (Decides-ltb p.address number).1 (omega arith)),
)

module _ (size : Size) (reads : Reads) where
  -- a record is the same one under equal slots and numbers
  record_moved : (a b n k index : ℕ) → a ≡ b → n ≡ k → record_in reads a n index ≡ record_in reads b k index
  record_moved a b n k index slots numbers = rw (slots, numbers) refl

  -- four records that carry a map make its slot complete
  pub complete_from : (slot number : ℕ) (m : DefectMap) (p q r s : Payload) → IsNumbered size slot number m
      → record_in reads slot number 0 ≡ Some p → record_in reads slot number 1 ≡ Some q
      → record_in reads slot number 2 ≡ Some r → record_in reads slot number 3 ≡ Some s
      → AreRecordsOf m p q r s → IsComplete size reads m
  complete_from slot number m p q r s is a b c d are =
      let found = four (λ (index : ℕ). (x : Payload) × (record_in reads slot number index ≡ Some x) × Carries m index x)
      (p, a, are.of_sectors) (q, b, are.of_pairs) (r, c, are.of_later_pairs) (s, d, are.of_measures) in
      record {
        valid = is.valid;
        of_drive = is.of_drive;
        in_use = is.in_use;
        records = λ index within.
            let carrying = found index within in
            (carrying.0, record_moved m.slot slot m.number number index is.of_slot is.of_number ∙ carrying.1, carrying.2);
      }

  -- a record of a slot that is complete carries its map
  carried : (m : DefectMap) (slot number index : ℕ) (p : Payload) → IsComplete size reads m → m.slot ≡ slot → m.number ≡ number → index < 4
      → record_in reads slot number index ≡ Some p → Carries m index p
  carried m slot number index p complete of_slot of_number within e =
      let found = complete.records index within in
      let same : found.0 ≡ p = same_Some found.0 p (sym found.1 ∙ rw (of_slot, of_number) e) in
      subst (λ (q : Payload). Carries m index q) same found.2

  -- so four records do
  pub are_records : (m : DefectMap) (slot number : ℕ) (p q r s : Payload) → IsComplete size reads m → m.slot ≡ slot → m.number ≡ number
      → record_in reads slot number 0 ≡ Some p → record_in reads slot number 1 ≡ Some q
      → record_in reads slot number 2 ≡ Some r → record_in reads slot number 3 ≡ Some s → AreRecordsOf m p q r s
  are_records m slot number p q r s complete of_slot of_number a b c d = record {
    of_sectors = carried m slot number 0 p complete of_slot of_number (lit< tt) a;
    of_pairs = carried m slot number 1 q complete of_slot of_number (lit< tt) b;
    of_later_pairs = carried m slot number 2 r complete of_slot of_number (lit< tt) c;
    of_measures = carried m slot number 3 s complete of_slot of_number (lit< tt) d;
  }

  -- and the map is a numbered one
  pub numbered : (m : DefectMap) (slot number : ℕ) → IsComplete size reads m → m.slot ≡ slot → m.number ≡ number → IsNumbered size slot number m
  numbered m slot number complete of_slot of_number =
      record { valid = complete.valid; of_drive = complete.of_drive; of_slot = of_slot; of_number = of_number; in_use = complete.in_use }

  -- a slot is complete for one map of a number
  pub same_map : (m n : DefectMap) → IsComplete size reads m → IsComplete size reads n → m.slot ≡ n.slot → m.number ≡ n.number → m ≡ n
  same_map m n of_m of_n slots numbers =
      let same : (index : ℕ) → index < 4 → record_bytes m index ≡ record_bytes n index = λ (index : ℕ) (within : index < 4).
      (let found = of_m.records index within in
      let also = carried n m.slot m.number index found.0 of_n (sym slots) (sym numbers) within found.1 in
      sym found.2.bytes ∙ also.bytes) in
      let first = of_m.records 0 (lit< tt) in
      let also = carried n m.slot m.number 0 first.0 of_n (sym slots) (sym numbers) (lit< tt) first.1 in
      let alike = records-tell m n of_m.valid of_n.valid same in
      let sizes : m.size ≡ n.size = of_m.of_drive ∙ sym of_n.of_drive in
      let states : m.state ≡ n.state = sym first.2.state ∙ also.state in
      let primaries = alike.primary in
      let growns = alike.grown in
      let parts : map_of m.size m.primary m.grown m.number m.slot m.state ≡ map_of n.size n.primary n.grown n.number n.slot n.state = cc in
      parts

  -- and so it has one latest map
  pub same_latest : (m n : DefectMap) → IsLatest size reads m → IsLatest size reads n → m.slot ≡ n.slot → m ≡ n
  same_latest m n of_m of_n slots =
      let no_more = of_n.greatest m of_m.complete slots in
      let no_less = of_m.greatest n of_n.complete (sym slots) in
      same_map m n of_m.complete of_n.complete slots (omega arith)

  -- a slot that a map was written to is complete for it, where each record reads
  pub written_complete : (m : DefectMap) → m.size ≡ size → IsValidMap m → IsState m.state → ((index : ℕ) → index < 4 → IsReadable m reads index)
      → IsComplete size reads m
  written_complete m of_drive valid in_use readable = record {
    valid = valid;
    of_drive = of_drive;
    in_use = in_use;
    records = λ index within. elim (readable index within) [
      | inl w ↦ (map_record m 0 index, rw (w, own_record index m.number) refl, record { version = refl; state = refl; bytes = refl })
      | inr w ↦ (map_record m 1 index, rw (w.0, w.1, own_record index m.number) refl, record { version = refl; state = refl; bytes = refl })
    ];
  }

  -- one of the first records of both copies carries the number that a slot is complete for
  pub found_by_a_copy : (slot : ℕ) (a b : Option DefectMap)
      → ((m : DefectMap) → m.slot ≡ slot → IsComplete size reads m → (p : Payload) → as_record 0 m.number (reads (record_sector slot 0 0).0) ≡ Some p → a ≡ Some m)
      → ((m : DefectMap) → m.slot ≡ slot → IsComplete size reads m → (p : Payload) → as_record 0 m.number (reads (record_sector slot 1 0).0) ≡ Some p → b ≡ Some m)
      → (m : DefectMap) → m.slot ≡ slot → IsComplete size reads m → (a ≡ Some m) ⊎ (b ≡ Some m)
  found_by_a_copy slot a b by_a by_b m of_slot complete =
      let first = complete.records 0 (lit< tt) in
      let e : record_in reads slot m.number 0 ≡ Some first.0 = rw of_slot at first.1 in
      elim (first_or_some (as_record 0 m.number (reads (record_sector slot 0 0).0)) (as_record 0 m.number (reads (record_sector slot 1 0).0)) first.0 e) [
        | inl w ↦ inl (by_a m of_slot complete first.0 w)
        | inr w ↦ inr (by_b m of_slot complete first.0 w)
      ]

  -- the greatest of the maps that were found is the latest
  pub latest_found : (slot : ℕ) (a b : Option DefectMap)
      → IfSome a (λ m. (m.slot ≡ slot) × IsComplete size reads m)
      → IfSome b (λ m. (m.slot ≡ slot) × IsComplete size reads m)
      → ((m : DefectMap) → m.slot ≡ slot → IsComplete size reads m → (a ≡ Some m) ⊎ (b ≡ Some m))
      → IsLatestOf size reads slot (later_of a b)
  latest_found slot None None of_a of_b found =
      λ (m, of_slot, complete). elim (found m of_slot complete) [ inl w ↦ cc | inr w ↦ cc ]
  latest_found slot None (Some m) of_a of_b found = (
    of_b.0,
    record {
      complete = of_b.1;
      greatest = λ n complete same. elim (found n (same ∙ of_b.0) complete) [
        | inl w ↦ absurd (cc)
        | inr w ↦ let e = same_Some m n w in omega (arith, ap (λ (k : DefectMap). k.number) e)
      ];
    },
  )
  latest_found slot (Some m) None of_a of_b found = (
    of_a.0,
    record {
      complete = of_a.1;
      greatest = λ n complete same. elim (found n (same ∙ of_a.0) complete) [
        | inl w ↦ let e = same_Some m n w in omega (arith, ap (λ (k : DefectMap). k.number) e)
        | inr w ↦ absurd (cc)
      ];
    },
  )
  latest_found slot (Some m) (Some n) of_a of_b found =
      elim (leb_tells (suc m.number) n.number) [
        | inl w ↦ rw w.0 (
          of_b.0,
          record {
            complete = of_b.1;
            greatest = λ k complete same. elim (found k (same ∙ of_b.0) complete) [
              | inl v ↦ let e = same_Some m k v in omega (arith, w.1, ap (λ (k : DefectMap). k.number) e)
              | inr v ↦ let e = same_Some n k v in omega (arith, ap (λ (k : DefectMap). k.number) e)
            ];
          },
        )
        | inr w ↦ rw w.0 (
          of_a.0,
          record {
            complete = of_a.1;
            greatest = λ k complete same. elim (found k (same ∙ of_a.0) complete) [
              | inl v ↦ let e = same_Some m k v in omega (arith, ap (λ (k : DefectMap). k.number) e)
              | inr v ↦ let e = same_Some n k v in omega (arith, w.1, ap (λ (k : DefectMap). k.number) e)
            ];
          },
        )
      ]

  -- no map is older than none
  older_than_none : (m : DefectMap) (slot : ℕ) → (HasMap size reads slot → ⊥) → 1 - m.slot ≡ slot → IsNoOlder size reads m
  older_than_none m slot none other n complete of_slot = absurd (none (n, of_slot ∙ other, complete))

  -- the later of two latest maps is taken
  pub later_taken : (m n : DefectMap) → m.slot ≡ 0 → n.slot ≡ 1 → IsLatest size reads m → IsLatest size reads n → IsTaken size reads (later_map m n)
  later_taken m n in_0 in_1 of_m of_n =
      elim (leb_tells (suc m.number) n.number) [
        | inl w ↦ rw w.0 (record {
          slot = omega arith;
          latest = of_n;
          no_older = λ k complete of_slot. inl (let less = of_m.greatest k complete (omega arith) in omega (arith, w.1));
          other = inl (m, omega arith, of_m.complete);
        })
        | inr w ↦ rw w.0 (record {
          slot = omega arith;
          latest = of_m;
          no_older = λ k complete of_slot. (let less = of_n.greatest k complete (omega arith) in
              elim (leb_tells (suc k.number) m.number) [ inl v ↦ inl v.1 | inr v ↦ inr (omega (arith, v.1, w.1), in_0) ]);
          other = inl (n, omega arith, of_n.complete);
        })
      ]

  -- the only latest map is taken, or makes the map corrupt
  pub decided_alone : (broken : ℕ) (m : DefectMap) (decision : Decision) → broken < 2 → m.slot ≡ 1 - broken → IsLatest size reads m
      → (HasMap size reads broken → ⊥) → IsDecidedAlone reads broken m decision → IsDecided size reads decision
  decided_alone broken m (Take taken) below of_slot latest none alone =
      let back : 1 - m.slot ≡ broken = omega arith in
      rw alone.0 (record {
        slot = omega arith;
        latest = latest;
        no_older = older_than_none m broken none back;
        other = inr (rw back alone.1);
      })
  decided_alone broken m (Corrupt slot) below of_slot latest none alone =
      rw alone.0 (record { of_two = below; broken = none; other = inr (m, of_slot, latest, alone.1) })

  -- without a map in either slot it is corrupt
  pub none_decided : (HasMap size reads 0 → ⊥) → (HasMap size reads 1 → ⊥) → IsDecided size reads (Corrupt 0)
  none_decided none_in_0 none_in_1 = record { of_two = lit< tt; broken = none_in_0; other = inl (refl, none_in_1) }

  -- no other map is taken than one that is
  same_taken : (m n : DefectMap) → IsTaken size reads m → IsTaken size reads n → m ≡ n
  same_taken m n of_m of_n =
      elim (eqb_tells m.slot n.slot) [
        | inl w ↦ same_latest m n of_m.latest of_n.latest w.1
        | inr w ↦
            let across : n.slot ≡ 1 - m.slot = omega (arith, w.1, of_m.slot, of_n.slot) in
            let back : m.slot ≡ 1 - n.slot = omega (arith, w.1, of_m.slot, of_n.slot) in
            elim (of_m.no_older n of_n.latest.complete across) [
              | inl v ↦ elim (of_n.no_older m of_m.latest.complete back) [ inl u ↦ absurd (omega (arith, v, u)) | inr u ↦ absurd (omega (arith, v, u.0)) ]
              | inr v ↦ elim (of_n.no_older m of_m.latest.complete back) [ inl u ↦ absurd (omega (arith, v.0, u)) | inr u ↦ absurd (omega (arith, v.1, u.1, w.1)) ]
            ]
      ]

  -- no map is taken where a slot makes the map corrupt
  pub not_both : (m : DefectMap) (slot : ℕ) → IsTaken size reads m → IsCorrupt size reads slot → ⊥
  not_both m slot taken corrupt =
      elim (eqb_tells m.slot slot) [
        | inl w ↦ corrupt.broken (m, w.1, taken.latest.complete)
        | inr w ↦
            let other : 1 - m.slot ≡ slot = omega (arith, w.1, taken.slot, corrupt.of_two) in
            let back : m.slot ≡ 1 - slot = omega (arith, w.1, taken.slot, corrupt.of_two) in
            elim taken.other [
              | inl v ↦ corrupt.broken (v.0, v.1 ∙ other, v.2)
              | inr v ↦ elim corrupt.other [
                | inl u ↦ u.1 (m, omega (arith, back, u.0), taken.latest.complete)
                | inr u ↦
                    let same = same_latest u.0 m u.2 taken.latest (u.1 ∙ sym back) in
                    let number = ap (λ (k : DefectMap). k.number) same in
                    u.3 (rw number (rw other at v))
              ]
            ]
      ]

  -- one slot makes it corrupt
  same_slot : (s t : ℕ) → IsCorrupt size reads s → IsCorrupt size reads t → s ≡ t
  same_slot s t of_s of_t =
      elim (eqb_tells s t) [
        | inl w ↦ w.1
        | inr w ↦
            let across : t ≡ 1 - s = omega (arith, w.1, of_s.of_two, of_t.of_two) in
            let back : s ≡ 1 - t = omega (arith, w.1, of_s.of_two, of_t.of_two) in
            elim of_s.other [
              | inl v ↦ elim of_t.other [
                | inl u ↦ omega (arith, v.0, u.0)
                | inr u ↦ absurd (of_s.broken (u.0, u.1 ∙ sym back, u.2.complete))
              ]
              | inr v ↦ absurd (of_t.broken (v.0, v.1 ∙ sym across, v.2.complete))
            ]
      ]

  -- one decision is right
  pub same_decision : (d e : Decision) → IsDecided size reads d → IsDecided size reads e → d ≡ e
  same_decision (Take m) (Take n) of_d of_e = ap (λ (k : DefectMap). Take k) (same_taken m n of_d of_e)
  same_decision (Take m) (Corrupt t) of_d of_e = absurd (not_both m t of_d of_e)
  same_decision (Corrupt s) (Take n) of_d of_e = absurd (not_both n s of_e of_d)
  same_decision (Corrupt s) (Corrupt t) of_d of_e = ap (λ (k : ℕ). Corrupt k) (same_slot s t of_d of_e)

  -- a right decision is the one that a map or a slot asks for
  pub takes_where : (d : Decision) → IsDecided size reads d → (m : DefectMap) → (d ≡ Take m) ↔ IsTaken size reads m
  takes_where d is m = (λ e. (rw e at is), λ taken. same_decision d (Take m) is taken)

  pub corrupt_where : (d : Decision) → IsDecided size reads d → (slot : ℕ) → (d ≡ Corrupt slot) ↔ IsCorrupt size reads slot
  corrupt_where d is slot = (λ e. (rw e at is), λ corrupt. same_decision d (Corrupt slot) is corrupt)
