-- What recovery takes of the sectors of a drive of 16 cylinders with 4 heads and 16 sectors on a track, and what it doesn't.
use Rattle.std.proofs.Common.{◌≡◌, ℕ, ◌-◌, ◌^◌, ◌<◌, [], ◌∷◌, replicate, refl, lit≤, lit<, arith, Some, None, inl, inr}
use Rattle.std.proofs.lemmas.Option.{cond_some}
use Rattle.std.proofs.lemmas.List.Elements.{All-nil}
use Rattle.std.specs.Prelude.{◌==◌, nat_lt, if◌then◌else◌, Option}
use Rattle.disk_base.specs.declared.payload.Payload.{Payload}
use Rattle.disk_base.specs.Payload.{user_payload, record_payload}
use Rattle.geometry_map.specs.declared.size.Size.{Size}
use Rattle.geometry_map.specs.DefectMap.{DefectMap, sector, map_of, IsPair, IsValidMap}
use Rattle.map_generations.specs.MapRecord.{map_record, record_sector}
use Rattle.map_generations.specs.Recovery.{Reads, as_counted, is_record, as_record, record_in, LastIsOlder, HasMap, IsComplete, IsTaken, IsCorrupt}
use Rattle.map_generations.specs.Laws.{IsReadable}
use Rattle.map_generations.specs.Told.{map_told}
use Rattle.map_generations.proofs.Rule.{four, first_or_some, carries_number, written_complete, not_both}

abbrev drive : Size
drive = record {
  cylinders = 16;
  heads = 4;
  sectors = 16;
  reserved = 96;
  within_limits = record {
    a_cylinder = lit≤ tt;
    few_cylinders = lit≤ tt;
    a_head = lit≤ tt;
    few_heads = lit≤ tt;
    a_sector = lit≤ tt;
    short_tracks = lit≤ tt;
    least = lit≤ tt;
    greatest = lit≤ tt;
    a_block = lit< tt;
  };
}

-- a map without defects
abbrev empty_map : ℕ → ℕ → DefectMap
empty_map number slot = map_of drive [] [] number slot 0

-- what a slot that holds a map whole reads as, by the place in it
abbrev whole : DefectMap → ℕ → Option Payload
whole m p = if nat_lt p 4 then Some (map_record m 0 p) else (if nat_lt p 8 then Some (map_record m 1 (p - 4)) else None)

-- what the factory leaves: map 1 in slot 0, and map 2 in slot 1
abbrev fresh : Reads
fresh p = if nat_lt p 8 then whole (empty_map 1 0) p else whole (empty_map 2 1) (p - 8)

-- the same, where one sector reads as something else
abbrev with_read : Reads → ℕ → Option Payload → Reads
with_read reads p read q = if q == p then read else reads q

-- the record is that of copy 0
of_copy_0 : record_in fresh 1 2 3 ≡ Some (map_record (empty_map 2 1) 0 3)
of_copy_0 = refl

-- where copy 0 doesn't read, it is that of copy 1, and where neither does, there is none
of_copy_1 : record_in (with_read fresh 11 None) 1 2 3 ≡ Some (map_record (empty_map 2 1) 1 3)
of_copy_1 = refl

of_no_copy : record_in (with_read (with_read fresh 11 None) 15 None) 1 2 3 ≡ None
of_no_copy = refl

-- copy 0 is used though its record forms no map
abbrev of_version_9 : Payload
of_version_9 = record_payload (sector 11) 3 0 9 2 (replicate 512 0)

of_bad_copy_0 : record_in (with_read fresh 11 (Some of_version_9)) 1 2 3 ≡ Some of_version_9
of_bad_copy_0 = refl

-- a record of another number doesn't count, nor one of another index, nor a user block
of_another_number : record_in fresh 1 1 3 ≡ None
of_another_number = refl

of_another_index : as_record 2 2 (fresh 11) ≡ None
of_another_index = refl

of_a_block : as_record 0 2 (Some (user_payload (sector 8) (record { 0 = 2 }) (replicate 512 0))) ≡ None
of_a_block = refl

-- the greatest number that counts, and the next one
abbrev numbered : ℕ → Payload
numbered number = map_record (empty_map number 0) 0 0

last_that_counts : as_counted (Some (numbered (2 ^ 63 - 1))) ≡ Some (numbered (2 ^ 63 - 1))
last_that_counts = refl

first_that_does_not : as_counted (Some (numbered (2 ^ 63))) ≡ None
first_that_does_not = refl

-- slot 0 ends with map 1, which is older than map 2
older_in_slot_0 : LastIsOlder fresh 0 2
older_in_slot_0 = (1, lit< tt, map_record (empty_map 1 0) 1 3, refl)

-- nothing is older where the last sector doesn't read, whatever the others do
unread_is_not_older : (number : ℕ) → LastIsOlder (with_read fresh 15 None) 1 number → ⊥
unread_is_not_older number (older, smaller, p, e) = cc

-- a disk without a record is corrupt from slot 0 on, and nothing is taken from it
abbrev blank : Reads
blank p = None

no_map : (slot : ℕ) → HasMap drive blank slot → ⊥
no_map slot (m, of_slot, complete) =
    let none : record_in blank m.slot m.number 0 ≡ Some (complete.records 0 (lit< tt)).0 = (complete.records 0 (lit< tt)).1 in
    cc

blank_is_corrupt : IsCorrupt drive blank 0
blank_is_corrupt = record { of_two = lit< tt; broken = no_map 0; other = inl (refl, no_map 1) }

nothing_is_taken : (m : DefectMap) → IsTaken drive blank m → ⊥
nothing_is_taken m taken = no_map m.slot (m, refl, taken.latest.complete)

-- the maps of a new drive are valid
valid : (number slot : ℕ) → IsValidMap (empty_map number slot)
valid number slot = record {
  primary = record { ascending = tt; few = lit≤ tt; kept_back = lit≤ tt };
  grown = record { pairs = All-nil (IsPair drive []); own_spares = λ i j d before within. absurd (omega arith); few = lit≤ tt };
}

-- a slot whose sectors read as the factory wrote them has that map
as_written : (reads : Reads) (number slot : ℕ) → ((index : ℕ) → index < 4 → IsReadable (empty_map number slot) reads index)
    → IsComplete drive reads (empty_map number slot)
as_written reads number slot readable = written_complete drive reads (empty_map number slot) refl (valid number slot) refl readable

-- and no map of another number
only_number : (reads : Reads) (slot number : ℕ) (n : DefectMap) → IsComplete drive reads n → n.slot ≡ slot
    → reads (record_sector slot 0 0).0 ≡ Some (map_record (empty_map number slot) 0 0)
    → reads (record_sector slot 1 0).0 ≡ Some (map_record (empty_map number slot) 1 0) → number ≡ n.number
only_number reads slot number n complete of_slot first second =
    let found = complete.records 0 (lit< tt) in
    let e : record_in reads slot n.number 0 ≡ Some found.0 = rw of_slot at found.1 in
    elim (first_or_some (as_record 0 n.number (reads (record_sector slot 0 0).0)) (as_record 0 n.number (reads (record_sector slot 1 0).0)) found.0 e) [
      | inl w ↦ carries_number 0 n.number (map_record (empty_map number slot) 0 0)
          (cond_some (is_record 0 n.number (map_record (empty_map number slot) 0 0)) (map_record (empty_map number slot) 0 0) found.0 (rw first at w)).0
      | inr w ↦ carries_number 0 n.number (map_record (empty_map number slot) 1 0)
          (cond_some (is_record 0 n.number (map_record (empty_map number slot) 1 0)) (map_record (empty_map number slot) 1 0) found.0 (rw second at w)).0
    ]

-- a new drive has both, and takes map 2
fresh_2 : IsComplete drive fresh (empty_map 2 1)
fresh_2 = as_written fresh 2 1 (four (IsReadable (empty_map 2 1) fresh) (inl refl) (inl refl) (inl refl) (inl refl))

fresh_1 : IsComplete drive fresh (empty_map 1 0)
fresh_1 = as_written fresh 1 0 (four (IsReadable (empty_map 1 0) fresh) (inl refl) (inl refl) (inl refl) (inl refl))

map_2_is_taken : IsTaken drive fresh (empty_map 2 1)
map_2_is_taken = record {
  slot = lit< tt;
  latest = record {
    complete = fresh_2;
    greatest = λ n complete of_slot. omega (arith, only_number fresh 1 2 n complete of_slot refl refl);
  };
  no_older = λ n complete of_slot. inl (omega (arith, only_number fresh 0 1 n complete of_slot refl refl));
  other = inl (empty_map 1 0, refl, fresh_1);
}

map_1_is_not_taken : IsTaken drive fresh (empty_map 1 0) → ⊥
map_1_is_not_taken taken = elim (taken.no_older (empty_map 2 1) fresh_2 refl) [ inl w ↦ absurd (omega (arith, w)) | inr w ↦ absurd (omega (arith, w.0)) ]

fresh_is_not_corrupt : (slot : ℕ) → IsCorrupt drive fresh slot → ⊥
fresh_is_not_corrupt slot corrupt =
    not_both drive fresh (empty_map 2 1) slot map_2_is_taken corrupt

-- without sectors 9 and 13 slot 1 has no map, and its last sector doesn't tell that map 1 is the later one
abbrev without_9_and_13 : Reads
without_9_and_13 = with_read (with_read fresh 9 None) 13 None

slot_1_makes_it_corrupt : IsCorrupt drive without_9_and_13 1
slot_1_makes_it_corrupt = record {
  of_two = lit< tt;
  broken = λ (n, of_slot, complete).
      (let found = complete.records 1 (lit< tt) in
      let e : record_in without_9_and_13 1 n.number 1 ≡ Some found.0 = rw of_slot at found.1 in
      absurd (cc e));
  other = inr (
    empty_map 1 0,
    refl,
    record {
      complete = as_written without_9_and_13 1 0 (four (IsReadable (empty_map 1 0) without_9_and_13) (inl refl) (inl refl) (inl refl) (inl refl));
      greatest = λ n complete of_slot. omega (arith, only_number without_9_and_13 0 1 n complete of_slot refl refl);
    },
    λ (older, smaller, p, e).
        (let newer = map_record (empty_map 2 1) 1 3 in
        let same = carries_number 3 older newer (cond_some (is_record 3 older newer) newer p e).0 in
        absurd (omega (arith, same, smaller))),
  );
}

no_map_is_taken_then : (m : DefectMap) → IsTaken drive without_9_and_13 m → ⊥
no_map_is_taken_then m taken = not_both drive without_9_and_13 m 1 taken slot_1_makes_it_corrupt

-- without sectors 1 and 5 slot 0 has no map, and its last sector tells that map 2 is the later one
abbrev without_1_and_5 : Reads
without_1_and_5 = with_read (with_read fresh 1 None) 5 None

map_2_is_taken_then : IsTaken drive without_1_and_5 (empty_map 2 1)
map_2_is_taken_then = record {
  slot = lit< tt;
  latest = record {
    complete = as_written without_1_and_5 2 1 (four (IsReadable (empty_map 2 1) without_1_and_5) (inl refl) (inl refl) (inl refl) (inl refl));
    greatest = λ n complete of_slot. omega (arith, only_number without_1_and_5 1 2 n complete of_slot refl refl);
  };
  no_older = λ n complete of_slot. inl (omega (arith, only_number without_1_and_5 0 1 n complete of_slot refl refl));
  other = inr (1, lit< tt, map_record (empty_map 1 0) 1 3, refl);
}

-- without sectors 3 and 7 nothing tells that
abbrev without_3_and_7 : Reads
without_3_and_7 = with_read (with_read fresh 3 None) 7 None

slot_0_makes_it_corrupt : IsCorrupt drive without_3_and_7 0
slot_0_makes_it_corrupt = record {
  of_two = lit< tt;
  broken = λ (n, of_slot, complete).
      (let found = complete.records 3 (lit< tt) in
      let e : record_in without_3_and_7 0 n.number 3 ≡ Some found.0 = rw of_slot at found.1 in
      absurd (cc e));
  other = inr (
    empty_map 2 1,
    refl,
    record {
      complete = as_written without_3_and_7 2 1 (four (IsReadable (empty_map 2 1) without_3_and_7) (inl refl) (inl refl) (inl refl) (inl refl));
      greatest = λ n complete of_slot. omega (arith, only_number without_3_and_7 1 2 n complete of_slot refl refl);
    },
    λ (older, smaller, p, e). absurd (cc e),
  );
}

-- copy 0 of a slot tells the map that stands there
told_in_slot_0 : map_told drive fresh 0 ≡ empty_map 1 0
told_in_slot_0 = refl

told_in_slot_1 : map_told drive fresh 1 ≡ empty_map 2 1
told_in_slot_1 = refl

-- with both lists and the state
abbrev with_defects : DefectMap
with_defects = map_of drive (sector 20 ∷ []) (record { old = sector 16; new = sector 929 } ∷ record { old = sector 929; new = sector 930 } ∷ []) 3 1 0

told_with_defects : map_told drive (λ p. whole with_defects (p - 8)) 1 ≡ with_defects
told_with_defects = refl

-- where nothing reads, a map of number 0 is told; copy 1 isn't looked at
told_of_nothing : map_told drive (λ p. None) 1 ≡ empty_map 0 1
told_of_nothing = refl

told_by_copy_0_alone : map_told drive (with_read fresh 8 None) 1 ≡ empty_map 0 1
told_by_copy_0_alone = refl
