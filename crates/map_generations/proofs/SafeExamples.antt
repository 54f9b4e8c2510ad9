-- The maps of a new drive, and its first commit: what is safe there, and what is not.
use Rattle.std.proofs.Common.{◌≡◌, ℕ, zero, suc, ◌-◌, ◌/◌, ◌%◌, ◌<◌, ◌≤◌, List, [], Some, None, refl, subst, arith, lit<, lit≤, inl, inr}
use Rattle.std.specs.Prelude.{◌==◌}
use Rattle.std.proofs.lemmas.Bool.{cases_Bool, cases_eq}
use Rattle.disk_base.specs.declared.address.Psn.{Psn}
use Rattle.geometry_map.specs.declared.size.Size.{Size}
use Rattle.geometry_map.specs.declared.pair.Pair.{Pair}
use Rattle.geometry_map.specs.DefectMap.{DefectMap, IsValidMap, map_of, factory_map}
use Rattle.map_generations.specs.MapRecord.{map_record}
use Rattle.map_generations.specs.Recovery.{Reads}
use Rattle.map_generations.specs.SafeMaps.{MayBeTaken, KeptPair, with_map, alone, AreValid, IsKept, HasRecord, Belongs, SafeMaps, IsPresent, written, written_to, NumbersUpTo}
use Rattle.map_generations.proofs.SafeReads.{kept-taken, may-present}
use Rattle.map_generations.proofs.SafeWrites.{kept_since, present-safe, present-safe_alone, numbers-written}
use Rattle.map_generations.proofs.SafeChains.{commits-safe, written-present}

-- the records of a map bring no greater number than its own
numbers_of_writes : (meant : Reads) (m : DefectMap) (number : ℕ) → m.number ≤ number → NumbersUpTo meant number → (count : ℕ) → NumbersUpTo (written_to m count meant) number
numbers_of_writes meant m number within up_to zero = up_to
numbers_of_writes meant m number within up_to (suc count) =
    numbers-written (written_to m count meant) (written_to m (suc count) meant) m (count / 4) (count % 4) number
    (numbers_of_writes meant m number within up_to count) within (inr (inl refl))

module _ (size : Size) (primary : List Psn) (valid_map : IsValidMap (factory_map size primary)) where
  -- the factory writes the same map twice, with number 1 to slot 0 and with number 2 to slot 1
  abbrev first : DefectMap
  first = map_of size primary [] 1 0 0

  abbrev second : DefectMap
  second = factory_map size primary

  -- nothing is meant before, and the sixteen records after
  abbrev fresh : Reads
  fresh = written_to second 8 (written_to first 8 (λ p. None))

  first_of_slot_0 : fresh 0 ≡ Some (map_record first 0 0)
  first_of_slot_0 = refl

  last_of_slot_0 : fresh 7 ≡ Some (map_record first 1 3)
  last_of_slot_0 = refl

  second_copy_in_slot_1 : fresh 13 ≡ Some (map_record second 1 1)
  second_copy_in_slot_1 = refl

  no_more : fresh 16 ≡ None
  no_more = refl

  -- no number is above 2, and one is above 1
  no_number_above_2 : NumbersUpTo fresh 2
  no_number_above_2 =
      numbers_of_writes (written_to first 8 (λ p. None)) second 2 (lit≤ tt)
      (numbers_of_writes (λ p. None) first 2 (lit≤ tt) (λ s c i p has. let none : None ≡ Some p = has.there in absurd (cc)) 8) 8

  a_number_above_1 : NumbersUpTo fresh 1 → ⊥
  a_number_above_1 up_to =
      let above : 2 ≤ 1 = up_to 1 0 0 (map_record second 0 0) (record { a_slot = lit< tt; a_copy = lit< tt; an_index = lit< tt; there = refl; kind = refl; own_index = refl }) in
      omega (arith, above)

  -- so map 2 is present
  new_map_is_present : IsPresent fresh second
  new_map_is_present = written-present (λ p. None) second first (lit< tt) refl (lit< tt)

  -- it is safe alone, and the map may be kept for the odd numbers too
  safe_alone : SafeMaps fresh (alone second)
  safe_alone = present-safe_alone fresh second new_map_is_present valid_map

  abbrev both : KeptPair
  both = record { even = Some second; odd = Some first }

  both_are_valid : AreValid both
  both_are_valid k m e =
      elim (cases_Bool (k % 2 == 0)) [
        | inl w ↦ let given : Some second ≡ Some m = rw w at e in let same : second ≡ m = cc (given) in subst IsValidMap same valid_map
        | inr w ↦
            let given : Some first ≡ Some m = rw w at e in
            let same : first ≡ m = cc (given) in
            let valid : IsValidMap first = record { primary = valid_map.primary; grown = valid_map.grown } in
            subst IsValidMap same valid
      ]

  safe_for_both : SafeMaps fresh both
  safe_for_both = present-safe fresh both second new_map_is_present (kept_since both second refl) both_are_valid

  -- and recovery may take it
  new_map_may_be_taken : MayBeTaken size fresh second
  new_map_may_be_taken = may-present fresh second new_map_is_present valid_map refl (lit< tt)

  -- the first commit: a map with other pairs is written to slot 0 with number 3
  module _ (grown : List Pair) (valid_third : IsValidMap (map_of size primary grown 3 0 0)) where
    abbrev third : DefectMap
    third = map_of size primary grown 3 0 0

    -- its first record is stale where map 2 is kept alone, and both slots are worn by it: slot 1 carries a smaller number,
    -- and slot 0 that one itself
    abbrev begun : Reads
    begun = written third 0 0 fresh

    its_record : HasRecord begun 0 0 0 (map_record third 0 0)
    its_record = record { a_slot = lit< tt; a_copy = lit< tt; an_index = lit< tt; there = refl; kind = refl; own_index = refl }

    it_is_stale : Belongs (alone second) 0 (map_record third 0 0) → ⊥
    it_is_stale b = let none : None ≡ Some b.map = b.for_number in cc (none)

    record_of_2 : HasRecord begun 1 0 0 (map_record second 0 0)
    record_of_2 = record { a_slot = lit< tt; a_copy = lit< tt; an_index = lit< tt; there = refl; kind = refl; own_index = refl }

    begun_is_not_safe : SafeMaps begun (alone second) → ⊥
    begun_is_not_safe safe =
        elim (cases_eq safe.worn 0) [
          | inl w ↦
              let other : HasRecord begun (1 - safe.worn) 0 0 (map_record second 0 0) = rw w record_of_2 in
              let below : 3 < 2 = safe.below 0 0 (map_record second 0 0) other 0 0 0 (map_record third 0 0) its_record it_is_stale in
              omega (arith, below)
          | inr w ↦
              let own : 1 - safe.worn ≡ 0 = omega (arith, safe.a_slot, w) in
              let other : HasRecord begun (1 - safe.worn) 0 0 (map_record third 0 0) = rw own its_record in
              let below : 3 < 3 = safe.below 0 0 (map_record third 0 0) other 0 0 0 (map_record third 0 0) its_record it_is_stale in
              omega (arith, below)
        ]

    -- where map 3 is kept beside map 2, it belongs
    begun_is_safe_for_both : SafeMaps begun (with_map (alone second) third)
    begun_is_safe_for_both = ((commits-safe fresh second third new_map_is_present valid_map valid_third refl refl).0 1 (lit≤ tt)).safe

    -- at the end map 3 is present and may be taken, so map 2 may not be kept alone any more
    abbrev ended : Reads
    ended = written_to third 8 fresh

    third_is_present : IsPresent ended third
    third_is_present = (commits-safe fresh second third new_map_is_present valid_map valid_third refl refl).1

    third_may_be_taken : MayBeTaken size ended third
    third_may_be_taken = may-present ended third third_is_present valid_third refl (lit< tt)

    ended_is_not_safe : SafeMaps ended (alone second) → ⊥
    ended_is_not_safe safe =
        let kept : IsKept (alone second) third = kept-taken size ended (alone second) third safe third_may_be_taken in
        let none : None ≡ Some kept.map = kept.for_number in
        cc (none)
