-- What stands on a platter from the factory: zeros, with the power on and no write fault.
use Rattle.std.proofs.Common.{◌≡◌, ℕ, zero, suc, ◌+◌, ◌<◌, ◌≤◌, Bool, true, false, eqb, List, [], ◌∷◌, ◌++◌, Option, Some, None, refl, sym, ap, ◌∙◌, subst, arith, map, ⊎_elim}
use Rattle.std.specs.Prelude.{◌||◌, IsTrue, fold, replicate, if◌then◌else◌}
use Rattle.std.specs.List.{range_with_len, list_any}
use Rattle.std.proofs.lemmas.Bool.{cond-true, eq-eqb, eqb-true, eqb-false, cases_lt}
use Rattle.std.proofs.lemmas.List.{map-append}
use Rattle.std.proofs.lemmas.List.Sums.{fold-append}
use Rattle.disk_base.specs.declared.address.Lba.{Lba}
use Rattle.disk_base.specs.declared.address.Psn.{Psn}
use Rattle.disk_base.specs.declared.block.Value.{Value}
use Rattle.disk_base.specs.declared.block.Value.TheVariants.{Data, Lost}
use Rattle.disk_base.specs.declared.payload.Payload.{Payload}
use Rattle.platter_model.specs.declared.op.Op.{Op}
use Rattle.platter_model.specs.declared.op.Op.TheVariants.{Wrote}
use Rattle.platter_model.specs.Sector.{is_sector, meant_after, is_faulty}
use Rattle.platter_model.specs.TrueLog.{supply_after, powered, is_unpowered}
use Rattle.geometry_map.specs.Size.{capacity_of}
use Rattle.geometry_map.specs.Laws.{BlocksHaveOwnSectors}
use Rattle.geometry_map.specs.DefectMap.{DefectMap, place_of, factory_map, IsValidMap}
use Rattle.sector_store.specs.Maps.{records_of}
use Rattle.sector_store.specs.Factory.{block_at, zero_block, zero_blocks, first_map, factory_payloads}
use Rattle.sector_store.specs.Stored.{value_in, stored}
use Rattle.block_machine.specs.Blocks.{zeros, blocks_at_start, same_value}
use Rattle.drive_scene.specs.declared.made.Made.{Made}
use Rattle.drive_scene.specs.Scene.{factory_ops}
use Rattle.drive_scene.specs.GoodTurn.{IsStood}
use Rattle.drive_scene.specs.Present.{IsPresentMap}
use Rattle.drive_scene.specs.Laws.{FactoriesLeaveZeros}
use Rattle.drive_scene.proofs.Gets.{same_value-own}

-- zeros are written to blocks, one after another
abbrev zeroing : DefectMap → List ℕ → List Op
zeroing m bs = map Wrote (map (zero_block m) bs)

-- what is meant at a block's place once its own zeros are, or those of another block came
own_or_same : (m : DefectMap) → BlocksHaveOwnSectors → IsValidMap m → (b q : Lba) → b.0 < capacity_of m.size → q.0 < capacity_of m.size
    → meant_after (place_of m b) (Some (zero_block m b.0)) (Wrote (zero_block m q.0)) ≡ Some (zero_block m b.0)
own_or_same m own valid b q below within = by (is_sector (place_of m b) (place_of m q)) refl
  where
    by : (t : Bool) → is_sector (place_of m b) (place_of m q) ≡ t → (if t then Some (zero_block m q.0) else Some (zero_block m b.0)) ≡ Some (zero_block m b.0)
    by true is =
        let at : (place_of m q).0 ≡ (place_of m b).0 = eqb-true (place_of m q).0 (place_of m b).0 is in
        let place : place_of m q ≡ place_of m b = λ i. record { 0 = at i } in
        ap (λ (x : Lba). Some (zero_block m x.0)) (own m valid q b within below place)
    by false is = refl

stays : (m : DefectMap) → BlocksHaveOwnSectors → IsValidMap m → (b : Lba) → b.0 < capacity_of m.size → (from count : ℕ) → from + count ≤ capacity_of m.size
    → fold (meant_after (place_of m b)) (Some (zero_block m b.0)) (zeroing m (range_with_len from count)) ≡ Some (zero_block m b.0)
stays m own valid b below from zero within = refl
stays m own valid b below from (suc count) within =
    ap (λ (x : Option Payload). fold (meant_after (place_of m b)) x (zeroing m (range_with_len (from + 1) count)))
    (own_or_same m own valid b (block_at from) below (omega arith))
    ∙ stays m own valid b below (from + 1) count (omega arith)

comes : (m : DefectMap) → BlocksHaveOwnSectors → IsValidMap m → (b : Lba) → b.0 < capacity_of m.size → (from count : ℕ) → from + count ≤ capacity_of m.size
    → from ≤ b.0 → b.0 < from + count → (x : Option Payload)
    → fold (meant_after (place_of m b)) x (zeroing m (range_with_len from count)) ≡ Some (zero_block m b.0)
comes m own valid b below from zero within low high x = absurd (omega arith)
comes m own valid b below from (suc count) within low high x =
    by (λ further. comes m own valid b below (from + 1) count (omega arith) further (omega arith) (meant_after (place_of m b) x (Wrote (zero_block m from))))
    (eqb from b.0) refl
  where
    Is : Type 0
    Is = fold (meant_after (place_of m b)) x (zeroing m (range_with_len from (suc count))) ≡ Some (zero_block m b.0)

    here : from ≡ b.0 → Is
    here is =
        let sector : is_sector (place_of m b) (place_of m (block_at from)) ≡ true =
        eq-eqb (place_of m (block_at from)).0 (place_of m b).0 (ap (λ (n : ℕ). (place_of m (block_at n)).0) is) in
        let first : meant_after (place_of m b) x (Wrote (zero_block m from)) ≡ Some (zero_block m b.0) =
        cond-true (is_sector (place_of m b) (place_of m (block_at from))) (Some (zero_block m from)) x sector
        ∙ ap (λ (n : ℕ). Some (zero_block m n)) is in
        ap (λ (y : Option Payload). fold (meant_after (place_of m b)) y (zeroing m (range_with_len (from + 1) count))) first
        ∙ stays m own valid b below (from + 1) count (omega arith)

    by : (from + 1 ≤ b.0 → Is) → (t : Bool) → eqb from b.0 ≡ t → Is
    by further true is = here (eqb-true from b.0 is)
    by further false is =
        further (⊎_elim (λ (less : from < b.0). omega (arith, less)) (λ (most : b.0 ≤ from). absurd (eqb-false from b.0 is (omega (arith, most)))) (cases_lt from b.0))

-- so each block of the factory is stored as zeros
stored_after : (m : DefectMap) → BlocksHaveOwnSectors → IsValidMap m → (b : Lba) → b.0 < capacity_of m.size → (xs ys : List Payload)
    → stored m (map Wrote (xs ++ ys ++ zero_blocks m)) b ≡ zeros
stored_after m own valid b below xs ys =
    let last : fold (meant_after (place_of m b)) None (map Wrote (xs ++ ys) ++ map Wrote (zero_blocks m)) ≡ Some (zero_block m b.0) =
    fold-append (meant_after (place_of m b)) None (map Wrote (xs ++ ys)) (map Wrote (zero_blocks m))
    ∙ comes m own valid b below 0 (capacity_of m.size) (omega arith) (omega arith) (omega arith)
    (fold (meant_after (place_of m b)) None (map Wrote (xs ++ ys))) in
    ap (value_in b) (ap (fold (meant_after (place_of m b)) None) (map-append Wrote (xs ++ ys) (zero_blocks m)) ∙ last)
    ∙ ap (λ (t : Bool). if t then Data (replicate 512 0) else Lost) (eq-eqb b.0 b.0 refl)

stored_zeros : (made : Made) → BlocksHaveOwnSectors → IsValidMap (factory_map made.size made.primary) → (b : Lba) → b.0 < capacity_of made.size
    → stored (factory_map made.size made.primary) (factory_ops made) b ≡ zeros
stored_zeros made own valid b below =
    stored_after (factory_map made.size made.primary) own valid b below (records_of (first_map made.size made.primary))
    (records_of (factory_map made.size made.primary))

-- the power is on
on_after : (ps : List Payload) → fold supply_after powered (map Wrote ps) ≡ powered
on_after [] = refl
on_after (p ∷ ps) = on_after ps

-- no sector has a write fault
sound_after : (p : Psn) (ps : List Payload) → is_faulty p (map Wrote ps) ≡ false
sound_after p [] = refl
sound_after p (q ∷ qs) = sound_after p qs

zeros_allowed : IsTrue (list_any (same_value zeros) (zeros ∷ []))
zeros_allowed = ap (λ (t : Bool). t || false) (same_value-own zeros)

stood : (made : Made) → BlocksHaveOwnSectors → IsPresentMap (factory_map made.size made.primary) (factory_ops made)
    → IsStood (factory_map made.size made.primary) (factory_ops made) blocks_at_start
stood made own present true_so_far taken may b below =
    subst (λ (v : Value). IsTrue (list_any (same_value v) (zeros ∷ [])))
    (sym (present.finds taken may b ∙ stored_zeros made own present.there.valid b below)) zeros_allowed

pub from_factory : BlocksHaveOwnSectors → FactoriesLeaveZeros
from_factory own made present = record {
  powered = ap is_unpowered (on_after (factory_payloads made.size made.primary));
  sound = λ p. sound_after p (factory_payloads made.size made.primary);
  stands = stood made own present;
}
