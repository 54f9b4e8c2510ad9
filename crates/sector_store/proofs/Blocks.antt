-- The map that is there, and the values of blocks by each map that recovery may take.
use Rattle.std.proofs.Common.{◌≡◌, ℕ, ◌*◌, ◌-◌, ◌<◌, ◌≤◌, Bool, not, List, Option, Some, None, refl, sym, ◌∙◌, ap, subst, arith, ◌⊎◌, inl, inr}
use Rattle.std.specs.Prelude.{if◌then◌else◌, slice_index, filter}
use Rattle.std.specs.List.{range_with_len}
use Rattle.std.proofs.lemmas.Bool.{eq-eqb}
use Rattle.disk_base.specs.declared.address.Lba.{Lba}
use Rattle.disk_base.specs.declared.address.Psn.{Psn}
use Rattle.disk_base.specs.declared.block.Value.{Value}
use Rattle.disk_base.specs.declared.block.Value.TheVariants.{Data, Lost}
use Rattle.disk_base.specs.declared.payload.Payload.{Payload}
use Rattle.disk_base.specs.Payload.{value_for}
use Rattle.platter_model.specs.declared.op.Op.{Op}
use Rattle.platter_model.specs.declared.answer.WriteAnswer.{WriteAnswer}
use Rattle.platter_model.specs.declared.answer.WriteAnswer.TheVariants.{Written, Fault, Off}
use Rattle.platter_model.specs.Sector.{meant}
use Rattle.platter_model.specs.State.{after_write, write_answer}
use Rattle.geometry_map.specs.declared.pair.Pair.{Pair}
use Rattle.geometry_map.specs.Size.{total_of}
use Rattle.geometry_map.specs.DefectMap.{DefectMap, sector, is_listed, through, place_of, IsValidMap}
use Rattle.geometry_map.specs.Laws.{BlocksHaveOwnSectors, BlocksLieOnUserSectors}
use Rattle.map_generations.specs.Laws.{AreAlike}
use Rattle.map_generations.specs.SafeMaps.{IsPresent}
use Rattle.map_generations.specs.SafetyLaws.{RecoveryTakesThePresentMap, PresentMapsAreTaken, PresentMapsAreSafeAlone, SafetyIsByPlace}
use Rattle.sector_store.specs.Maps.{meant_on}
use Rattle.sector_store.specs.Stored.{value_in, stored, IsThere, IsLeft}
use Rattle.sector_store.specs.State.{kept_with, placed}
use Rattle.sector_store.specs.Laws.{RecoveryFindsWhatIsStored, QuietOpsKeepBlocks, QuietOpsKeepMaps, WritesStoreOneBlock}
use Rattle.sector_store.proofs.Meant.{is_sector-own, is_sector-apart, IsMeantBy, write-apart, write-own}

-- the laws of maps that these rest on
pub record MapLaws : Type 0 where
  pub taken : PresentMapsAreTaken
  pub safe : PresentMapsAreSafeAlone
  pub found : RecoveryTakesThePresentMap
  pub by_place : SafetyIsByPlace

-- a present map is there
pub present-there : PresentMapsAreTaken → PresentMapsAreSafeAlone → (m : DefectMap) (ops : List Op)
    → IsValidMap m → m.state ≡ 0 → IsPresent (meant_on ops) m → IsThere m ops
present-there taken safe m ops valid in_use present = record {
  valid = valid;
  in_use = in_use;
  present = present;
  own = taken (meant_on ops) m present valid in_use;
  safe = safe (meant_on ops) m present valid;
}

-- it stays there while nothing changes on the maps' sectors
stays : MapLaws → (m : DefectMap) (ops more : List Op) → IsThere m ops → ((p : ℕ) → p < 16 → meant_on ops p ≡ meant_on more p) → IsThere m more
stays laws m ops more there same =
    present-there laws.taken laws.safe m more there.valid there.in_use ((laws.by_place (meant_on ops) (meant_on more) same).2 m there.present)

-- a block's place by the sectors of the drive and the lists
abbrev place_by : Lba → ℕ → List Psn → List Pair → Psn
place_by b total primary grown =
    through grown (sector (slice_index (filter (λ p. not (is_listed p primary)) (range_with_len 16 (total - 16))) b.0))

total-alike : (a b c x y z : ℕ) → a ≡ x → b ≡ y → c ≡ z → a * b * c ≡ x * y * z
total-alike a b c x y z ax by cz = ap (λ n. n * b * c) ax ∙ (ap (λ n. x * n * c) by ∙ ap (λ n. x * y * n) cz)

place-alike : (m n : DefectMap) (b : Lba) → AreAlike m n → place_of m b ≡ place_of n b
place-alike m n b alike =
    let total : total_of m.size ≡ total_of n.size =
    total-alike m.size.cylinders m.size.heads m.size.sectors n.size.cylinders n.size.heads n.size.sectors
    alike.measures.cylinders alike.measures.heads alike.measures.sectors in
    ap (λ (t : ℕ). place_by b t m.primary m.grown) total
    ∙ (ap (λ (l : List Psn). place_by b (total_of n.size) l m.grown) alike.primary
    ∙ ap (λ (l : List Pair). place_by b (total_of n.size) n.primary l) alike.grown)

-- a map that recovery may take stores what the map that is there stores
pub recovery_finds_what_is_stored : RecoveryTakesThePresentMap → RecoveryFindsWhatIsStored
recovery_finds_what_is_stored found m taken ops there may b =
    ap (λ (p : Psn). value_in b (meant p ops)) (place-alike taken m b (found m.size (meant_on ops) m taken there.present there.valid may).0.alike)

pub quiet_ops_keep_blocks : MapLaws → QuietOpsKeepBlocks
quiet_ops_keep_blocks laws m ops more there same =
    let still : IsThere m more = stays laws m ops more there (λ p less. sym (same (sector p))) in
    (still, λ taken may q. recovery_finds_what_is_stored laws.found m taken more still may q ∙ ap (value_in q) (same (place_of m q)))

pub quiet_ops_keep_maps : MapLaws → QuietOpsKeepMaps
quiet_ops_keep_maps laws m next ready before after kept quiet = record {
  sectors = quiet.sectors ∙ kept.sectors;
  sound = λ p low. quiet.faults p low ∙ kept.sound p low;
  valid = kept.valid;
  follows = kept.follows;
  there = λ is. stays laws m before.ops after.ops (kept.there is) (λ p low. sym (quiet.same p low));
  alone_ready = kept.alone_ready;
  safe = λ none. (laws.by_place (meant_on before.ops) (meant_on after.ops) (λ p low. sym (quiet.same p low))).0 (kept_with m next)
      (kept.safe (omega (arith, none, quiet.strays_grow)));
}

-- the value that a block's own payload has for it
own-value : (m : DefectMap) (b : Lba) (bytes : List ℕ) → value_for b (placed m b bytes) ≡ Data bytes
own-value m b bytes = ap (λ (t : Bool). if t then Data bytes else Lost) (eq-eqb b.0 b.0 refl)

-- what a write was answered by, at its answer
at_answer : (p : Psn) (payload : Payload) (ops more : List Op) (a b : WriteAnswer) → a ≡ b → IsMeantBy p payload ops more a → IsMeantBy p payload ops more b
at_answer p payload ops more a b same is = subst (IsMeantBy p payload ops more) same is

left-value : (m : DefectMap) (b : Lba) (bytes : List ℕ) (before after : Option Payload) (v : Value) → v ≡ value_in b after
    → (after ≡ before) ⊎ ((after ≡ Some (placed m b bytes)) ⊎ (after ≡ None)) → IsLeft (value_in b before) (Data bytes) v
left-value m b bytes before after v is (inl old) = inl (is ∙ ap (value_in b) old)
left-value m b bytes before after v is (inr (inl new)) = inr (inl (is ∙ (ap (value_in b) new ∙ own-value m b bytes)))
left-value m b bytes before after v is (inr (inr none)) = inr (inr (is ∙ ap (value_in b) none))

pub writes_store_one_block : MapLaws → BlocksLieOnUserSectors → BlocksHaveOwnSectors → WritesStoreOneBlock
writes_store_one_block laws on_user_sectors have_own m before b bytes there below =
    let p : Psn = place_of m b in
    let payload : Payload = placed m b bytes in
    let more : List Op = (after_write before (place_of m b) (placed m b bytes)).ops in
    let user : 16 ≤ (place_of m b).0 = (on_user_sectors m there.valid b below).0 in
    let still : IsThere m more = stays laws m before.ops more there (λ q less.
    sym (write-apart before p (sector q) payload (is_sector-apart p (sector q) (λ same. omega arith)))) in
    let here : IsMeantBy p payload before.ops more (write_answer before p) = write-own before p payload (is_sector-own p) in
    record {
      there = still;
      others = λ taken may q in_q apart. recovery_finds_what_is_stored laws.found m taken more still may q
          ∙ ap (value_in q) (write-apart before p (place_of m q) payload (is_sector-apart p (place_of m q) (λ same. apart (have_own m there.valid q b in_q below (ap sector same)))));
      done = λ is taken may. recovery_finds_what_is_stored laws.found m taken more still may b
          ∙ (ap (value_in b) (at_answer p payload before.ops more (write_answer before p) Written is here) ∙ own-value m b bytes);
      fault = λ is taken may. recovery_finds_what_is_stored laws.found m taken more still may b
          ∙ ap (value_in b) (at_answer p payload before.ops more (write_answer before p) Fault is here);
      off = λ is taken may. left-value m b bytes (meant p before.ops) (meant p more) (stored taken more b) (recovery_finds_what_is_stored laws.found m taken more still may b)
          (at_answer p payload before.ops more (write_answer before p) Off is here);
    }
