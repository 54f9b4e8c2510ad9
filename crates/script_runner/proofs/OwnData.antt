-- Nothing but a block's own data is ever meant at its place.
use Rattle.std.proofs.Common.{◌≡◌, ◌≢◌, ◌∙◌, ap, sym, refl, subst, ℕ, zero, suc, ◌+◌, ◌<◌, ◌≤◌, Bool, true, false, cond, List, [], ◌∷◌, ◌++◌, map, arith, Option, Some, None}
use Rattle.std.specs.Prelude.{◌==◌, if◌then◌else◌, fold, replicate, All}
use Rattle.std.specs.List.{range_with_len}
use Rattle.std.proofs.lemmas.Bool.{eq-eqb, eqb-true}
use Rattle.std.proofs.lemmas.List.Elements.{All-nil, All-cons, All-head, All-tail, All-append, All-weaker, All-map, All-from_recursion}
use Rattle.disk_base.specs.Along.{Along}
use Rattle.disk_base.specs.declared.address.Lba.{Lba}
use Rattle.disk_base.specs.declared.address.Psn.{Psn}
use Rattle.disk_base.specs.declared.block.Value.TheVariants.{Data, Lost}
use Rattle.disk_base.specs.declared.payload.Payload.{Payload}
use Rattle.disk_base.specs.Payload.{value_for}
use Rattle.geometry_map.specs.Size.{capacity_of}
use Rattle.geometry_map.specs.DefectMap.{DefectMap, IsValidMap, factory_map, place_of}
use Rattle.geometry_map.specs.Laws.{BlocksHaveOwnSectors, BlocksLieOnUserSectors}
use Rattle.platter_model.specs.declared.damage.Left.{Left}
use Rattle.platter_model.specs.declared.damage.Left.TheVariants.{Old, New, Nothing}
use Rattle.platter_model.specs.declared.op.Op.{Op}
use Rattle.platter_model.specs.declared.op.Op.TheVariants.{Wrote, Torn}
use Rattle.platter_model.specs.Sector.{is_sector, left_of, meant_after, meant}
use Rattle.sector_store.specs.Maps.{records_of}
use Rattle.sector_store.specs.State.{placed}
use Rattle.sector_store.specs.Factory.{block_at, zero_block, zero_blocks, first_map, factory_payloads}
use Rattle.drive_scene.specs.declared.made.Made.{Made}
use Rattle.drive_scene.specs.Scene.{Scene, Beat, scene_at_start}
use Rattle.drive_scene.specs.After.{scene_after}
use Rattle.drive_scene.specs.GoodTurn.{GoodTurn, IsBlockData, WritesBlockData}
use Rattle.drive_scene.proofs.Uncommitted.{stays_flightless}
use Rattle.script_runner.proofs.Unmoved.{same_map, writes_blocks}
use Rattle.block_machine.specs.declared.entry.Entry.{Entry}

-- a payload that may be missing is a block's data where there is one
abbrev pub IsOwn : Lba → Option Payload → Type 0
IsOwn b None = Unit {0}
IsOwn b (Some payload) = value_for b payload ≢ Lost

-- an operation that writes a sector writes a block's data to it
abbrev pub WritesOwn : Lba → Psn → Op → Type 0
WritesOwn b p (Wrote payload) = is_sector p payload.psn ≡ true → value_for b payload ≢ Lost
WritesOwn b p (Torn payload tear) = is_sector p payload.psn ≡ true → value_for b payload ≢ Lost
WritesOwn b p other = Unit {0}

either : (b : Lba) (t : Bool) (new old : Option Payload) → (t ≡ true → IsOwn b new) → IsOwn b old → IsOwn b (if t then new else old)
either b true new old writes own = writes refl
either b false new old writes own = own

own_left : (b : Lba) (left : Left) (payload : Payload) (old : Option Payload) → value_for b payload ≢ Lost → IsOwn b old → IsOwn b (left_of left payload old)
own_left b Old payload old writes own = own
own_left b New payload old writes own = writes
own_left b Nothing payload old writes own = tt

own_after : (b : Lba) (p : Psn) (old : Option Payload) (o : Op) → WritesOwn b p o → IsOwn b old → IsOwn b (meant_after p old o)
own_after b p old (Wrote payload) writes own = either b (is_sector p payload.psn) (Some payload) old writes own
own_after b p old (Torn payload tear) writes own =
    either b (is_sector p payload.psn) (left_of tear.left payload old) old (λ here. own_left b tear.left payload old (writes here) own) own
own_after b p old other writes own = own

own_from : (b : Lba) (p : Psn) (old : Option Payload) (ops : List Op) → All (WritesOwn b p) ops → IsOwn b old → IsOwn b (fold (meant_after p) old ops)
own_from b p old [] all own = own
own_from b p old (o ∷ ops) all own =
    own_from b p (meant_after p old o) ops (All-tail (WritesOwn b p) o ops all) (own_after b p old o (All-head (WritesOwn b p) o ops all) own)

-- what is meant on a sector to which nothing but a block's data is written
pub own_meant : (b : Lba) (p : Psn) (ops : List Op) → All (WritesOwn b p) ops → IsOwn b (meant p ops)
own_meant b p ops all = own_from b p None ops all tt

-- a sector of a map is no block's
far_off : (p q : Psn) → 16 ≤ p.0 → q.0 < 16 → is_sector p q ≡ true → ⊥
far_off p q user of_map here = let same : q.0 ≡ p.0 = eqb-true q.0 p.0 here in omega (arith, user, of_map, same)

module _ (m : DefectMap) (valid : IsValidMap m) (b : Lba) (below : b.0 < capacity_of m.size) where
  -- at a block's place the data of a block are its own
  not_lost : BlocksHaveOwnSectors → (payload : Payload) → IsBlockData m payload → is_sector (place_of m b) payload.psn ≡ true → value_for b payload ≢ Lost
  not_lost apart payload own_block here lost =
      let at : (place_of m own_block.0).0 ≡ (place_of m b).0 =
      eqb-true (place_of m own_block.0).0 (place_of m b).0 (ap (λ (x : Payload). x.psn.0 == (place_of m b).0) (sym own_block.3) ∙ here) in
      let same : own_block.0 ≡ b = apart m valid own_block.0 b own_block.2 below (λ i. record { 0 = at i }) in
      let own : value_for b (placed m own_block.0 own_block.1) ≡ Data own_block.1 =
      ap (λ (t : Bool). cond t (Data own_block.1) Lost) (eq-eqb own_block.0.0 b.0 (ap (λ (x : Lba). x.0) same)) in
      let never : Data own_block.1 ≡ Lost = sym own ∙ ap (value_for b) (sym own_block.3) ∙ lost in
      cc

  pub blocks_write : BlocksHaveOwnSectors → (entries : List Entry) (o : Op) → WritesBlockData m entries o → WritesOwn b (place_of m b) o
  blocks_write apart entries (Wrote payload) own_block = not_lost apart payload own_block.0
  blocks_write apart entries (Torn payload tear) own_block = absurd own_block
  blocks_write apart entries other own_block = tt

  -- the records of maps lie before all blocks
  records_write : BlocksLieOnUserSectors → (n : DefectMap) → n.slot < 2 → All (λ (payload : Payload). WritesOwn b (place_of m b) (Wrote payload)) (records_of n)
  unfolding records_of
  records_write on_user n slot =
      let far = on_user m valid b below in
      let Before : Payload → Type 0 = λ payload. payload.psn.0 < 16 in
      All-weaker Before (λ payload. WritesOwn b (place_of m b) (Wrote payload))
      (λ payload before here. absurd (far_off (place_of m b) payload.psn far.0 before here)) (records_of n)
      (All-from_recursion Before (records_of n)
      (omega arith, (omega arith, (omega arith, (omega arith, (omega arith, (omega arith, (omega arith, (omega arith, tt)))))))))

-- a block of zeros at each place is the data of blocks
zeros_write : (m : DefectMap) (P : Payload → Type 0) → ((payload : Payload) → IsBlockData m payload → P payload)
    → (from n : ℕ) → from + n ≡ capacity_of m.size → All P (map (zero_block m) (range_with_len from n))
zeros_write m P of_block from zero is = All-nil P
zeros_write m P of_block from (suc n) is =
    All-cons P (zero_block m from) (map (zero_block m) (range_with_len (from + 1) n))
    (of_block (zero_block m from) (block_at from, replicate 512 0, omega arith, refl)) (zeros_write m P of_block (from + 1) n (omega arith))

-- all operations write blocks' data or what the factory did
all_written : (Q : Op → Type 0) (s : Scene) (turns : List Beat) → s.back.flights ≡ [] → ((entries : List Entry) (o : Op) → WritesBlockData s.map entries o → Q o) → Along scene_after GoodTurn s turns
    → All Q s.ops → All Q (fold scene_after s turns).ops
all_written Q s [] none of_block good before = before
all_written Q s (t ∷ turns) none of_block good before =
    all_written Q (scene_after s t) turns (stays_flightless s t none)
    (λ entries o writes. of_block entries o (subst (λ (m : DefectMap). WritesBlockData m entries o) (same_map s t none) writes)) good.1
    (All-append Q s.ops t.ops before (All-weaker (WritesBlockData s.map t.entries) Q (of_block t.entries) t.ops (writes_blocks s t none good.0)))

-- so a drive writes nothing but a block's data to its place, from the factory on
pub own_written : BlocksHaveOwnSectors → BlocksLieOnUserSectors → (made : Made) (turns : List Beat) → IsValidMap (factory_map made.size made.primary)
    → Along scene_after GoodTurn (scene_at_start made) turns → (b : Lba) → b.0 < capacity_of made.size
    → All (WritesOwn b (place_of (factory_map made.size made.primary) b)) (fold scene_after (scene_at_start made) turns).ops
own_written apart on_user made turns valid good b below =
    let m : DefectMap = factory_map made.size made.primary in
    let Q : Op → Type 0 = WritesOwn b (place_of (factory_map made.size made.primary) b) in
    let P : Payload → Type 0 = λ payload. WritesOwn b (place_of (factory_map made.size made.primary) b) (Wrote payload) in
    let of_block = blocks_write (factory_map made.size made.primary) valid b below apart in
    let records = records_write (factory_map made.size made.primary) valid b below on_user in
    let zeros : All P (zero_blocks (factory_map made.size made.primary)) = zeros_write m P (λ payload own_block. not_lost (factory_map made.size made.primary) valid b below apart payload own_block) 0 (capacity_of made.size) (omega arith) in
    let payloads : All P (factory_payloads made.size made.primary) =
    All-append P (records_of (first_map made.size made.primary) ++ records_of m) (zero_blocks m)
    (All-append P (records_of (first_map made.size made.primary)) (records_of m) (records (first_map made.size made.primary) (omega arith)) (records m (omega arith))) zeros in
    all_written Q (scene_at_start made) turns refl of_block good (All-map Q Wrote (factory_payloads made.size made.primary) payloads)
