-- What a dirty block that is written to its place leaves of the store, whoever hardens it.
use Rattle.std.proofs.Common.{◌≡◌, ℕ, ◌<◌, false, List, [], ◌∷◌, ◌++◌, Some, sym, ap, ◌∙◌, subst}
use Rattle.std.proofs.lemmas.List.Sums.{fold-append}
use Rattle.disk_base.specs.declared.address.Lba.{Lba}
use Rattle.disk_base.specs.declared.address.Psn.{Psn}
use Rattle.disk_base.specs.declared.block.Value.TheVariants.{Data}
use Rattle.disk_base.specs.declared.payload.Payload.{Payload}
use Rattle.platter_model.specs.declared.op.Op.{Op}
use Rattle.platter_model.specs.declared.op.Op.TheVariants.{Wrote}
use Rattle.platter_model.specs.Sector.{is_faulty, faulty_after}
use Rattle.platter_model.specs.TrueLog.{is_off, is_unpowered, supply_after, powered, strays}
use Rattle.geometry_map.specs.DefectMap.{DefectMap}
use Rattle.sector_store.specs.State.{Contained, placed}
use Rattle.sector_store.specs.Stored.{stored, StoresAt, KeepsOthers}
use Rattle.sector_store.specs.Caching.{Hardens}
use Rattle.write_cache.specs.Contents.{newest}
use Rattle.block_machine.specs.declared.entry.Entry.{Entry}
use Rattle.block_machine.specs.Blocks.{Blocks, without_address}
use Rattle.block_machine.specs.Blocks as blocks
use Rattle.drive_core.specs.declared.server.Server.{Server}
use Rattle.drive_scene.specs.Scene.{Scene, capacity}
use Rattle.drive_scene.specs.Kinds.{hardened_blocks}
use Rattle.drive_scene.specs.Present.{IsPresentMap}
use Rattle.drive_core.specs.Fits.{HasOps, IsCached, Fits}
use Rattle.drive_scene.proofs.Tables.{put_at-own, put_at-other, within_map}
use Rattle.drive_scene.proofs.HardenTurns.{hardened-newest, dirty-newest, unstrayed}
use Rattle.drive_core.proofs.Closing.{has_ops}
use Rattle.drive_core.proofs.HardenParts.{IsAfterHarden, cached_hardened}
use Rattle.drive_core.proofs.Written.{uncounted}

-- a write leaves the power and the write faults as they were
pub off-written : (ops : List Op) (payload : Payload) → is_off (ops ++ Wrote payload ∷ []) ≡ is_off ops
off-written ops payload = ap is_unpowered (fold-append supply_after powered ops (Wrote payload ∷ []))

pub faults-written : (ops : List Op) (payload : Payload) (p : Psn) → is_faulty p (ops ++ Wrote payload ∷ []) ≡ is_faulty p ops
faults-written ops payload p = fold-append (faulty_after p) false ops (Wrote payload ∷ [])

-- a dirty block of a drive went to its place: the write stores its newest data there and changes no other block
pub record IsWrittenOut (s : Scene) (d e : Server) (b : Lba) (bytes : List ℕ) : Type 0 where
  pub fits : Fits s d
  pub below : b.0 < capacity s
  pub data_is : blocks.newest (s.hist.blocks b.0) ≡ Some (Data bytes)
  pub stores : StoresAt s.map (s.ops ++ Wrote (placed s.map b bytes) ∷ []) b (Data bytes)
  pub keeps : KeepsOthers s.map s.ops (s.ops ++ Wrote (placed s.map b bytes) ∷ []) b
  pub held : newest b d.store.cache ≡ Some bytes
  pub hardens : Hardens d.store b bytes e.store
  pub present : IsPresentMap e.store.map e.store.platter.ops

-- the operation of the turn
abbrev pub op_of : Scene → Lba → List ℕ → Op
op_of s b bytes = Wrote (placed s.map b bytes)

module _ (s : Scene) (d e : Server) (b : Lba) (bytes : List ℕ) (turn : IsWrittenOut s d e b bytes) where
  same_map : e.store.map ≡ d.store.map
  same_map = ap (λ (x : Contained). x.map) turn.hardens.after

  pub added_written : e.store.platter.ops ≡ d.store.platter.ops ++ op_of s b bytes ∷ []
  added_written = ap (λ (x : Contained). x.platter.ops) turn.hardens.after
      ∙ ap (λ (m : DefectMap). d.store.platter.ops ++ Wrote (placed m b bytes) ∷ []) turn.fits.store.map

  -- the map is there after it
  pub present_written : IsPresentMap s.map (s.ops ++ op_of s b bytes ∷ [])
  present_written =
      let at_map : IsPresentMap s.map e.store.platter.ops =
      subst (λ (m : DefectMap). IsPresentMap m e.store.platter.ops) (same_map ∙ turn.fits.store.map) turn.present in
      subst (λ (ops : List Op). IsPresentMap s.map ops) (added_written ∙ ap (λ (ops : List Op). ops ++ op_of s b bytes ∷ []) turn.fits.store.ops) at_map

  -- the store of a scene with its operation
  pub has_written : (t : Scene) → t.map ≡ s.map → t.ops ≡ s.ops ++ op_of s b bytes ∷ [] → HasOps t e.store
  has_written t map_is ops_is =
      has_ops s t d.store e.store (op_of s b bytes ∷ []) turn.fits.store map_is ops_is same_map added_written
      (ap (λ (x : Contained). x.platter.armed) turn.hardens.after ∙ uncounted d.store.platter.armed turn.fits.store.unarmed)
      (ap (λ (x : Contained). x.ready) turn.hardens.after) (off-written s.ops (placed s.map b bytes)) (faults-written s.ops (placed s.map b bytes)) turn.present

  after_scene : (t : Scene) (more : List Entry) → t.size ≡ s.size → t.map ≡ s.map → t.ops ≡ s.ops ++ op_of s b bytes ∷ [] → t.since ≡ s.since ++ op_of s b bytes ∷ []
      → t.entries ≡ s.entries ++ more → t.hist.blocks ≡ hardened_blocks s b → t.hist.dirty ≡ without_address b.0 s.hist.dirty → IsAfterHarden s t b bytes
  after_scene t more size_is map_is ops_is since_is entries_are blocks_are order = record {
    size = size_is;
    map = map_is;
    own = ap (λ (f : Blocks). f b.0) blocks_are ∙ (put_at-own b.0 _ s.hist.blocks ∙ hardened-newest (s.hist.blocks b.0) (Data bytes) turn.data_is);
    others = λ q other. ap (λ (f : Blocks). f q) blocks_are ∙ put_at-other b.0 q _ s.hist.blocks other;
    order = order;
    more_entries = more;
    entries = entries_are;
    more_ops = op_of s b bytes ∷ [];
    since = since_is;
    unstrayed = λ none. unstrayed s.ops (op_of s b bytes) (ap strays (sym ops_is) ∙ none);
    stores = (λ i. stored (map_is i) (ops_is i) b) ∙ turn.stores s.map present_written.may_be;
    keeps = λ q below other. (λ i. stored (map_is i) (ops_is i) q) ∙ turn.keeps s.map present_written.may_be q (within_map s q turn.fits.size below) other;
  }

  -- and its cache
  pub cached_written : (t : Scene) (more : List Entry) → t.size ≡ s.size → t.map ≡ s.map → t.ops ≡ s.ops ++ op_of s b bytes ∷ [] → t.since ≡ s.since ++ op_of s b bytes ∷ []
      → t.entries ≡ s.entries ++ more → t.hist.blocks ≡ hardened_blocks s b → t.hist.dirty ≡ without_address b.0 s.hist.dirty → IsCached t e.store.cache
  cached_written t more size_is map_is ops_is since_is entries_are blocks_are order =
      cached_hardened s t b bytes d.store.cache e.store.cache (after_scene t more size_is map_is ops_is since_is entries_are blocks_are order) turn.below
      (dirty-newest (s.hist.blocks b.0) (Data bytes) turn.data_is) turn.held turn.hardens.cache turn.fits.cached
