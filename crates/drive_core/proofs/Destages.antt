-- A turn in which the drive destages a block.
use Rattle.std.proofs.Common.{◌≡◌, ℕ, ◌<◌, ◌^◌, true, List, [], ◌∷◌, ◌++◌, Option, Some, None, refl, sym, ap, ◌∙◌, subst, arith}
use Rattle.std.specs.Option.{option_map}
use Rattle.disk_base.specs.declared.address.Lba.{Lba}
use Rattle.disk_base.specs.declared.block.Value.TheVariants.{Data}
use Rattle.platter_model.specs.declared.op.Op.{Op}
use Rattle.platter_model.specs.declared.op.Op.TheVariants.{Wrote}
use Rattle.platter_model.specs.Sector.{is_faulty}
use Rattle.platter_model.specs.TrueLog.{is_off}
use Rattle.geometry_map.specs.Size.{capacity_of}
use Rattle.geometry_map.specs.DefectMap.{DefectMap, place_of}
use Rattle.geometry_map.specs.Laws.{BlocksHaveOwnSectors}
use Rattle.write_cache.specs.Contents.{newest}
use Rattle.sector_store.specs.Maps.{MayBeRecovered}
use Rattle.sector_store.specs.State.{Contained, IsStore, placed}
use Rattle.sector_store.specs.Stored.{StoresAt, KeepsBlocks, KeepsOthers}
use Rattle.sector_store.specs.Caching.{Hardens}
use Rattle.block_machine.specs.declared.entry.Entry.{Entry}
use Rattle.block_machine.specs.declared.entry.Entry.TheVariants.{Harden}
use Rattle.block_machine.specs.declared.entry.Who.TheVariants.{Drive}
use Rattle.block_machine.specs.declared.turn.Label.TheVariants.{Destage}
use Rattle.block_machine.specs.Blocks.{is_dirty}
use Rattle.drive_core.specs.declared.server.Server.{Server}
use Rattle.drive_scene.specs.Scene.{Scene, capacity}
use Rattle.drive_scene.specs.After.{scene_after}
use Rattle.drive_scene.specs.Holds.{holder_besides, destaged}
use Rattle.drive_scene.specs.Evidence.{lba}
use Rattle.drive_scene.specs.GoodTurn.{GoodTurn}
use Rattle.drive_scene.specs.Kinds.{MayDestage, destage_of}
use Rattle.drive_scene.specs.Laws.{DestagesAreGood}
use Rattle.drive_scene.specs.Present.{IsPresentMap}
use Rattle.drive_core.specs.Accepting.{accepted_of}
use Rattle.drive_core.specs.Destaging.{MayWriteOut}
use Rattle.drive_core.specs.Fits.{Fits, KnowsHistory}
use Rattle.drive_core.specs.Moves.{Moves}
use Rattle.drive_scene.proofs.DestageTurns.{destaged_free, not_destaged, quiet_back}
use Rattle.drive_scene.proofs.Tables.{put_at-other, within_map}
use Rattle.drive_scene.proofs.Uncommitted.{stays_flightless}
use Rattle.drive_core.proofs.Flightless.{apart_alone}
use Rattle.drive_core.proofs.Closing.{present_after}
use Rattle.drive_core.proofs.Destaged.{destaged-dirty}
use Rattle.drive_core.proofs.Elsewhere.{staged-alike}
use Rattle.drive_core.proofs.Fitting.{known-quiet}
use Rattle.drive_core.proofs.WorldTurns.{standing_now}
use Rattle.drive_core.proofs.Written.{MayStore}
use Rattle.drive_core.proofs.WrittenOut.{IsWrittenOut, added_written, present_written, has_written, cached_written}

-- the block that was found is the next one
pub next_found : (s : Scene) (b : Lba) (r : Option Lba) → r ≡ option_map lba (destaged s) → r ≡ Some b → destaged s ≡ Some b.0
next_found s b r is found = by (destaged s) (sym is ∙ found)
  where
    by : (o : Option ℕ) → option_map lba o ≡ Some b → o ≡ Some b.0
    by None never = absurd (cc)
    by (Some n) there = let same : lba n ≡ b = cc in ap (λ (k : Lba). Some k.0) same

pub below_destaged : (s : Scene) (d : Server) (b : Lba) → MayWriteOut s d b → b.0 < capacity s
below_destaged s d b may =
    let held = destaged-dirty s d.store.cache b may.fits.cached may.is_next in
    may.fits.cached.below b held.0 held.1

-- a write to the block's place is carried out
pub may_write_out : (s : Scene) (d : Server) (b : Lba) → MayWriteOut s d b → MayStore d.store b
may_write_out s d b may =
    let fits : Fits s d = may.fits in
    record {
      below = subst (λ (m : DefectMap). b.0 < capacity_of m.size) (sym fits.store.map) (within_map s b fits.size (below_destaged s d b may));
      powered = ap is_off fits.store.ops ∙ fits.store.powered;
      sound = ap (is_faulty (place_of d.store.map b)) fits.store.ops ∙ fits.store.sound (place_of d.store.map b);
      unarmed = fits.store.unarmed;
    }

-- what a destage was made of
pub record IsDestage (d e : Server) (b : Lba) : Type 0 where
  pub own : BlocksHaveOwnSectors
  pub good : DestagesAreGood
  pub hardens : (bytes : List ℕ) → newest b d.store.cache ≡ Some bytes → Hardens d.store b bytes e.store
  pub stores : (bytes : List ℕ) → newest b d.store.cache ≡ Some bytes → StoresAt d.store.map e.store.platter.ops b (Data bytes)
  pub keeps : KeepsOthers d.store.map d.store.platter.ops e.store.platter.ops b
  pub store : IsStore e.store
  pub finds : e.store.ready ≡ true → KeepsBlocks e.store.map e.store.platter.ops e.store.platter.ops
  pub may_be : e.store.ready ≡ true → e.store.map.number < 2 ^ 63 → MayBeRecovered e.store.map.size e.store.platter.ops e.store.map
  pub set : e.set ≡ d.set
  pub commands : e.commands ≡ d.commands
  pub arrived : e.arrived ≡ d.arrived
  pub known : e.known ≡ d.known

-- the drive's parts fit after it
fits_destaged : (s : Scene) (d e : Server) (b : Lba) (bytes : List ℕ) → IsWrittenOut s d e b bytes → MayDestage s b bytes
    → GoodTurn s (destage_of s b bytes) → e.set ≡ d.set → e.commands ≡ d.commands → e.arrived ≡ d.arrived → e.known ≡ d.known
    → Fits (scene_after s (destage_of s b bytes)) e
fits_destaged s d e b bytes wrote may good set commands arrived known =
    let t : Scene = scene_after s (destage_of s b bytes) in
    let fits : Fits s d = wrote.fits in
    let free : holder_besides s Destage b.0 ≡ None = destaged_free s b.0 may.is_next in
    record {
      size = fits.size;
      store = has_written s d e b bytes wrote t refl refl;
      cached = cached_written s d e b bytes wrote t (Harden Drive b ∷ []) refl refl refl refl refl refl refl;
      known = subst (λ k. KnowsHistory (scene_after s (destage_of s b bytes)) k) (sym known) (known-quiet s t d.known refl refl refl refl refl fits.known);
      tasks = record { set = set ∙ fits.tasks.set; arrived = arrived ∙ fits.tasks.arrived; came = fits.tasks.came };
      staged = λ q. staged-alike s t q (accepted_of d.commands.items q) (accepted_of e.commands.items q) (record {
        size = refl;
        map = refl;
        member = refl;
        duty = refl;
        window = refl;
        settings = refl;
        recovered = refl;
        dirty = λ n holds. ap is_dirty (put_at-other b.0 n _ s.hist.blocks (not_destaged s q b.0 n free holds));
      }) (λ i. accepted_of (commands i).items q) (fits.staged q);
      apart = apart_alone t (stays_flightless s (destage_of s b bytes) fits.flightless) fits.apart.commands;
      windows = fits.windows;
      stands = good.stands;
      unstuck = quiet_back s (destage_of s b bytes) fits.unstuck;
      flightless = stays_flightless s (destage_of s b bytes) fits.flightless;
    }

pub destage_moves : (s : Scene) (d e : Server) (b : Lba) (entries : List Entry) → MayWriteOut s d b → IsDestage d e b → entries ≡ Harden Drive b ∷ []
    → Moves Destage s d e entries None
destage_moves s d e b entries may is told =
    let fits : Fits s d = may.fits in
    let held = destaged-dirty s d.store.cache b may.fits.cached may.is_next in
    let bytes : List ℕ = held.0 in
    let below : b.0 < capacity s = below_destaged s d b may in
    let hardens : Hardens d.store b held.0 e.store = is.hardens held.0 held.1 in
    let there : IsPresentMap e.store.map e.store.platter.ops =
    present_after s d.store e.store fits.store (ap (λ (x : Contained). x.map) hardens.after) (ap (λ (x : Contained). x.ready) hardens.after) is.store is.finds is.may_be in
    let ops : e.store.platter.ops ≡ s.ops ++ Wrote (placed s.map b held.0) ∷ [] =
    ap (λ (x : Contained). x.platter.ops) hardens.after
    ∙ (λ i. fits.store.ops i ++ Wrote (placed (fits.store.map i) b held.0) ∷ []) in
    let stores : StoresAt s.map (s.ops ++ Wrote (placed s.map b held.0) ∷ []) b (Data held.0) =
    subst (λ (xs : List Op). StoresAt s.map xs b (Data held.0)) ops
    (subst (λ (m : DefectMap). StoresAt m e.store.platter.ops b (Data held.0)) fits.store.map (is.stores held.0 held.1)) in
    let keeps : KeepsOthers s.map s.ops (s.ops ++ Wrote (placed s.map b held.0) ∷ []) b =
    subst (λ (xs : List Op). KeepsOthers s.map s.ops xs b) ops
    (subst (λ (xs : List Op). KeepsOthers s.map xs e.store.platter.ops b) fits.store.ops
    (subst (λ (m : DefectMap). KeepsOthers m d.store.platter.ops e.store.platter.ops b) fits.store.map is.keeps)) in
    let wrote : IsWrittenOut s d e b held.0 = record {
      fits = fits;
      below = below;
      data_is = fits.cached.dirty b ∙ ap (option_map Data) held.1;
      stores = stores;
      keeps = keeps;
      held = held.1;
      hardens = hardens;
      present = there;
    } in
    let goes : MayDestage s b held.0 = record {
      size = fits.size;
      below = below;
      is_next = may.is_next;
      newest = fits.cached.dirty b ∙ ap (option_map Data) held.1;
      own_sector = λ q within same. is.own s.map fits.store.present.there.valid q b (within_map s q fits.size within) (within_map s b fits.size below) same;
      standing = standing_now s d fits;
      windows = fits.windows;
      stores = stores;
      keeps = keeps;
      present = present_written s d e b held.0 wrote;
    } in
    let good : GoodTurn s (destage_of s b held.0) = (is.good s b held.0 goes).0 in
    let moves : Moves Destage s d e (Harden Drive b ∷ []) None = record {
      ops = Wrote (placed s.map b held.0) ∷ [];
      added = added_written s d e b held.0 wrote;
      good = good;
      fits = fits_destaged s d e b held.0 wrote goes good is.set is.commands is.arrived is.known;
      counted = omega (arith, is.arrived);
      ended = refl;
    } in
    subst (λ (es : List Entry). Moves Destage s d e es None) (sym told) moves
