-- What a turn without operations leaves of the store, and when one in which something arrives is good.
use Rattle.std.proofs.Common.{◌≡◌, ℕ, ◌≤◌, true, List, [], ◌++◌, length, refl, sym, ap, ◌∙◌, subst, append-nil, false}
use Rattle.disk_base.specs.Along.{Along}
use Rattle.platter_model.specs.declared.op.Op.{Op}
use Rattle.platter_model.specs.Sector.{is_faulty}
use Rattle.platter_model.specs.TrueLog.{is_off}
use Rattle.geometry_map.specs.DefectMap.{DefectMap}
use Rattle.sector_store.specs.State.{Contained}
use Rattle.block_machine.specs.declared.entry.Entry.{Entry}
use Rattle.block_machine.specs.declared.turn.Label.TheVariants.{Arrive}
use Rattle.block_machine.specs.Steps.{begun, entry_after}
use Rattle.block_machine.specs.Turns.{entries_lawful, blocks_lawful}
use Rattle.drive_core.specs.declared.server.Server.{Server}
use Rattle.drive_scene.specs.Scene.{Scene, capacity, beat}
use Rattle.drive_scene.specs.After.{scene_after}
use Rattle.drive_scene.specs.Evidence.{lba, Shows}
use Rattle.drive_scene.specs.GoodTurn.{GoodTurn, IsStood, are_on, is_on, are_in_order}
use Rattle.drive_scene.specs.Present.{IsPresentMap}
use Rattle.drive_core.specs.Fits.{Fits, HasOps}
use Rattle.drive_core.proofs.Closing.{has_ops}
use Rattle.disk_base.specs.declared.address.Lba.{Lba}
use Rattle.std.specs.List.{list_any}
use Rattle.drive_scene.specs.Still.{IsStanding}
use Rattle.drive_scene.specs.Laws.{StillTurnsAreGood}

module _ (s : Scene) (d e : Server) (fits : Fits s d) (store_is : e.store ≡ d.store) where
  -- what is stored stands as before
  pub still_stands : IsStood s.map (s.ops ++ []) s.hist.blocks
  still_stands = subst (λ (ops : List Op). IsStood s.map ops s.hist.blocks) (sym (append-nil s.ops)) fits.stands

  store_present : IsPresentMap e.store.map e.store.platter.ops
  store_present =
      subst (λ (y : Contained). IsPresentMap y.map y.platter.ops) (sym store_is)
      (subst (λ (n : DefectMap). IsPresentMap n d.store.platter.ops) (sym fits.store.map) (subst (λ (ops : List Op). IsPresentMap s.map ops) (sym fits.store.ops) fits.store.present))

  -- the store has the map and the operations
  pub has_same : (t : Scene) → t.map ≡ s.map → t.ops ≡ s.ops ++ [] → HasOps t e.store
  has_same t map_is ops_is = has_ops s t d.store e.store [] fits.store map_is ops_is (ap (λ (y : Contained). y.map) store_is)
      (ap (λ (y : Contained). y.platter.ops) store_is ∙ sym (append-nil d.store.platter.ops)) (ap (λ (y : Contained). y.platter.armed) store_is)
      (ap (λ (y : Contained). y.ready) store_is) (ap is_off (append-nil s.ops)) (λ p. ap (is_faulty p) (append-nil s.ops)) store_present

  -- no operations come
  pub none_added : e.store.platter.ops ≡ d.store.platter.ops ++ []
  none_added = ap (λ (y : Contained). y.platter.ops) store_is ∙ sym (append-nil d.store.platter.ops)

  -- the map is there, and what is stored stands
  pub standing : IsStanding s
  standing = record { powered = fits.store.powered; present = fits.store.present; stands = fits.stands }

  -- a turn in which something arrives is good where its entries may come, are on no block and leave the blocks as they were
  pub good_arrival : StillTurnsAreGood → (i : ℕ) (entries : List Entry) → entries_lawful (capacity s) (Arrive i) (begun s.hist (Arrive i)) entries ≡ true
      → blocks_lawful (capacity s) s.hist.blocks entries ≡ true
      → Along (entry_after (capacity s) (Arrive i)) (Shows s (beat (Arrive i) entries [])) (begun s.hist (Arrive i)) entries
      → ((b : Lba) → list_any (is_on b) entries ≡ false) → are_on (lba 0) entries ≡ true → are_in_order entries ≡ true
      → ((q : ℕ) → length ((scene_after s (beat (Arrive i) entries [])).windows q) ≤ 50)
      → (scene_after s (beat (Arrive i) entries [])).hist.blocks ≡ s.hist.blocks → GoodTurn s (beat (Arrive i) entries [])
  good_arrival still i entries lawful on_blocks shown on_none on_one order windows blocks_are =
      still s (Arrive i) entries standing (record {
        tasks = lawful;
        blocks = on_blocks;
        shown = shown;
        step = refl;
        on_none = on_none;
        on_one = on_one;
        own = tt;
        order = order;
        waits = refl;
        windows = windows;
        unchanged = blocks_are;
      })
