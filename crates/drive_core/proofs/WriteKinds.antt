-- The turns of a write: into the cache, or to the block's place.
use Rattle.std.proofs.Common.{◌≡◌, ℕ, ◌-◌, ◌<◌, Bool, true, false, eqb, List, [], ◌∷◌, ◌++◌, Option, Some, None, refl, sym, ap, ◌∙◌, subst, arith}
use Rattle.std.specs.Prelude.{◌||◌, Contains}
use Rattle.std.specs.Option.{option_and_then}
use Rattle.std.proofs.lemmas.Bool.{eq-eqb, or_left}
use Rattle.std.proofs.lemmas.List.{append-nil}
use Rattle.std.proofs.lemmas.List.Elements.{Contains-append_right}
use Rattle.disk_base.specs.declared.block.Value.TheVariants.{Data}
use Rattle.disk_base.specs.declared.payload.Payload.{Payload}
use Rattle.platter_model.specs.declared.op.Op.{Op}
use Rattle.platter_model.specs.declared.op.Op.TheVariants.{Wrote}
use Rattle.platter_model.specs.Sector.{is_faulty}
use Rattle.platter_model.specs.TrueLog.{is_off, strays}
use Rattle.mode_pages.specs.declared.settings.Settings.{Settings}
use Rattle.geometry_map.specs.DefectMap.{DefectMap}
use Rattle.geometry_map.specs.Laws.{BlocksHaveOwnSectors}
use Rattle.sector_store.specs.Stored.{stored as stored_at, StoresAt, KeepsOthers}
use Rattle.sector_store.specs.State.{Contained, placed}
use Rattle.task_set.specs.declared.member.Member.{Member}
use Rattle.task_set.specs.Members.{member_of}
use Rattle.read_recovery.specs.Stages.{Progress}
use Rattle.cdb_reader.specs.declared.plan.Writing as writing
use Rattle.cdb_reader.specs.declared.plan.Plan.TheVariants.{Writing}
use Rattle.cdb_reader.specs.Plan.{after_written, block_of}
use Rattle.command_engine.specs.declared.step.Recovery.{Recovery}
use Rattle.block_machine.specs.declared.entry.Entry.{Entry}
use Rattle.block_machine.specs.declared.entry.Entry.TheVariants.{Put, Harden}
use Rattle.block_machine.specs.declared.entry.Who.TheVariants.{Command}
use Rattle.block_machine.specs.declared.turn.Label.TheVariants.{Work}
use Rattle.block_machine.specs.Blocks.{Blocks, after_put}
use Rattle.block_machine.specs.Deeds.{is_crowded}
use Rattle.block_machine.specs.State.{owed_by}
use Rattle.block_machine.specs.Steps.{begun}
use Rattle.drive_core.specs.declared.server.Server.{Server}
use Rattle.drive_scene.specs.Scene.{Scene, capacity}
use Rattle.drive_scene.specs.Holds.{holder_besides}
use Rattle.drive_scene.specs.Evidence.{lba}
use Rattle.drive_scene.specs.View.{view}
use Rattle.drive_core.specs.Commands.{IsWorking}
use Rattle.drive_scene.specs.Present.{IsPresentMap}
use Rattle.drive_core.specs.Fits.{Fits}
use Rattle.sector_store.specs.Caching.{IsInCache, IsAtPlace}
use Rattle.drive_scene.proofs.Tables.{put_at-own, put_at-other, within_map}
use Rattle.drive_core.proofs.Closing.{has_ops}
use Rattle.drive_core.proofs.Written.{uncounted}
use Rattle.drive_scene.proofs.HardenTurns.{unstrayed}
use Rattle.drive_core.proofs.WrittenOut.{off-written, faults-written}
use Rattle.drive_core.proofs.HardenParts.{IsAfterHarden}
use Rattle.drive_scene.specs.Kinds.{IsPut, IsPutThrough, put_state, through_state}
use Rattle.drive_scene.specs.Laws.{HalvesAreGood, PutsAreHalves, PutsThroughAreHalves}
use Rattle.drive_scene.proofs.PutTurns.{through-own, through-other}
use Rattle.drive_core.proofs.PutParts.{IsAfterPut, cached_put, cached_through, without-with}
use Rattle.drive_core.proofs.WriteTurns.{course, next-kept, next-through, next-written, to_harden, IsWriteTurn}

-- a write at work on a block that nobody else holds
pub record IsAtWrite (s : Scene) (d : Server) (c : ℕ) (m : Member) (settings : Settings) (gives : Bool) (moved : ℕ) (w : writing.Writing) (p : Progress) (rec : Option Recovery) (bytes : List ℕ) : Type 0 where
  pub fits : Fits s d
  pub is_in : member_of s.hist.set c ≡ Some m
  pub working : IsWorking (view s c) m (course settings gives moved w p rec)
  pub left : w.at < w.end
  pub unhardened : w.owes_harden ≡ false
  pub free : holder_besides s (Work c) w.at ≡ None
  pub block : bytes ≡ block_of w.sent (w.at - w.from)

module _ (s : Scene) (d e : Server) (c : ℕ) (m : Member) (settings : Settings) (gives : Bool) (moved : ℕ) (w : writing.Writing) (p : Progress) (rec : Option Recovery)
    (bytes : List ℕ) (at : IsAtWrite s d c m settings gives moved w p rec bytes) where
  owes : owed_by s.hist c ≡ Some (Writing w)
  owes = ap (λ (o : Option Member). option_and_then (λ (x : Member). (s.hist.duties c).owes) o) at.is_in ∙ at.working.owes

  below : w.at < capacity s
  below = omega (arith, at.left, at.working.range)

  put : IsPut s c (lba w.at)
  put = record { below = below; free = at.free; stood = at.fits.stands }

  -- into the cache
  pub turn_kept : HalvesAreGood → PutsAreHalves → w.through ≡ false → is_crowded (begun s.hist (Work c)) c w.at ≡ false → IsInCache (lba w.at) bytes d.store e.store
      → IsWriteTurn s d e c m (course settings gives moved w p rec) (after_written w) [] (Put c (lba w.at) bytes ∷ []) (put_state s c (lba w.at) bytes)
  turn_kept halves puts unforced room kept =
      let added : e.store.platter.ops ≡ d.store.platter.ops ++ [] = ap (λ (x : Contained). x.platter.ops) kept.after ∙ sym (append-nil d.store.platter.ops) in
      let present : IsPresentMap e.store.map e.store.platter.ops =
      subst (λ (n : DefectMap). IsPresentMap n e.store.platter.ops) (sym (ap (λ (x : Contained). x.map) kept.after ∙ at.fits.store.map))
      (subst (λ (xs : List Op). IsPresentMap s.map xs) (sym (ap (λ (x : Contained). x.platter.ops) kept.after ∙ at.fits.store.ops)) at.fits.store.present) in
      record {
        fits = at.fits;
        is_in = at.is_in;
        working = at.working;
        half_is = puts s c (lba w.at) bytes (Writing w) (after_written w) put owes (next-kept w bytes _ at.unhardened at.left at.block unforced room);
        halves = halves;
        tries = λ more. refl;
        acts = refl;
        opens = or_left (eqb c c) false (eq-eqb c c refl);
        opens_too = λ x. or_left (eqb c c) false (eq-eqb c c refl);
        recovered = refl;
        untold = refl;
        told = λ x. refl;
        added = added;
        has = λ t map_is ops_is. has_ops s t d.store e.store [] at.fits.store map_is ops_is (ap (λ (x : Contained). x.map) kept.after) added (ap (λ (x : Contained). x.platter.armed) kept.after)
            (ap (λ (x : Contained). x.ready) kept.after) (ap is_off (append-nil s.ops)) (λ q. ap (is_faulty q) (append-nil s.ops)) present;
        cached = λ t more size_is map_is ops_is since_is entries_is blocks_are order.
            let after : IsAfterPut s t c (lba w.at) bytes = record {
              size = size_is;
              map = map_is;
              ops = ops_is ∙ append-nil s.ops;
              own = ap (λ (f : Blocks). f w.at) blocks_are ∙ put_at-own w.at (after_put (s.hist.blocks w.at) (Data bytes)) s.hist.blocks;
              others = λ q other. ap (λ (f : Blocks). f q) blocks_are ∙ put_at-other w.at q (after_put (s.hist.blocks w.at) (Data bytes)) s.hist.blocks other;
              order = order;
              more_entries = Put c (lba w.at) bytes ∷ more;
              entries = entries_is;
              put = subst (λ (es : List Entry). Contains es (Put c (lba w.at) bytes)) (sym entries_is)
                  (Contains-append_right s.entries (Put c (lba w.at) bytes ∷ more) (Put c (lba w.at) bytes) (0, omega arith, refl));
              more_ops = [];
              since = since_is;
            } in
            cached_put s t c (lba w.at) bytes d.store.cache e.store.cache after below kept.cache at.fits.cached;
      }

  -- to its place
  pub turn_through : HalvesAreGood → PutsThroughAreHalves → (w.through || is_crowded (begun s.hist (Work c)) c w.at) ≡ true → IsAtPlace (lba w.at) bytes d.store e.store → BlocksHaveOwnSectors
      → StoresAt d.store.map e.store.platter.ops (lba w.at) (Data bytes) → KeepsOthers d.store.map d.store.platter.ops e.store.platter.ops (lba w.at)
      → IsPresentMap e.store.map e.store.platter.ops
      → IsWriteTurn s d e c m (course settings gives moved w p rec) (after_written w) (Wrote (placed s.map (lba w.at) bytes) ∷ [])
      (Put c (lba w.at) bytes ∷ Harden (Command c) (lba w.at) ∷ []) (through_state s c (lba w.at) bytes)
  turn_through halves puts forced stored own_sectors stores keeps present =
      let payload_is : placed d.store.map (lba w.at) bytes ≡ placed s.map (lba w.at) bytes = ap (λ (n : DefectMap). placed n (lba w.at) bytes) at.fits.store.map in
      let added : e.store.platter.ops ≡ d.store.platter.ops ++ Wrote (placed s.map (lba w.at) bytes) ∷ [] =
      ap (λ (x : Contained). x.platter.ops) stored.after ∙ ap (λ (x : Payload). d.store.platter.ops ++ Wrote x ∷ []) payload_is in
      let all_ops : e.store.platter.ops ≡ s.ops ++ Wrote (placed s.map (lba w.at) bytes) ∷ [] =
      added ∙ ap (λ (xs : List Op). xs ++ Wrote (placed s.map (lba w.at) bytes) ∷ []) at.fits.store.ops in
      let same_map : e.store.map ≡ s.map = ap (λ (x : Contained). x.map) stored.after ∙ at.fits.store.map in
      let present_then : IsPresentMap s.map (s.ops ++ Wrote (placed s.map (lba w.at) bytes) ∷ []) =
      subst (λ (xs : List Op). IsPresentMap s.map xs) all_ops (subst (λ (n : DefectMap). IsPresentMap n e.store.platter.ops) same_map present) in
      let stores_then : StoresAt s.map (s.ops ++ Wrote (placed s.map (lba w.at) bytes) ∷ []) (lba w.at) (Data bytes) =
      subst (λ (xs : List Op). StoresAt s.map xs (lba w.at) (Data bytes)) all_ops
      (subst (λ (n : DefectMap). StoresAt n e.store.platter.ops (lba w.at) (Data bytes)) at.fits.store.map stores) in
      let keeps_then : KeepsOthers s.map s.ops (s.ops ++ Wrote (placed s.map (lba w.at) bytes) ∷ []) (lba w.at) =
      subst (λ (xs : List Op). KeepsOthers s.map s.ops xs (lba w.at)) all_ops
      (subst (λ (xs : List Op). KeepsOthers s.map xs e.store.platter.ops (lba w.at)) at.fits.store.ops
      (subst (λ (n : DefectMap). KeepsOthers n d.store.platter.ops e.store.platter.ops (lba w.at)) at.fits.store.map keeps)) in
      let is : IsPutThrough s c (lba w.at) bytes = record {
        size = at.fits.size;
        put = put;
        own_sector = λ q within same. own_sectors s.map at.fits.store.present.there.valid q (lba w.at) (within_map s q at.fits.size within)
            (within_map s (lba w.at) at.fits.size below) same;
        may_be = at.fits.store.present.may_be;
        stores = stores_then;
        keeps = keeps_then;
      } in
      record {
        fits = at.fits;
        is_in = at.is_in;
        working = at.working;
        half_is = puts s c (lba w.at) bytes (Writing w) (to_harden w) (after_written w) is owes
            (next-through w bytes _ at.unhardened at.left at.block forced) (next-written w at.left);
        halves = halves;
        tries = λ more. refl;
        acts = refl;
        opens = or_left (eqb c c) _ (eq-eqb c c refl);
        opens_too = λ x. or_left (eqb c c) _ (eq-eqb c c refl);
        recovered = refl;
        untold = refl;
        told = λ x. refl;
        added = added;
        has = λ t map_is ops_is. has_ops s t d.store e.store (Wrote (placed s.map (lba w.at) bytes) ∷ []) at.fits.store map_is ops_is (ap (λ (x : Contained). x.map) stored.after) added
            (ap (λ (x : Contained). x.platter.armed) stored.after ∙ uncounted d.store.platter.armed at.fits.store.unarmed)
            (ap (λ (x : Contained). x.ready) stored.after) (off-written s.ops (placed s.map (lba w.at) bytes))
            (faults-written s.ops (placed s.map (lba w.at) bytes)) present;
        cached = λ t more size_is map_is ops_is since_is entries_is blocks_are order.
            let after : IsAfterHarden s t (lba w.at) bytes = record {
              size = size_is;
              map = map_is;
              own = ap (λ (f : Blocks). f w.at) blocks_are ∙ through-own s (lba w.at) bytes;
              others = λ q other. ap (λ (f : Blocks). f q) blocks_are ∙ through-other s (lba w.at) bytes q other;
              order = order ∙ without-with w.at s.hist.dirty;
              more_entries = Put c (lba w.at) bytes ∷ Harden (Command c) (lba w.at) ∷ more;
              entries = entries_is;
              more_ops = Wrote (placed s.map (lba w.at) bytes) ∷ [];
              since = since_is;
              unstrayed = λ none. unstrayed s.ops (Wrote (placed s.map (lba w.at) bytes)) (ap strays (sym ops_is) ∙ none);
              stores = (λ i. stored_at (map_is i) (ops_is i) (lba w.at)) ∙ stores_then s.map present_then.may_be;
              keeps = λ q within other. (λ i. stored_at (map_is i) (ops_is i) q) ∙ keeps_then s.map present_then.may_be q (within_map s q at.fits.size within) other;
            } in
            cached_through s t (lba w.at) bytes d.store.cache e.store.cache after stored.cache at.fits.cached;
      }
