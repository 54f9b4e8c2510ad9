-- A turn of taking a block's value, by what was sought and found.
use Rattle.std.proofs.Common.{◌≡◌, ℕ, ◌<◌, Bool, true, false, not, cond, List, [], ◌++◌, length, Option, Some, None, refl, sym, ap, ◌∙◌, subst, arith, ⊎_elim, ◌⊎◌, inl, inr, append-nil}
use Rattle.std.specs.Prelude.{◌&&◌, Contains}
use Rattle.std.specs.List.{list_any}
use Rattle.std.specs.Option.{option_map, is_none}
use Rattle.std.proofs.lemmas.Bool.{cases_Bool, true≢false}
use Rattle.std.proofs.lemmas.List.Elements.{Contains-append_right}
use Rattle.disk_base.specs.declared.address.Lba.{Lba}
use Rattle.disk_base.specs.declared.address.Psn.{Psn}
use Rattle.disk_base.specs.declared.block.Value.{Value}
use Rattle.disk_base.specs.declared.block.Value.TheVariants.{Data, Lost}
use Rattle.disk_base.specs.declared.payload.Payload.{Payload}
use Rattle.disk_base.specs.declared.stage.Stage.{Stage}
use Rattle.disk_base.specs.Payload.{value_for}
use Rattle.platter_model.specs.declared.op.Op.{Op}
use Rattle.platter_model.specs.declared.op.Op.TheVariants.{Tried}
use Rattle.platter_model.specs.State.{State as Platter, tried}
use Rattle.platter_model.specs.Sector.{is_faulty}
use Rattle.platter_model.specs.TrueLog.{is_off, strays}
use Rattle.mode_pages.specs.declared.settings.Settings.{Settings}
use Rattle.sense_data.specs.declared.reply.Reply.{Reply}
use Rattle.geometry_map.specs.Size.{capacity_of}
use Rattle.geometry_map.specs.DefectMap.{DefectMap, place_of}
use Rattle.task_set.specs.declared.member.Member.{Member}
use Rattle.task_set.specs.Members.{member_of}
use Rattle.read_recovery.specs.Stages.{Progress, next_stage, answered}
use Rattle.write_cache.specs.Contents.{Contents, IsCache, newest, clean_data, after_look, with_clean}
use Rattle.write_cache.specs.Laws.{KeepsOthers}
use Rattle.sector_store.specs.Shapes.{try_of}
use Rattle.sector_store.specs.Stored.{stored, KeepsBlocks}
use Rattle.sector_store.specs.State.{Contained, try_answer}
use Rattle.cdb_reader.specs.declared.plan.Reading as reading
use Rattle.cdb_reader.specs.declared.plan.Plan.TheVariants.{Reading, Unread}
use Rattle.command_engine.specs.declared.answer.Answer.{Answer}
use Rattle.command_engine.specs.declared.answer.Answer.TheVariants.{Got, Missed}
use Rattle.command_engine.specs.declared.step.Recovery.{Recovery}
use Rattle.command_engine.specs.Ending.{ending_of}
use Rattle.command_engine.specs.Standing.{IsCourse}
use Rattle.command_engine.specs.Answers.{after}
use Rattle.block_machine.specs.declared.entry.Entry.{Entry}
use Rattle.block_machine.specs.declared.turn.Label.TheVariants.{Work}
use Rattle.block_machine.specs.Blocks.{is_dirty, same_value, allowed}
use Rattle.drive_core.specs.declared.accepted.Accepted.{Accepted}
use Rattle.drive_core.specs.declared.server.Server.{Server}
use Rattle.drive_scene.specs.declared.answer.Ended as told_end
use Rattle.drive_core.specs.declared.taking.Sought.{Sought}
use Rattle.drive_scene.specs.Scene.{Scene, capacity}
use Rattle.drive_scene.specs.After.{last_found}
use Rattle.drive_scene.specs.Holds.{holder_besides}
use Rattle.drive_scene.specs.Evidence.{lba, FoundByStages, FoundNowhere, may_use_cache}
use Rattle.drive_scene.specs.View.{view}
use Rattle.drive_core.specs.Commands.{IsTrying, IsWorking}
use Rattle.drive_scene.specs.Present.{IsPresentMap}
use Rattle.drive_core.specs.Fits.{IsClean, IsCached, Fits}
use Rattle.drive_core.specs.Moves.{Moves}
use Rattle.sector_store.specs.Caching.{IsLooked, IsUngiven, IsStageTried}
use Rattle.drive_core.proofs.Sought.{found_by, kept_or_same}
use Rattle.drive_core.specs.Taking.{answer_of, search_for, IsTaken, value_got, got_entries}
use Rattle.drive_scene.proofs.Tables.{within_map}
use Rattle.drive_scene.proofs.Gets.{may_get-newest, may_get-allowed, may_get-lost, dirty_by_newest, undirty_by_newest}
use Rattle.drive_scene.proofs.Tries.{tried_ops, last_found-try, failed-all, next_stage-at, none_left, no_strays-before, none-failed, found-next}
use Rattle.drive_core.proofs.Parts.{cached_got, cached_keep, cached_look, is_off-try, faults-try}
use Rattle.drive_core.proofs.Closing.{Goes, Stops, has_ops}
use Rattle.drive_scene.proofs.GetTurns.{no_ops, try_ops, begun-owes}
use Rattle.drive_core.proofs.ReadTurns.{course}
use Rattle.drive_core.proofs.Taken.{ReadLaws, IsReadTurn, got_data, got_lost, missed}
use Rattle.geometry_map.specs.declared.size.Size.{Size}
use Rattle.drive_core.proofs.Windows.{numbered}

-- two blocks are never at one sector
abbrev pub OwnPlaces : DefectMap → Type 0
OwnPlaces m = (b q : Lba) → b.0 < capacity_of m.size → q.0 < capacity_of m.size → place_of m b ≡ place_of m q → b ≡ q

module _ (s : Scene) (c : ℕ) (m : Member) (a : Accepted) (settings : Settings) (gives : Bool) (moved : ℕ) (r : reading.Reading) (p : Progress) (rec : Option Recovery) (stage : Stage) where
  -- what is sought for the read
  abbrev pub sought : Sought
  sought = record { b = lba r.at; medium = r.through; stage = stage; settings = settings; gives = gives }

  -- all that is known when the read's turn is made
  pub record IsMade (d e : Server) (answer : Answer) (entries : List Entry) (reply : Option Reply) (told : Option told_end.Ended) : Type 0 where
    pub fits : Fits s d
    pub is_in : member_of s.hist.set c ≡ Some m
    pub working : IsWorking (view s c) m (course s c m settings gives moved r p rec stage)
    pub next_is : next_stage p ≡ Some stage
    pub left : r.at < r.end
    pub free : holder_besides s (Work c) r.at ≡ None
    pub own : OwnPlaces s.map
    pub present : IsPresentMap e.store.map e.store.platter.ops
    pub once : IsCache d.store.cache
    pub keeps : KeepsOthers
    pub laws : ReadLaws
    pub course_is : IsCourse (after (course s c m settings gives moved r p rec stage) answer)
    pub reply_is : reply ≡ ending_of (after (course s c m settings gives moved r p rec stage) answer)
    pub goes : reply ≡ None → Goes d e c (record a { work = Some (after (course s c m settings gives moved r p rec stage) answer) }) (got_entries c (lba r.at) (value_got answer false)) entries told
    pub stops : (x : Reply) → reply ≡ Some x → Stops d e c x (got_entries c (lba r.at) (value_got answer true)) entries told

  below_capacity : (v : IsWorking (view s c) m (course s c m settings gives moved r p rec stage)) → r.at < r.end → r.at < capacity s
  below_capacity working left = omega (arith, working.range)

  -- a read without FUA never has to harden, and none has to where the block isn't dirty
  unforced_clean : r.through ≡ false → (dirty : Bool) → (r.through && dirty) ≡ false
  unforced_clean unforced dirty = ap (λ (b : Bool). b && dirty) unforced

  clean_there : (through dirty : Bool) → dirty ≡ false → (through && dirty) ≡ false
  clean_there true dirty clean = clean
  clean_there false dirty clean = refl

  -- the cache gives the value
  pub looked : (d e : Server) (bytes : List ℕ) (entries : List Entry) (reply : Option Reply) (told : Option told_end.Ended)
      → IsMade d e (Got (Data bytes)) entries reply told → r.through ≡ false → stage.number ≡ 0
      → (newest (lba r.at) d.store.cache ≡ Some bytes) ⊎ ((clean_data (lba r.at) d.store.cache ≡ Some bytes) × (settings.rcd ≡ false))
      → e.store ≡ record d.store { cache = after_look (lba r.at) d.store.cache }
      → Moves (Work c) s d e entries told
  looked d e bytes entries reply told made unforced first found after_is =
      let b : Lba = lba r.at in
      let trying : IsTrying (view s c) r p = made.working.at_block in
      let none_failed : p.failed ≡ 0 = sym (numbered p.retry p.failed stage (next_stage-at p stage made.next_is).1) ∙ first in
      let untried : s.windows c ++ [] ≡ [] =
      append-nil (s.windows c) ∙ none-failed (s.windows c) (place_of s.map (lba r.at)) p.retry p.failed none_failed trying.failed in
      let below : r.at < capacity s = below_capacity made.working made.left in
      let unfound : last_found (s.windows c ++ []) ≡ None = ap last_found (append-nil (s.windows c)) ∙ trying.unfound in
      let present : IsPresentMap s.map (s.ops ++ []) = subst (λ (xs : List Op). IsPresentMap s.map xs) (sym (append-nil s.ops)) made.fits.store.present in
      let turn : IsReadTurn s d e c m (course s c m settings gives moved r p rec stage) (lba r.at) [] = record {
        fits = made.fits;
        is_in = made.is_in;
        working = made.working;
        free = made.free;
        below = below;
        quiet = no_ops s (lba r.at) made.fits.store.present;
        added = ap (λ (x : Contained). x.platter.ops) after_is ∙ sym (append-nil d.store.platter.ops);
        present = present;
        has = λ t map_is ops_is. has_ops s t d.store e.store [] made.fits.store map_is ops_is (ap (λ (x : Contained). x.map) after_is)
            (ap (λ (x : Contained). x.platter.ops) after_is ∙ sym (append-nil d.store.platter.ops)) (ap (λ (x : Contained). x.platter.armed) after_is)
            (ap (λ (x : Contained). x.ready) after_is) (ap is_off (append-nil s.ops)) (λ p. ap (is_faulty p) (append-nil s.ops)) made.present;
        cached = λ t got ops_so since_is. subst (λ (x : Contained). IsCached t x.cache) (sym after_is)
            (cached_look t d.store.cache (lba r.at) made.keeps made.once (cached_got s t d.store.cache got made.fits.cached));
        laws = made.laws;
      } in
      ⊎_elim
      (λ (dirty : newest (lba r.at) d.store.cache ≡ Some bytes).
      let is = made.fits.cached.dirty (lba r.at) ∙ ap (option_map Data) dirty in
      let is_so : is_dirty (s.hist.blocks r.at) ≡ true = dirty_by_newest (s.hist.blocks r.at) (Data bytes) is in
      got_data s c m settings gives moved r p rec stage d e a bytes [] entries reply told turn made.next_is made.left
      (unforced_clean unforced (is_dirty (s.hist.blocks r.at)))
      (λ none. may_get-newest (s.hist.blocks r.at) bytes is)
      (λ none undirty. absurd (true≢false (sym is_so ∙ undirty)))
      ((λ dirtied. untried), (λ undirty. absurd (true≢false (sym is_so ∙ undirty))))
      (inr (unfound, first)) made.course_is made.reply_is made.goes made.stops)
      (λ clean.
      let is : IsClean s (lba r.at) bytes = made.fits.cached.clean (lba r.at) bytes clean.0 in
      let owing = begun-owes s.hist c m (Reading r) made.is_in made.working.owes in
      let uses : may_use_cache (s.settings c) (Some (Reading r)) ≡ true =
      ap (λ (x : Settings). not r.through && not x.rcd) made.working.settings
      ∙ ((λ i. not (unforced i) && not settings.rcd) ∙ ap not clean.1) in
      got_data s c m settings gives moved r p rec stage d e a bytes [] entries reply told turn made.next_is made.left
      (unforced_clean unforced (is_dirty (s.hist.blocks r.at)))
      (λ none. let before : strays s.ops ≡ 0 = no_strays-before s.ops [] none in
      may_get-allowed (s.hist.blocks r.at) (Data bytes) is.undirty
      (subst (λ (v : Value). list_any (same_value v) (allowed (s.hist.blocks r.at)) ≡ true) (is.stored before)
      (made.fits.stands before s.map made.fits.store.present.may_be (lba r.at) (within_map s (lba r.at) made.fits.size below))))
      (λ none undirty. sym (is.stored (no_strays-before s.ops [] none)))
      ((λ dirtied. untried), (λ undirty. inr (untried, ap (may_use_cache (s.settings c)) owing ∙ uses, is.known)))
      (inr (unfound, first)) made.course_is made.reply_is made.goes made.stops)
      found

  -- a stage tries the block: what its turn begins with and leaves
  pub turn_of : (d e : Server) (answer : Answer) (entries : List Entry) (reply : Option Reply) (told : Option told_end.Ended) (found : Option Payload)
      → IsMade d e answer entries reply told → newest (lba r.at) d.store.cache ≡ None → e.store.map ≡ d.store.map → e.store.ready ≡ d.store.ready
      → e.store.platter ≡ tried d.store.platter (place_of d.store.map (lba r.at)) stage found
      → KeepsBlocks d.store.map d.store.platter.ops e.store.platter.ops
      → (e.store.cache ≡ d.store.cache) ⊎ ((bytes : List ℕ) × (payload : Payload) × (found ≡ Some payload) × (value_for (lba r.at) payload ≡ Data bytes)
      × (strays e.store.platter.ops ≡ strays d.store.platter.ops → Data bytes ≡ stored d.store.map d.store.platter.ops (lba r.at))
      × (e.store.cache ≡ with_clean (lba r.at) bytes d.store.cache))
      → IsReadTurn s d e c m (course s c m settings gives moved r p rec stage) (lba r.at) (try_of (length d.store.platter.ops) (place_of s.map (lba r.at)) stage found)
  turn_of d e answer entries reply told found made undirty map_is ready_is platter_is keeps cache =
      let b : Lba = lba r.at in
      let before : ℕ = length d.store.platter.ops in
      let ops : List Op = try_of (length d.store.platter.ops) (place_of s.map (lba r.at)) stage found in
      let below : r.at < capacity s = below_capacity made.working made.left in
      let place : place_of d.store.map (lba r.at) ≡ place_of s.map (lba r.at) = ap (λ (n : DefectMap). place_of n (lba r.at)) made.fits.store.map in
      let added : e.store.platter.ops ≡ d.store.platter.ops ++ try_of (length d.store.platter.ops) (place_of s.map (lba r.at)) stage found =
      ap (λ (x : Platter). x.ops) platter_is ∙ (tried_ops d.store.platter (place_of d.store.map (lba r.at)) stage found
      ∙ ap (λ (at : Psn). d.store.platter.ops ++ try_of (length d.store.platter.ops) at stage found) place) in
      let all_ops : e.store.platter.ops ≡ s.ops ++ try_of (length d.store.platter.ops) (place_of s.map (lba r.at)) stage found =
      added ∙ ap (λ (xs : List Op). xs ++ try_of (length d.store.platter.ops) (place_of s.map (lba r.at)) stage found) made.fits.store.ops in
      let same_map : e.store.map ≡ s.map = map_is ∙ made.fits.store.map in
      let present : IsPresentMap s.map (s.ops ++ try_of (length d.store.platter.ops) (place_of s.map (lba r.at)) stage found) =
      subst (λ (xs : List Op). IsPresentMap s.map xs) all_ops (subst (λ (n : DefectMap). IsPresentMap n e.store.platter.ops) same_map made.present) in
      let kept : KeepsBlocks s.map s.ops (s.ops ++ try_of (length d.store.platter.ops) (place_of s.map (lba r.at)) stage found) =
      subst (λ (xs : List Op). KeepsBlocks s.map s.ops xs) all_ops
      (subst (λ (n : DefectMap). KeepsBlocks n s.ops e.store.platter.ops) made.fits.store.map
      (subst (λ (xs : List Op). KeepsBlocks d.store.map xs e.store.platter.ops) made.fits.store.ops keeps)) in
      record {
        fits = made.fits;
        is_in = made.is_in;
        working = made.working;
        free = made.free;
        below = below;
        quiet = try_ops s (lba r.at) (length d.store.platter.ops) stage found (ap length made.fits.store.ops) (λ q within same. ap (λ (x : Lba). x.0) (made.own q (lba r.at) (within_map s q made.fits.size within) (within_map s (lba r.at) made.fits.size below) same)) kept;
        added = added;
        present = present;
        has = λ t map_so ops_so. has_ops s t d.store e.store ops made.fits.store map_so ops_so map_is added (ap (λ (x : Platter). x.armed) platter_is) ready_is
            (is_off-try s.ops (length d.store.platter.ops) (place_of s.map (lba r.at)) stage found)
            (faults-try s.ops (length d.store.platter.ops) (place_of s.map (lba r.at)) stage found) made.present;
        cached = λ t got ops_so since_is. ⊎_elim
            (λ same. subst (λ (x : Contents). IsCached t x) (sym same) (cached_got s t d.store.cache got made.fits.cached))
            (λ new.
            let found_is : found ≡ Some new.1 = new.2 in
            let there : Contains t.since (Tried (length d.store.platter.ops) (place_of s.map (lba r.at)) stage (Some new.1)) =
            subst (λ (xs : List Op). Contains xs (Tried (length d.store.platter.ops) (place_of s.map (lba r.at)) stage (Some new.1))) (sym since_is)
            (subst (λ (o : Option Payload). Contains (s.since ++ try_of (length d.store.platter.ops) (place_of s.map (lba r.at)) stage o)
            (Tried (length d.store.platter.ops) (place_of s.map (lba r.at)) stage (Some new.1))) (sym found_is)
            (Contains-append_right s.since (try_of (length d.store.platter.ops) (place_of s.map (lba r.at)) stage (Some new.1)) _ (1, omega arith, refl))) in
            let clean : IsClean t (lba r.at) new.0 = record {
              below = subst (λ (z : Size). r.at < capacity_of z) (sym got.size) below;
              undirty = got.dirty r.at ∙ undirty_by_newest (s.hist.blocks r.at) (made.fits.cached.dirty (lba r.at) ∙ ap (option_map Data) undirty);
              known = inr (length d.store.platter.ops, place_of s.map (lba r.at), stage, new.1, there, new.3);
              stored = λ none.
                  let none_then : strays s.ops ≡ 0 = got.unstrayed none in
                  let none_after : strays e.store.platter.ops ≡ 0 = ap strays (all_ops ∙ sym ops_so) ∙ none in
                  let same : strays e.store.platter.ops ≡ strays d.store.platter.ops = none_after ∙ sym (ap strays made.fits.store.ops ∙ none_then) in
                  got.kept (lba r.at) ∙ sym (new.4 same ∙ (λ i. stored (made.fits.store.map i) (made.fits.store.ops i) (lba r.at)));
            } in
            subst (λ (x : Contents). IsCached t x) (sym new.5)
            (cached_keep t d.store.cache (lba r.at) new.0 made.keeps made.once (cached_got s t d.store.cache got made.fits.cached) clean))
            cache;
        laws = made.laws;
      }

  -- what a try leaves of the cache
  abbrev Cached : (d e : Server) (found : Option Payload) → Type 0
  Cached d e found = (e.store.cache ≡ d.store.cache) ⊎ ((bytes : List ℕ) × (payload : Payload) × (found ≡ Some payload) × (value_for (lba r.at) payload ≡ Data bytes)
      × (strays e.store.platter.ops ≡ strays d.store.platter.ops → Data bytes ≡ stored d.store.map d.store.platter.ops (lba r.at))
      × (e.store.cache ≡ with_clean (lba r.at) bytes d.store.cache))

  -- where nothing newer is put, the block isn't dirty
  not_dirty : (d : Server) → Fits s d → newest (lba r.at) d.store.cache ≡ None → is_dirty (s.hist.blocks r.at) ≡ false
  not_dirty d fits undirty = undirty_by_newest (s.hist.blocks r.at) (fits.cached.dirty (lba r.at) ∙ ap (option_map Data) undirty)

  -- no stray came with the turn where none came at all
  same_strays : (d e : Server) (ops : List Op) → Fits s d → e.store.platter.ops ≡ d.store.platter.ops ++ ops → strays (s.ops ++ ops) ≡ 0
      → strays e.store.platter.ops ≡ strays d.store.platter.ops
  same_strays d e ops fits added none =
      (ap strays (added ∙ ap (λ (xs : List Op). xs ++ ops) fits.store.ops) ∙ none)
      ∙ sym (ap strays fits.store.ops ∙ no_strays-before s.ops ops none)

  stage_data : (d e : Server) (bytes : List ℕ) (payload : Payload) (entries : List Entry) (reply : Option Reply) (told : Option told_end.Ended)
      → IsMade d e (Got (Data bytes)) entries reply told → newest (lba r.at) d.store.cache ≡ None → value_for (lba r.at) payload ≡ Data bytes
      → (strays e.store.platter.ops ≡ strays d.store.platter.ops → Data bytes ≡ stored d.store.map d.store.platter.ops (lba r.at))
      → IsReadTurn s d e c m (course s c m settings gives moved r p rec stage) (lba r.at) (try_of (length d.store.platter.ops) (place_of s.map (lba r.at)) stage (Some payload))
      → Moves (Work c) s d e entries told
  stage_data d e bytes payload entries reply told made undirty value stored_is turn =
      let before : ℕ = length d.store.platter.ops in
      let ops : List Op = try_of (length d.store.platter.ops) (place_of s.map (lba r.at)) stage (Some payload) in
      let at : Psn = place_of s.map (lba r.at) in
      let trying : IsTrying (view s c) r p = made.working.at_block in
      let clean : is_dirty (s.hist.blocks r.at) ≡ false = not_dirty d made.fits undirty in
      let stored_so : strays (s.ops ++ ops) ≡ 0 → Data bytes ≡ stored s.map s.ops (lba r.at) = λ none.
      stored_is (same_strays d e ops made.fits turn.added none) ∙ (λ i. stored (made.fits.store.map i) (made.fits.store.ops i) (lba r.at)) in
      let shown : FoundByStages (s.windows c ++ ops) at (s.settings c).retry (lba r.at) (Data bytes) =
      subst (λ (n : ℕ). FoundByStages (s.windows c ++ ops) at n (lba r.at) (Data bytes)) trying.retry
      (found-next (s.windows c) before at p.retry p.failed stage payload (lba r.at) (Data bytes) (next_stage-at p stage made.next_is).1 trying.failed value) in
      got_data s c m settings gives moved r p rec stage d e a bytes ops entries reply told turn made.next_is made.left
      (clean_there r.through (is_dirty (s.hist.blocks r.at)) clean)
      (λ none. may_get-allowed (s.hist.blocks r.at) (Data bytes) clean
      (subst (λ (v : Value). list_any (same_value v) (allowed (s.hist.blocks r.at)) ≡ true) (sym (stored_so none))
      (made.fits.stands (no_strays-before s.ops ops none) s.map made.fits.store.present.may_be (lba r.at) (within_map s (lba r.at) made.fits.size turn.below))))
      (λ none undirtied. stored_so none)
      ((λ dirtied. absurd (true≢false (sym dirtied ∙ clean))), (λ undirtied. inl shown))
      (inl (last_found-try (s.windows c) before at stage (Some payload))) made.course_is made.reply_is made.goes made.stops

  stage_lost : (d e : Server) (payload : Payload) (entries : List Entry) (reply : Option Reply) (told : Option told_end.Ended)
      → IsMade d e (Got Lost) entries reply told → newest (lba r.at) d.store.cache ≡ None → value_for (lba r.at) payload ≡ Lost
      → IsReadTurn s d e c m (course s c m settings gives moved r p rec stage) (lba r.at) (try_of (length d.store.platter.ops) (place_of s.map (lba r.at)) stage (Some payload))
      → Moves (Work c) s d e entries told
  stage_lost d e payload entries reply told made undirty value turn =
      let before : ℕ = length d.store.platter.ops in
      let at : Psn = place_of s.map (lba r.at) in
      let ops : List Op = try_of (length d.store.platter.ops) (place_of s.map (lba r.at)) stage (Some payload) in
      let clean : is_dirty (s.hist.blocks r.at) ≡ false = not_dirty d made.fits undirty in
      let trying : IsTrying (view s c) r p = made.working.at_block in
      let shown : FoundNowhere (s.windows c ++ ops) at (s.settings c).retry (lba r.at) =
      inr (subst (λ (n : ℕ). FoundByStages (s.windows c ++ ops) at n (lba r.at) Lost) trying.retry
      (found-next (s.windows c) before at p.retry p.failed stage payload (lba r.at) Lost (next_stage-at p stage made.next_is).1 trying.failed value)) in
      got_lost s c m settings gives moved r p rec stage d e (Got Lost) ops entries reply told turn made.left
      (clean_there r.through (is_dirty (s.hist.blocks r.at)) clean)
      (λ none. may_get-lost (s.hist.blocks r.at) clean) ((λ dirtied. absurd (true≢false (sym dirtied ∙ clean))), (λ undirtied. shown)) made.course_is refl made.reply_is made.stops

  stage_nothing : (d e : Server) (entries : List Entry) (reply : Option Reply) (told : Option told_end.Ended)
      → IsMade d e Missed entries reply told → newest (lba r.at) d.store.cache ≡ None
      → IsReadTurn s d e c m (course s c m settings gives moved r p rec stage) (lba r.at) (try_of (length d.store.platter.ops) (place_of s.map (lba r.at)) stage None)
      → Moves (Work c) s d e entries told
  stage_nothing d e entries reply told made undirty turn =
      let before : ℕ = length d.store.platter.ops in
      let at : Psn = place_of s.map (lba r.at) in
      let ops : List Op = try_of (length d.store.platter.ops) (place_of s.map (lba r.at)) stage None in
      let trying : IsTrying (view s c) r p = made.working.at_block in
      let clean : is_dirty (s.hist.blocks r.at) ≡ false = not_dirty d made.fits undirty in
      let place = next_stage-at p stage made.next_is in
      ⊎_elim
      (λ (last : is_none (next_stage (answered p false)) ≡ true).
      let all : FoundNowhere (s.windows c ++ ops) at p.retry (lba r.at) =
      failed-all (s.windows c) before at p.retry p.failed stage (lba r.at) place.1 (none_left p place.0 last) trying.failed in
      let shown : FoundNowhere (s.windows c ++ ops) at (s.settings c).retry (lba r.at) =
      subst (λ (n : ℕ). FoundNowhere (s.windows c ++ ops) at n (lba r.at)) trying.retry all in
      let lost : (after (course s c m settings gives moved r p rec stage) Missed).plan ≡ Unread r.at = ap (λ (b : Bool). cond b (Unread r.at) (Reading r)) last in
      got_lost s c m settings gives moved r p rec stage d e Missed ops entries reply told turn made.left
      (clean_there r.through (is_dirty (s.hist.blocks r.at)) clean)
      (λ none. may_get-lost (s.hist.blocks r.at) clean) ((λ dirtied. absurd (true≢false (sym dirtied ∙ clean))), (λ undirtied. shown)) made.course_is lost made.reply_is made.stops)
      (λ (one_left : is_none (next_stage (answered p false)) ≡ false).
      missed s c m settings gives moved r p rec stage d e a before entries reply told turn made.next_is made.left clean one_left made.reply_is made.goes)
      (cases_Bool (is_none (next_stage (answered p false))))

  -- what a try is known by
  pub record TriedWith (d e : Server) (answer : Answer) (found : Option Payload) : Type 0 where
    pub answered : answer ≡ answer_of (try_answer (lba r.at) found)
    pub undirty : newest (lba r.at) d.store.cache ≡ None
    pub map : e.store.map ≡ d.store.map
    pub ready : e.store.ready ≡ d.store.ready
    pub platter : e.store.platter ≡ tried d.store.platter (place_of d.store.map (lba r.at)) stage found
    pub cache : (e.store.cache ≡ d.store.cache) ⊎ ((bytes : List ℕ) × (answer ≡ Got (Data bytes)) × (e.store.cache ≡ with_clean (lba r.at) bytes d.store.cache))
    pub stored_is : (v : Value) → answer ≡ Got v → strays e.store.platter.ops ≡ strays d.store.platter.ops → v ≡ stored d.store.map d.store.platter.ops (lba r.at)
    pub keeps : d.store.ready ≡ true → KeepsBlocks d.store.map d.store.platter.ops e.store.platter.ops

  by_value : (d e : Server) (payload : Payload) (v : Value) (entries : List Entry) (reply : Option Reply) (told : Option told_end.Ended)
      → IsMade d e (Got v) entries reply told → TriedWith d e (Got v) (Some payload) → value_for (lba r.at) payload ≡ v → Moves (Work c) s d e entries told
  by_value d e payload (Data bytes) entries reply told made is value =
      let cached : Cached d e (Some payload) = ⊎_elim (λ same. inl same)
      (λ new. let one : new.0 ≡ bytes = (let both : Got (Data new.0) ≡ Got (Data bytes) = sym new.1 in cc) in
      inr (
        bytes,
        payload,
        refl,
        value,
        is.stored_is (Data bytes) refl,
        subst (λ (ys : List ℕ). e.store.cache ≡ with_clean (lba r.at) ys d.store.cache) one new.2,
      )) is.cache in
      stage_data d e bytes payload entries reply told made is.undirty value (is.stored_is (Data bytes) refl)
      (turn_of d e (Got (Data bytes)) entries reply told (Some payload) made is.undirty is.map is.ready is.platter (is.keeps made.fits.store.ready) cached)
  by_value d e payload Lost entries reply told made is value =
      let cached : Cached d e (Some payload) = ⊎_elim (λ same. inl same) (λ new. absurd (let both : Got Lost ≡ Got (Data new.0) = new.1 in cc)) is.cache in
      stage_lost d e payload entries reply told made is.undirty value
      (turn_of d e (Got Lost) entries reply told (Some payload) made is.undirty is.map is.ready is.platter (is.keeps made.fits.store.ready) cached)

  by_found : (d e : Server) (answer : Answer) (found : Option Payload) (entries : List Entry) (reply : Option Reply) (told : Option told_end.Ended)
      → IsMade d e answer entries reply told → TriedWith d e answer found → Moves (Work c) s d e entries told
  by_found d e answer None entries reply told made is =
      let made_so : IsMade d e Missed entries reply told = subst (λ (x : Answer). IsMade d e x entries reply told) is.answered made in
      let cached : Cached d e None = ⊎_elim (λ same. inl same) (λ new. absurd (let both : Missed ≡ Got (Data new.0) = sym is.answered ∙ new.1 in cc)) is.cache in
      stage_nothing d e entries reply told made_so is.undirty
      (turn_of d e Missed entries reply told None made_so is.undirty is.map is.ready is.platter (is.keeps made_so.fits.store.ready) cached)
  by_found d e answer (Some payload) entries reply told made is =
      by_value d e payload (value_for (lba r.at) payload) entries reply told
      (subst (λ (x : Answer). IsMade d e x entries reply told) is.answered made)
      (subst (λ (x : Answer). TriedWith d e x (Some payload)) is.answered is) refl

  -- whatever is found
  pub whatever : (d e : Server) (answer : Answer) (entries : List Entry) (reply : Option Reply) (told : Option told_end.Ended)
      → IsMade d e answer entries reply told → IsTaken d.store sought answer e.store → Moves (Work c) s d e entries told
  whatever d e answer entries reply told made is =
      ⊎_elim
      (λ (found : IsLooked d.store (search_for sought) is.seen e.store).
      looked d e found.bytes entries reply told (subst (λ (x : Answer). IsMade d e x entries reply told) (is.answered ∙ ap answer_of found.answered) made)
      found.not_medium found.first found.found found.after)
      (λ (found : IsUngiven d.store.cache (search_for sought) × IsStageTried d.store (lba r.at) stage gives is.seen e.store).
      by_found d e answer found.1.found entries reply told made (record {
        answered = is.answered ∙ ap answer_of found.1.answered;
        undirty = found.1.undirty;
        map = ap (λ (x : Contained). x.map) found.1.after;
        ready = ap (λ (x : Contained). x.ready) found.1.after;
        platter = ap (λ (x : Contained). x.platter) found.1.after;
        cache = kept_or_same gives (lba r.at) is.seen answer d.store.cache e.store.cache is.answered found.1.cache;
        stored_is = λ v got. found.1.stored v (found_by is.seen v (sym is.answered ∙ got));
        keeps = found.1.keeps_blocks;
      }))
      is.sought
