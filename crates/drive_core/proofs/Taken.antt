-- A turn of a read moves the parts of a drive, whatever it finds.
use Rattle.std.proofs.Common.{◌≡◌, ℕ, ◌+◌, ◌<◌, Bool, true, false, not, cond, eqb, ltb, List, [], ◌∷◌, ◌++◌, length, Option, Some, None, refl, sym, ap, ◌∙◌, subst, arith, ⊎_elim, ◌⊎◌}
use Rattle.std.specs.Prelude.{◌&&◌}
use Rattle.std.specs.Option.{is_none, option_and_then}
use Rattle.std.proofs.lemmas.Bool.{lt-ltb, ltb-true, ltb-false, or_right, cases_Bool, cases_eq}
use Rattle.disk_base.specs.At.{put_at}
use Rattle.disk_base.specs.declared.address.Lba.{Lba}
use Rattle.disk_base.specs.declared.block.Value.{Value}
use Rattle.disk_base.specs.declared.block.Value.TheVariants.{Data, Lost}
use Rattle.disk_base.specs.declared.stage.Stage.{Stage}
use Rattle.platter_model.specs.declared.op.Op.{Op}
use Rattle.platter_model.specs.TrueLog.{strays}
use Rattle.mode_pages.specs.declared.settings.Settings.{Settings}
use Rattle.sense_data.specs.declared.reply.Reply.{Reply}
use Rattle.geometry_map.specs.DefectMap.{place_of}
use Rattle.task_set.specs.declared.member.Member.{Member}
use Rattle.task_set.specs.Members.{member_of}
use Rattle.read_recovery.specs.Stages.{Progress, begun, next_stage, answered, stages_of}
use Rattle.sector_store.specs.Shapes.{try_of}
use Rattle.sector_store.specs.Stored.{stored}
use Rattle.cdb_reader.specs.Replies.{unrecovered_read}
use Rattle.cdb_reader.specs.declared.plan.Reading as reading
use Rattle.cdb_reader.specs.declared.plan.Plan.{Plan}
use Rattle.cdb_reader.specs.declared.plan.Plan.TheVariants.{Reading, Unread, Over}
use Rattle.cdb_reader.specs.declared.plan.Deed.TheVariants as deed
use Rattle.cdb_reader.specs.Plan.{next}
use Rattle.command_engine.specs.declared.answer.Answer.{Answer}
use Rattle.command_engine.specs.declared.answer.Answer.TheVariants.{Got, Missed}
use Rattle.command_engine.specs.declared.step.Recovery.{Recovery}
use Rattle.command_engine.specs.declared.step.Step.{Step}
use Rattle.command_engine.specs.declared.step.Step.TheVariants.{Trying}
use Rattle.command_engine.specs.Course.{Course}
use Rattle.command_engine.specs.Ending.{ending_of, ending_by, report_of, stays_dirty}
use Rattle.command_engine.specs.Standing.{IsCourse}
use Rattle.command_engine.specs.Answers.{after, with_page}
use Rattle.command_engine.specs.Laws.{EndsByThePlan}
use Rattle.block_machine.specs.declared.array.BlockState.{BlockState}
use Rattle.block_machine.specs.declared.entry.Entry.{Entry}
use Rattle.block_machine.specs.declared.entry.Entry.TheVariants.{Get, Ended}
use Rattle.block_machine.specs.declared.turn.Label.TheVariants.{Work}
use Rattle.block_machine.specs.Blocks.{Blocks, is_dirty, may_get, after_get}
use Rattle.block_machine.specs.Blocks as blocks
use Rattle.block_machine.specs.Steps as steps
use Rattle.block_machine.specs.Deeds.{names_dirty}
use Rattle.block_machine.specs.Entries.{ends_as_told}
use Rattle.drive_core.specs.declared.accepted.Accepted.{Accepted}
use Rattle.drive_core.specs.declared.server.Server.{Server}
use Rattle.drive_scene.specs.declared.answer.Ended as told_end
use Rattle.drive_scene.specs.Scene.{Scene, capacity, beat}
use Rattle.drive_scene.specs.After.{last_found}
use Rattle.drive_scene.specs.Holds.{held_by_plan, holder_besides}
use Rattle.drive_scene.specs.Evidence.{lba, IsEndShown, IsGot, IsNextTry, FailedBelow}
use Rattle.drive_scene.specs.View.{view}
use Rattle.drive_core.specs.Commands.{IsWorking, IsOwnRecovery, IsTrying}
use Rattle.drive_scene.specs.Present.{IsPresentMap}
use Rattle.drive_core.specs.Fits.{HasOps, IsCached, Fits}
use Rattle.drive_core.specs.Moves.{Moves}
use Rattle.drive_scene.proofs.Tables.{put_at-own, put_at-other}
use Rattle.drive_scene.proofs.Gets.{is_dirty-after_get, newest-after_get}
use Rattle.drive_scene.proofs.Tries.{no_strays-before, one_left, failed-next, next_stage-at}
use Rattle.drive_core.proofs.Parts.{IsGotOnly}
use Rattle.drive_scene.specs.Half.{Half}
use Rattle.drive_scene.proofs.Apart.{holds_none, holds_next}
use Rattle.drive_scene.proofs.Elsewhere.{after_half, after_end}
use Rattle.drive_core.proofs.Fitting.{fits_on, fits_end}
use Rattle.drive_core.proofs.Closing.{Goes, Stops, may_end, told_report, moves_on, moves_end}
use Rattle.drive_scene.specs.Kinds.{AreQuietAt, got_state}
use Rattle.drive_scene.specs.Laws.{HalvesAreGood, TriesAreHalves, GetsAreHalves}
use Rattle.drive_core.proofs.ReadTurns.{window-got, next-got, next-lost, course, recovered-is, own-recovered, staged-got, staged-none}
use Rattle.drive_core.proofs.Windows.{room_of}
use Rattle.drive_scene.specs.GoodTurn.{is_try}
use Rattle.std.specs.List.{list_any}

-- a block and all others after a get
at_block : {V : Type 0} (f : BlockState → V) (blocks_then : Blocks) (b : ℕ) (v : Value) → f (after_get (blocks_then b) v) ≡ f (blocks_then b)
    → (n : ℕ) → f (put_at b (after_get (blocks_then b) v) blocks_then n) ≡ f (blocks_then n)
at_block f blocks_then b v same n =
    ⊎_elim (λ (here : n ≡ b). subst (λ (k : ℕ). f (put_at b (after_get (blocks_then b) v) blocks_then k) ≡ f (blocks_then k)) (sym here)
    (ap f (put_at-own b (after_get (blocks_then b) v) blocks_then) ∙ same))
    (λ (other : n ≡ b → ⊥). ap f (put_at-other b n (after_get (blocks_then b) v) blocks_then other))
    (cases_eq n b)

-- a scene after a get, with or without the command's end
got_only : (s t : Scene) (b : Lba) (v : Value) (ops : List Op) (more : List Entry) → AreQuietAt s b ops → IsPresentMap s.map (s.ops ++ ops)
    → t.size ≡ s.size → t.map ≡ s.map → t.ops ≡ s.ops ++ ops → t.since ≡ s.since ++ ops → t.entries ≡ s.entries ++ more → t.hist.dirty ≡ s.hist.dirty
    → t.hist.blocks ≡ put_at b.0 (after_get (s.hist.blocks b.0) v) s.hist.blocks → IsGotOnly s t
got_only s t b v ops more quiet present size_is map_is ops_is since_is entries_is order blocks_are = record {
  size = size_is;
  map = map_is;
  newest = λ n. ap (λ (bs : Blocks). blocks.newest (bs n)) blocks_are ∙ at_block blocks.newest s.hist.blocks b.0 v (newest-after_get (s.hist.blocks b.0) v) n;
  dirty = λ n. ap (λ (bs : Blocks). is_dirty (bs n)) blocks_are ∙ at_block is_dirty s.hist.blocks b.0 v (is_dirty-after_get (s.hist.blocks b.0) v) n;
  order = order;
  more_entries = more;
  entries = entries_is;
  more_ops = ops;
  since = since_is;
  unstrayed = λ none. no_strays-before s.ops ops (ap strays (sym ops_is) ∙ none);
  kept = λ q. (λ i. stored (map_is i) (ops_is i) q) ∙ quiet.keeps s.map present.may_be q;
}

-- a scene after a turn without an entry
tried_only : (s t : Scene) (b : Lba) (ops : List Op) → AreQuietAt s b ops → IsPresentMap s.map (s.ops ++ ops)
    → t.size ≡ s.size → t.map ≡ s.map → t.ops ≡ s.ops ++ ops → t.since ≡ s.since ++ ops → t.entries ≡ s.entries ++ [] → t.hist.dirty ≡ s.hist.dirty
    → t.hist.blocks ≡ s.hist.blocks → IsGotOnly s t
tried_only s t b ops quiet present size_is map_is ops_is since_is entries_is order blocks_are = record {
  size = size_is;
  map = map_is;
  newest = λ n. ap (λ (bs : Blocks). blocks.newest (bs n)) blocks_are;
  dirty = λ n. ap (λ (bs : Blocks). is_dirty (bs n)) blocks_are;
  order = order;
  more_entries = [];
  entries = entries_is;
  more_ops = ops;
  since = since_is;
  unstrayed = λ none. no_strays-before s.ops ops (ap strays (sym ops_is) ∙ none);
  kept = λ q. (λ i. stored (map_is i) (ops_is i) q) ∙ quiet.keeps s.map present.may_be q;
}

-- the laws by which a turn of a read is a good one
pub record ReadLaws : Type 0 where
  pub plan : EndsByThePlan
  pub halves : HalvesAreGood
  pub tries : TriesAreHalves
  pub gets : GetsAreHalves

-- what a turn of a read begins with, and what it leaves of the store
pub record IsReadTurn (s : Scene) (d e : Server) (c : ℕ) (m : Member) (w : Course) (b : Lba) (ops : List Op) : Type 0 where
  pub fits : Fits s d
  pub is_in : member_of s.hist.set c ≡ Some m
  pub working : IsWorking (view s c) m w
  pub free : holder_besides s (Work c) b.0 ≡ None
  pub below : b.0 < capacity s
  pub quiet : AreQuietAt s b ops
  pub added : e.store.platter.ops ≡ d.store.platter.ops ++ ops
  pub present : IsPresentMap s.map (s.ops ++ ops)
  pub has : (t : Scene) → t.map ≡ s.map → t.ops ≡ s.ops ++ ops → HasOps t e.store
  pub cached : (t : Scene) → IsGotOnly s t → t.ops ≡ s.ops ++ ops → t.since ≡ s.since ++ ops → IsCached t e.store.cache
  pub laws : ReadLaws

module _ (s : Scene) (c : ℕ) (m : Member) (settings : Settings) (gives : Bool) (moved : ℕ) (r : reading.Reading) (p : Progress) (rec : Option Recovery) (stage : Stage) where
  -- the command gets data
  pub got_data : (d e : Server) (a : Accepted) (bytes : List ℕ) (ops : List Op) (entries : List Entry) (reply : Option Reply) (told : Option told_end.Ended)
      → IsReadTurn s d e c m (course s c m settings gives moved r p rec stage) (lba r.at) ops → next_stage p ≡ Some stage → r.at < r.end
      → (r.through && is_dirty (s.hist.blocks r.at)) ≡ false
      → (strays (s.ops ++ ops) ≡ 0 → may_get (s.hist.blocks r.at) (Data bytes) ≡ true)
      → (strays (s.ops ++ ops) ≡ 0 → is_dirty (s.hist.blocks r.at) ≡ false → Data bytes ≡ stored s.map s.ops (lba r.at))
      → IsGot s (s.windows c ++ ops) (s.settings c) (steps.begun s.hist (Work c)) c (lba r.at) (Data bytes)
      → (last_found (s.windows c ++ ops) ≡ Some stage) ⊎ ((last_found (s.windows c ++ ops) ≡ None) × (stage.number ≡ 0))
      → IsCourse (after (course s c m settings gives moved r p rec stage) (Got (Data bytes)))
      → reply ≡ ending_of (after (course s c m settings gives moved r p rec stage) (Got (Data bytes)))
      → (reply ≡ None → Goes d e c (record a { work = Some (after (course s c m settings gives moved r p rec stage) (Got (Data bytes))) }) (Get c (lba r.at) (Data bytes) ∷ []) entries told)
      → ((x : Reply) → reply ≡ Some x → Stops d e c x (Get c (lba r.at) (Data bytes) ∷ []) entries told)
      → Moves (Work c) s d e entries told
  got_data d e a bytes ops entries reply told turn next_is left clean allows is shown by course_is reply_is goes stops =
      let next_plan : Plan = Reading (record r { at = r.at + 1; hardened = false }) in
      let half : Half s c ops (Get c (lba r.at) (Data bytes) ∷ []) (got_state s c (lba r.at) (Data bytes)) (Reading (record r { at = r.at + 1; hardened = false })) =
      turn.laws.gets s c m (Reading r) (Reading (record r { at = r.at + 1; hardened = false })) (lba r.at) (Data bytes) ops turn.is_in turn.working.owes turn.below
      turn.fits.store.present turn.fits.stands turn.free turn.quiet (next-got r bytes (is_dirty (s.hist.blocks r.at)) left clean) allows
      (λ none ys same undirty. is none undirty) shown in
      ⊎_elim
      (λ (more : ltb (r.at + 1) r.end ≡ true).
      let t : Scene = after_half s c ops (Get c (lba r.at) (Data bytes) ∷ []) in
      let on : reply ≡ None = reply_is
      ∙ ap (λ (x : Bool). cond x None (Some (report_of r.reports (after (course s c m settings gives moved r p rec stage) (Got (Data bytes))).recovered))) more in
      let got : Goes d e c (record a { work = Some (after (course s c m settings gives moved r p rec stage) (Got (Data bytes))) }) (Get c (lba r.at) (Data bytes) ∷ []) entries told = goes on in
      moves_on s c ops (Get c (lba r.at) (Data bytes) ∷ []) entries (got_state s c (lba r.at) (Data bytes)) (Reading (record r { at = r.at + 1; hardened = false })) d e
      (record a { work = Some (after (course s c m settings gives moved r p rec stage) (Got (Data bytes))) }) told half
      (turn.laws.halves.on s c ops (Get c (lba r.at) (Data bytes) ∷ []) (got_state s c (lba r.at) (Data bytes)) (Reading (record r { at = r.at + 1; hardened = false })) (room_of s c d turn.fits) turn.present half (or_right (not (list_any is_try ops)) true refl) refl
      (or_right (not (eqb (length ops) 0)) true refl))
      (fits_on s c ops (Get c (lba r.at) (Data bytes) ∷ []) (got_state s c (lba r.at) (Data bytes)) (Reading (record r { at = r.at + 1; hardened = false })) d e
      (record a { work = Some (after (course s c m settings gives moved r p rec stage) (Got (Data bytes))) }) half turn.fits got.set got.arrived got.known got.replaces
      (turn.has t refl refl)
      (turn.cached t (got_only s t (lba r.at) (Data bytes) ops (Get c (lba r.at) (Data bytes) ∷ []) turn.quiet turn.present refl refl refl refl refl refl refl) refl refl)
      (staged-got s c m settings gives moved r p rec stage a bytes ops turn.is_in turn.working next_is left clean by (ltb-true (r.at + 1) r.end more))
      (holds_none s c (t.windows c) (Reading (record r { at = r.at + 1; hardened = false }))
      (ap (λ (w : List Op). held_by_plan w (Reading (record r { at = r.at + 1; hardened = false }))) (window-got s c m settings gives moved r p rec stage (Data bytes) ops))))
      got turn.added refl)
      (λ (last : ltb (r.at + 1) r.end ≡ false).
      let x : Reply = report_of r.reports (after (course s c m settings gives moved r p rec stage) (Got (Data bytes))).recovered in
      let over : reply ≡ Some (report_of r.reports (after (course s c m settings gives moved r p rec stage) (Got (Data bytes))).recovered) = reply_is
      ∙ ap (λ (y : Bool). cond y None (Some (report_of r.reports (after (course s c m settings gives moved r p rec stage) (Got (Data bytes))).recovered))) last in
      let t : Scene = after_end s c ops (Get c (lba r.at) (Data bytes) ∷ []) x in
      let ended : Stops d e c (report_of r.reports (after (course s c m settings gives moved r p rec stage) (Got (Data bytes))).recovered) (Get c (lba r.at) (Data bytes) ∷ []) entries told = stops _ over in
      let own : IsOwnRecovery ((got_state s c (lba r.at) (Data bytes)).duties c).asks (after (course s c m settings gives moved r p rec stage) (Got (Data bytes))).recovered =
      subst (λ q. IsOwnRecovery q (after (course s c m settings gives moved r p rec stage) (Got (Data bytes))).recovered) (sym half.quiet.asks)
      (own-recovered s c m settings gives moved r p rec stage bytes (s.hist.duties c).asks left next_is turn.working.own_range turn.working.own_recovery) in
      let told_so : ends_as_told (Some (Reading (record r { at = r.at + 1; hardened = false }))) ((got_state s c (lba r.at) (Data bytes)).duties c)
      (report_of r.reports (after (course s c m settings gives moved r p rec stage) (Got (Data bytes))).recovered) ≡ true =
      told_report (record r { at = r.at + 1; hardened = false }) r.reports (after (course s c m settings gives moved r p rec stage) (Got (Data bytes))).recovered
      ((got_state s c (lba r.at) (Data bytes)).duties c) own in
      let shown_so : IsEndShown s (beat (Work c) (Get c (lba r.at) (Data bytes) ∷ Ended c (report_of r.reports (after (course s c m settings gives moved r p rec stage) (Got (Data bytes))).recovered) ∷ []) ops) c
      (Some (Reading (record r { at = r.at + 1; hardened = false }))) (report_of r.reports (after (course s c m settings gives moved r p rec stage) (Got (Data bytes))).recovered) = (
        λ at_end. ap (report_of r.reports) (sym (recovered-is s c m settings gives moved r p rec stage bytes ops next_is turn.working.recovered by)),
        λ more. absurd (omega (arith, ltb-false (r.at + 1) r.end last)),
      ) in
      moves_end s c ops (Get c (lba r.at) (Data bytes) ∷ []) entries (got_state s c (lba r.at) (Data bytes)) (Reading (record r { at = r.at + 1; hardened = false })) d e x told half
      (turn.laws.halves.over s c ops (Get c (lba r.at) (Data bytes) ∷ []) (got_state s c (lba r.at) (Data bytes)) (Reading (record r { at = r.at + 1; hardened = false })) Over x (room_of s c d turn.fits) turn.present half (or_right (not (list_any is_try ops)) true refl)
      (may_end (after (course s c m settings gives moved r p rec stage) (Got (Data bytes))) x (names_dirty (got_state s c (lba r.at) (Data bytes)) x) turn.laws.plan course_is
      (sym reply_is ∙ over) (λ never. absurd (cc)) refl)
      told_so shown_so)
      (fits_end s c ops (Get c (lba r.at) (Data bytes) ∷ []) (got_state s c (lba r.at) (Data bytes)) (Reading (record r { at = r.at + 1; hardened = false })) x d e half turn.fits ended.left
      (turn.has t refl refl)
      (turn.cached t (got_only s t (lba r.at) (Data bytes) ops (Get c (lba r.at) (Data bytes) ∷ Ended c x ∷ []) turn.quiet turn.present refl refl refl refl refl refl refl) refl refl))
      ended turn.fits turn.added refl)
      (cases_Bool (ltb (r.at + 1) r.end))

  -- the block is lost
  pub got_lost : (d e : Server) (answer : Answer) (ops : List Op) (entries : List Entry) (reply : Option Reply) (told : Option told_end.Ended)
      → IsReadTurn s d e c m (course s c m settings gives moved r p rec stage) (lba r.at) ops → r.at < r.end → (r.through && is_dirty (s.hist.blocks r.at)) ≡ false
      → (strays (s.ops ++ ops) ≡ 0 → may_get (s.hist.blocks r.at) Lost ≡ true)
      → IsGot s (s.windows c ++ ops) (s.settings c) (steps.begun s.hist (Work c)) c (lba r.at) Lost
      → IsCourse (after (course s c m settings gives moved r p rec stage) answer)
      → (after (course s c m settings gives moved r p rec stage) answer).plan ≡ Unread r.at
      → reply ≡ ending_of (after (course s c m settings gives moved r p rec stage) answer)
      → ((x : Reply) → reply ≡ Some x → Stops d e c x (Get c (lba r.at) Lost ∷ []) entries told)
      → Moves (Work c) s d e entries told
  got_lost d e answer ops entries reply told turn left clean allows shown course_is plan_is reply_is stops =
      let next_course : Course = after (course s c m settings gives moved r p rec stage) answer in
      let x : Reply = unrecovered_read r.at in
      let half : Half s c ops (Get c (lba r.at) Lost ∷ []) (got_state s c (lba r.at) Lost) (Unread r.at) =
      turn.laws.gets s c m (Reading r) (Unread r.at) (lba r.at) Lost ops turn.is_in turn.working.owes turn.below
      turn.fits.store.present turn.fits.stands turn.free turn.quiet (next-lost r (is_dirty (s.hist.blocks r.at)) left clean) allows
      (λ none ys same undirty. absurd (cc)) shown in
      let over : reply ≡ Some (unrecovered_read r.at) = reply_is
      ∙ ap (λ (q : Plan). ending_by q (after (course s c m settings gives moved r p rec stage) answer).moved (after (course s c m settings gives moved r p rec stage) answer).step (after (course s c m settings gives moved r p rec stage) answer).recovered) plan_is in
      let t : Scene = after_end s c ops (Get c (lba r.at) Lost ∷ []) (unrecovered_read r.at) in
      let ended : Stops d e c (unrecovered_read r.at) (Get c (lba r.at) Lost ∷ []) entries told = stops (unrecovered_read r.at) over in
      let never_dirty : (q : Plan) (step : Step) (dirty : Bool) → q ≡ Unread r.at → stays_dirty q step ≡ true → dirty ≡ true =
      λ q step dirty is stays. let no : stays_dirty (Unread r.at) step ≡ true = subst (λ (z : Plan). stays_dirty z step ≡ true) is stays in absurd (cc) in
      let may : next (Unread r.at) (deed.Ended (unrecovered_read r.at) (names_dirty (got_state s c (lba r.at) Lost) (unrecovered_read r.at))) ≡ Some Over =
      subst (λ (q : Plan). next q (deed.Ended (unrecovered_read r.at) (names_dirty (got_state s c (lba r.at) Lost) (unrecovered_read r.at))) ≡ Some Over) plan_is
      (may_end (after (course s c m settings gives moved r p rec stage) answer) (unrecovered_read r.at) (names_dirty (got_state s c (lba r.at) Lost) (unrecovered_read r.at)) turn.laws.plan course_is
      (sym reply_is ∙ over) (never_dirty (after (course s c m settings gives moved r p rec stage) answer).plan (after (course s c m settings gives moved r p rec stage) answer).step _ plan_is)
      (subst (λ (q : Plan). with_page [] q ≡ q) (sym plan_is) refl)) in
      moves_end s c ops (Get c (lba r.at) Lost ∷ []) entries (got_state s c (lba r.at) Lost) (Unread r.at) d e (unrecovered_read r.at) told half
      (turn.laws.halves.over s c ops (Get c (lba r.at) Lost ∷ []) (got_state s c (lba r.at) Lost) (Unread r.at) Over (unrecovered_read r.at) (room_of s c d turn.fits) turn.present half (or_right (not (list_any is_try ops)) true refl) may refl tt)
      (fits_end s c ops (Get c (lba r.at) Lost ∷ []) (got_state s c (lba r.at) Lost) (Unread r.at) (unrecovered_read r.at) d e half turn.fits ended.left
      (turn.has t refl refl)
      (turn.cached t (got_only s t (lba r.at) Lost ops (Get c (lba r.at) Lost ∷ Ended c (unrecovered_read r.at) ∷ []) turn.quiet turn.present refl refl refl refl refl refl refl) refl refl))
      ended turn.fits turn.added refl

  -- the stage found nothing, and another is left
  pub missed : (d e : Server) (a : Accepted) (before : ℕ) (entries : List Entry) (reply : Option Reply) (told : Option told_end.Ended)
      → IsReadTurn s d e c m (course s c m settings gives moved r p rec stage) (lba r.at) (try_of before (place_of s.map (lba r.at)) stage None)
      → next_stage p ≡ Some stage → r.at < r.end → is_dirty (s.hist.blocks r.at) ≡ false → is_none (next_stage (answered p false)) ≡ false
      → reply ≡ ending_of (after (course s c m settings gives moved r p rec stage) Missed)
      → (reply ≡ None → Goes d e c (record a { work = Some (after (course s c m settings gives moved r p rec stage) Missed) }) [] entries told)
      → Moves (Work c) s d e entries told
  missed d e a before entries reply told turn next_is left undirty one_left_so reply_is goes =
      let ops : List Op = try_of before (place_of s.map (lba r.at)) stage None in
      let half : Half s c (try_of before (place_of s.map (lba r.at)) stage None) [] (steps.begun s.hist (Work c)) (Reading r) =
      turn.laws.tries s c m (Reading r) (lba r.at) (try_of before (place_of s.map (lba r.at)) stage None) turn.is_in turn.working.owes
      turn.fits.store.present turn.fits.stands turn.free turn.quiet in
      let on : reply ≡ None = reply_is
      ∙ (ap (λ (b : Bool). ending_by (cond b (Unread r.at) (Reading r)) moved (cond b (Trying (begun settings.retry)) (Trying (answered p false))) rec) one_left_so
      ∙ ap (λ (b : Bool). cond b None (Some (report_of r.reports rec))) (lt-ltb r.at r.end left)) in
      let trying : IsTrying (view s c) r p = turn.working.at_block in
      let here = next_stage-at p stage next_is in
      let next_try : IsNextTry s c (try_of before (place_of s.map (lba r.at)) stage None) = (
        r,
        p.failed + 1,
        ap (λ (o : Option Member). option_and_then (λ (x : Member). (s.hist.duties c).owes) o) turn.is_in ∙ turn.working.owes,
        left,
        undirty,
        subst (λ (n : ℕ). p.failed + 1 < length (stages_of n)) trying.retry (one_left p here.0 one_left_so),
        subst (λ (n : ℕ). FailedBelow (s.windows c ++ try_of before (place_of s.map (lba r.at)) stage None) (place_of s.map (lba r.at)) n (p.failed + 1)) trying.retry
            (failed-next (s.windows c) before (place_of s.map (lba r.at)) p.retry p.failed stage here.1 trying.failed),
      ) in
      let t : Scene = after_half s c (try_of before (place_of s.map (lba r.at)) stage None) [] in
      let got : Goes d e c (record a { work = Some (after (course s c m settings gives moved r p rec stage) Missed) }) [] entries told = goes on in
      moves_on s c ops [] entries (steps.begun s.hist (Work c)) (Reading r) d e (record a { work = Some (after (course s c m settings gives moved r p rec stage) Missed) }) told half
      (turn.laws.halves.on s c ops [] (steps.begun s.hist (Work c)) (Reading r) (room_of s c d turn.fits) turn.present half next_try refl refl)
      (fits_on s c ops [] (steps.begun s.hist (Work c)) (Reading r) d e (record a { work = Some (after (course s c m settings gives moved r p rec stage) Missed) }) half turn.fits
      got.set got.arrived got.known got.replaces (turn.has t refl refl)
      (turn.cached t (tried_only s t (lba r.at) ops turn.quiet turn.present refl refl refl refl refl refl refl) refl refl)
      (staged-none s c m settings gives moved r p rec stage a before turn.is_in turn.working next_is undirty one_left_so)
      (holds_next s c (t.windows c) r turn.free))
      got turn.added refl
