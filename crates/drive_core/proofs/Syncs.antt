-- A turn of a sync, by what its cache finds dirty.
use Rattle.std.proofs.Common.{◌≡◌, ℕ, ◌<◌, ◌≤◌, Bool, true, false, cond, ltb, leb, List, [], ◌∷◌, ◌++◌, Option, Some, None, refl, sym, ap, ◌∙◌, subst, arith}
use Rattle.std.specs.Option.{option_and_then}
use Rattle.std.proofs.lemmas.Bool.{lt-ltb, le-leb, ltb-true}
use Rattle.disk_base.specs.declared.address.Lba.{Lba}
use Rattle.disk_base.specs.declared.stage.Stage.{Stage}
use Rattle.sense_data.specs.declared.reply.Reply.{Reply}
use Rattle.task_set.specs.Members.{member_of}
use Rattle.read_recovery.specs.Stages.{Progress, next_stage}
use Rattle.write_cache.specs.Contents.{dirty_within, IsLeast}
use Rattle.sector_store.specs.State.{Contained}
use Rattle.cdb_reader.specs.Replies.{good}
use Rattle.cdb_reader.specs.declared.plan.Reading as reading
use Rattle.cdb_reader.specs.declared.plan.Writing as writing
use Rattle.cdb_reader.specs.declared.plan.Syncing as syncing
use Rattle.cdb_reader.specs.declared.plan.Plan.{Plan}
use Rattle.cdb_reader.specs.declared.plan.Plan.TheVariants.{Ending, Unread, Answering, Changing, Reading, Writing, Syncing, Moving, Over}
use Rattle.command_engine.specs.declared.answer.Answer.TheVariants.{NextDirty}
use Rattle.command_engine.specs.declared.need.Need.{Need}
use Rattle.command_engine.specs.declared.need.Need.TheVariants as need
use Rattle.command_engine.specs.declared.step.Step.{Step}
use Rattle.command_engine.specs.declared.step.Step.TheVariants.{Trying, Hardening}
use Rattle.command_engine.specs.declared.step.Step.TheVariants as step
use Rattle.command_engine.specs.Course.{Course}
use Rattle.command_engine.specs.Need.{need_of, need_by, taking, taking_block, need_at_read, need_at_move, in_hand, end_of}
use Rattle.command_engine.specs.Ending.{ending_of}
use Rattle.command_engine.specs.Answers.{fits_need, after, is_hardened}
use Rattle.block_machine.specs.declared.entry.Entry.{Entry}
use Rattle.block_machine.specs.declared.entry.Entry.TheVariants.{Passed, Ended}
use Rattle.block_machine.specs.declared.turn.Label.TheVariants.{Work}
use Rattle.block_machine.specs.Blocks.{none_dirty}
use Rattle.block_machine.specs.Deeds.{names_dirty}
use Rattle.block_machine.proofs.Booleans.{and_both}
use Rattle.drive_core.specs.declared.accepted.Accepted.{Accepted}
use Rattle.drive_core.specs.declared.server.Server.{Server}
use Rattle.drive_scene.specs.declared.answer.Ended as told_end
use Rattle.drive_scene.specs.Scene.{Scene, capacity}
use Rattle.drive_scene.specs.Holds.{needed_by_plan}
use Rattle.drive_core.specs.Accepting.{accepted_of, under_way, Replaces}
use Rattle.drive_scene.specs.Ending.{ended_of_member}
use Rattle.drive_scene.specs.Evidence.{lba}
use Rattle.drive_core.specs.Fits.{Fits, IsCached}
use Rattle.drive_core.specs.Hardening.{MayHardenFor, passed_to, done_before}
use Rattle.drive_core.specs.Moves.{Moves, MayWork, Leaves}
use Rattle.drive_core.specs.Syncing.{Needs}
use Rattle.drive_scene.specs.Half.{Half}
use Rattle.drive_scene.proofs.Elsewhere.{after_end}
use Rattle.drive_core.proofs.Fitting.{fits_end}
use Rattle.drive_core.proofs.Parts.{IsGotOnly, cached_got, quiet_got}
use Rattle.drive_core.proofs.Unmoved.{has_same, none_added}
use Rattle.drive_core.proofs.Closing.{Stops, moves_end}
use Rattle.drive_core.proofs.FirstDirty.{IsFirstDirty, least_of_cache, first_dirty-is, none_of_cache, none_dirty-before, within_there}
use Rattle.drive_core.proofs.MetMoves.{owed_is}
use Rattle.drive_scene.specs.Kinds.{passed_state}
use Rattle.drive_scene.specs.Laws.{HalvesAreGood, PassesAreHalves}
use Rattle.drive_core.proofs.SyncMoves.{next-passed, next-synced}
use Rattle.drive_core.proofs.TakeTurns.{GivenBy, given_by, WorksAt, works_at, StandsAt, stands_in}
use Rattle.drive_core.proofs.Hardens.{stops_of}
use Rattle.drive_core.proofs.Windows.{room_of}
use Rattle.drive_scene.proofs.Still.{present_still}

-- a sync that needs the next dirty block
pub record NeedsPass (plan : Plan) (step : Step) (from to : Lba) : Type 0 where
  pub y : syncing.Syncing
  pub p : Progress
  pub plan_is : plan ≡ Syncing y
  pub step_is : step ≡ Trying p
  pub from_is : from ≡ lba y.at
  pub to_is : to ≡ lba y.end
  pub left : y.at < y.end

-- a need is none of a pass
abbrev IsOther : Need → Type 0
IsOther (need.Pass from to) = ⊥
IsOther other = Unit {0}

no_other : (o : Bool) (x : Need) (from to : Lba) → cond o x need.Nothing ≡ need.Pass from to → IsOther x → ⊥
no_other true x from to is other = subst IsOther is other
no_other false x from to is other = cc

taking_other : (r : reading.Reading) (o : Option Stage) → IsOther (taking r o)
taking_other r None = tt
taking_other r (Some stage) = tt

read_other : (r : reading.Reading) (step : Step) → IsOther (need_at_read r step)
read_other r (Trying p) = taking_other r (next_stage p)
read_other r Hardening = tt
read_other r other = tt

write_other : (w : writing.Writing) (t : Bool) → IsOther (cond t (need.PutThrough (lba w.at)) (need.Put (lba w.at)))
write_other w true = tt
write_other w false = tt

by_step : (y : syncing.Syncing) (p : Progress) (from to : Lba) (t : Bool) → ltb y.at y.end ≡ t
    → cond t (need.Pass (lba y.at) (lba y.end)) need.Nothing ≡ need.Pass from to → NeedsPass (Syncing y) (Trying p) from to
by_step y p from to true left is = record { y = y; p = p; plan_is = refl; step_is = refl; from_is = cc; to_is = cc; left = ltb-true y.at y.end left }
by_step y p from to false left is = absurd (cc)

-- nor is it one of a list of blocks
not_listed : (b : Lba) (o : Option Stage) (from to : Lba) → taking_block b true o ≡ need.Pass from to → ⊥
not_listed b None from to is = cc
not_listed b (Some stage) from to is = cc

no_list : (o : Option Lba) (step : Step) (from to : Lba) → need_at_move o step ≡ need.Pass from to → ⊥
no_list None step from to is = cc
no_list (Some b) (Trying p) from to is = not_listed b (next_stage p) from to is
no_list (Some b) (step.Moving why) from to is = cc
no_list (Some b) other from to is = cc

needs_pass : (plan : Plan) (moved : ℕ) (step : Step) (from to : Lba) → need_by plan moved step ≡ need.Pass from to → NeedsPass plan step from to
needs_pass (Syncing y) moved (Trying p) from to is = by_step y p from to (ltb y.at y.end) refl is
needs_pass (Syncing y) moved Hardening from to is = absurd (no_other (ltb y.at y.end) (need.Harden (lba y.at)) from to is tt)
needs_pass (Syncing y) moved other from to is = absurd (no_other (ltb y.at y.end) need.Nothing from to is tt)
needs_pass (Reading r) moved step from to is = absurd (no_other (ltb r.at r.end) (need_at_read r step) from to is (read_other r step))
needs_pass (Writing w) moved (Trying p) from to is =
    absurd (no_other (ltb w.at w.end) (cond w.through (need.PutThrough (lba w.at)) (need.Put (lba w.at))) from to is (write_other w w.through))
needs_pass (Writing w) moved Hardening from to is = absurd (no_other (ltb w.at w.end) need.Nothing from to is tt)
needs_pass (Writing w) moved other from to is = absurd (no_other (ltb w.at w.end) need.Nothing from to is tt)
needs_pass (Ending reply) moved step from to is = absurd (cc)
needs_pass (Unread at) moved step from to is = absurd (cc)
needs_pass (Answering bytes reply) moved step from to is = absurd (cc)
needs_pass Changing moved step from to is = absurd (cc)
needs_pass (Moving m) moved step from to is = absurd (no_list (in_hand m moved) step from to is)
needs_pass Over moved step from to is = absurd (cc)

-- the dirty block that the cache finds is hardened
pub may_harden : (s : Scene) (d : Server) (c : ℕ) (from to b : Lba) (entries : List Entry) → MayWork s d c → Needs d.commands.items c (need.Pass from to)
    → IsLeast (dirty_within from to d.store.cache) b → entries ≡ [] ++ passed_to c from b → MayHardenFor s d c b entries
may_harden s d c from to b entries may needs least entries_are =
    let given : GivenBy need_of (under_way d.commands.items c) (need.Pass from to) = given_by need_of (under_way d.commands.items c) (need.Pass from to) needs in
    let w : Course = given.x in
    let stands : StandsAt s c given.x = stands_in s d c given.x may.fits given.is in
    let pass : NeedsPass w.plan w.step from to = needs_pass w.plan w.moved w.step from to given.gives in
    let first : IsFirstDirty s.hist.blocks from.0 to.0 b.0 = least_of_cache s.hist.blocks d.store.cache from to b may.fits.cached.dirty least in
    let fit : fits_need w.settings.awre (is_hardened w.plan) (need.Pass from to) (NextDirty (Some b)) ≡ true =
    and_both (leb from.0 b.0) (ltb b.0 to.0) (le-leb from.0 b.0 first.low) (lt-ltb b.0 to.0 first.high) in
    record {
      may = may;
      course = w;
      under_way = given.is;
      fit = ap (λ (n : Need). fits_need w.settings.awre (is_hardened w.plan) n (NextDirty (Some b))) given.gives ∙ fit;
      needed = ap (option_and_then (needed_by_plan s.hist.blocks)) (owed_is s c stands.m w.plan stands.is_in stands.working.owes)
          ∙ (ap (needed_by_plan s.hist.blocks) pass.plan_is
          ∙ first_dirty-is s.hist.blocks pass.y.at pass.y.end b.0
          (subst (λ (n : Lba). IsFirstDirty s.hist.blocks n.0 pass.y.end b.0) pass.from_is (subst (λ (n : Lba). IsFirstDirty s.hist.blocks from.0 n.0 b.0) pass.to_is first)));
      dirty = (within_there from to b d.store.cache.dirty least.among).1;
      before = entries_are ∙ (ap (λ (n : Lba). passed_to c n b) pass.from_is ∙ ap (done_before c b) (sym pass.plan_is));
    }

-- nothing is below itself
not_below : (n : ℕ) → ltb n n ≡ false
not_below n = by (ltb n n) refl
  where
    by : (t : Bool) → ltb n n ≡ t → ltb n n ≡ false
    by true is = absurd (omega (arith, ltb-true n n is))
    by false is = is

-- where no block of the rest of the range is dirty, the sync ends
pub passes_all : (s : Scene) (d mid e : Server) (c : ℕ) (from to : Lba) (entries : List Entry) (reply : Option Reply) (told : Option told_end.Ended)
    → HalvesAreGood → PassesAreHalves → MayWork s d c → Needs d.commands.items c (need.Pass from to) → dirty_within from to d.store.cache ≡ [] → mid.store ≡ d.store → mid.set ≡ d.set
    → mid.arrived ≡ d.arrived → mid.known ≡ d.known
    → ((w : Course) → under_way d.commands.items c ≡ Some w → reply ≡ ending_of (after w (NextDirty None)))
    → ((a : Accepted) (w : Course) → accepted_of d.commands.items c ≡ Some a → a.work ≡ Some w
    → Replaces d.commands.items mid.commands.items c (record a { work = Some (after w (NextDirty None)) }))
    → ((x : Reply) → reply ≡ Some x → Leaves mid e c × (entries ≡ Passed c from to ∷ Ended c x ∷ []) × (told ≡ ended_of_member (member_of mid.set c) x))
    → Moves (Work c) s d e entries told
passes_all s d mid e c from to entries reply told halves passes may needs none store set arrived known reply_is replaces closes =
    let fits : Fits s d = may.fits in
    let given : GivenBy need_of (under_way d.commands.items c) (need.Pass from to) = given_by need_of (under_way d.commands.items c) (need.Pass from to) needs in
    let w : Course = given.x in
    let at : WorksAt (accepted_of d.commands.items c) given.x = works_at (accepted_of d.commands.items c) given.x given.is in
    let stands : StandsAt s c given.x = stands_in s d c given.x may.fits given.is in
    let pass : NeedsPass w.plan w.step from to = needs_pass w.plan w.moved w.step from to given.gives in
    let y : syncing.Syncing = pass.y in
    let done : syncing.Syncing = record pass.y { at = to.0 } in
    let from_is : from.0 ≡ pass.y.at = ap (λ (n : Lba). n.0) pass.from_is in
    let to_is : to.0 ≡ pass.y.end = ap (λ (n : Lba). n.0) pass.to_is in
    let range : pass.y.end ≤ capacity s = subst (λ (x : Plan). end_of x ≤ capacity s) pass.plan_is stands.working.range in
    let clean : none_dirty s.hist.blocks from.0 to.0 ≡ true =
    none_dirty-before s.hist.blocks from.0 to.0 (none_of_cache s.hist.blocks d.store.cache from to fits.cached.dirty none) in
    let half : Half s c [] (Passed c from to ∷ []) (passed_state s c from to) (Syncing (record pass.y { at = to.0 })) =
    passes s c from to (Syncing pass.y) (Syncing (record pass.y { at = to.0 })) fits.stands
    (owed_is s c stands.m w.plan stands.is_in stands.working.owes ∙ ap Some pass.plan_is)
    (next-passed pass.y from to from_is (omega (arith, to_is, pass.left)) (omega (arith, to_is))) (omega (arith, to_is, range)) clean in
    let over : reply ≡ Some good =
    reply_is w given.is ∙ (ap (λ (x : Course). ending_of (after x (NextDirty None)))
    (λ i. record { settings = w.settings; gives = w.gives; moved = w.moved; plan = pass.plan_is i; step = pass.step_is i; recovered = w.recovered })
    ∙ ap (λ (t : Bool). cond t None (Some good)) (not_below pass.y.end)) in
    let closed = closes good over in
    let stops : Stops d e c good (Passed c from to ∷ []) entries told =
    stops_of d mid e c (record at.a { work = Some (after w (NextDirty None)) }) good (Passed c from to ∷ []) entries told set arrived known
    (replaces at.a w at.is at.works) closed.0 closed.1 closed.2 in
    let kept : e.store ≡ d.store = closed.0.store ∙ store in
    let t : Scene = after_end s c [] (Passed c from to ∷ []) good in
    let got : IsGotOnly s (after_end s c [] (Passed c from to ∷ []) good) =
    quiet_got s (after_end s c [] (Passed c from to ∷ []) good) (Passed c from to ∷ Ended c good ∷ []) refl refl refl refl refl refl refl in
    moves_end s c [] (Passed c from to ∷ []) entries (passed_state s c from to) (Syncing (record pass.y { at = to.0 })) d e good told half
    (halves.over s c [] (Passed c from to ∷ []) (passed_state s c from to) (Syncing (record pass.y { at = to.0 })) Over good (room_of s c d fits) (present_still s fits.store.present) half refl
    (next-synced (record pass.y { at = to.0 }) (names_dirty (passed_state s c from to) good) to_is) refl (λ more. absurd (omega (arith, more, to_is))))
    (fits_end s c [] (Passed c from to ∷ []) (passed_state s c from to) (Syncing (record pass.y { at = to.0 })) good d e half fits stops.left
    (has_same s d e fits kept t refl refl)
    (subst (λ (x : Contained). IsCached (after_end s c [] (Passed c from to ∷ []) good) x.cache) (sym kept)
    (cached_got s (after_end s c [] (Passed c from to ∷ []) good) d.store.cache got fits.cached)))
    stops fits (none_added s d e fits kept) refl
