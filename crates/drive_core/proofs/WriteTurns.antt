-- Where a write stands after a block was put, and how its turn moves the drive.
use Rattle.std.proofs.Common.{◌≡◌, ◌≢◌, ℕ, ◌+◌, ◌-◌, ◌<◌, ◌≤◌, Bool, true, false, not, cond, eqb, ltb, List, [], ◌∷◌, ◌++◌, length, Option, Some, None, refl, sym, ap, ◌∙◌, subst, arith, append-nil}
use Rattle.std.specs.Prelude.{◌&&◌, ◌||◌, fold, IsTrue, Result}
use Rattle.std.specs.List.{list_any}
use Rattle.std.specs.Option.{option_and_then, option_map_or, is_some}
use Rattle.std.specs.Str.{bytes_eq}
use Rattle.std.proofs.lemmas.List.{append-nil}
use Rattle.std.proofs.lemmas.Bool.{eq-eqb, eqb-true, lt-ltb, le-ltb, ltb-true, cond-true}
use Rattle.disk_base.specs.declared.address.Lba.{Lba}
use Rattle.platter_model.specs.declared.op.Op.{Op}
use Rattle.mode_pages.specs.declared.settings.Settings.{Settings}
use Rattle.sense_data.specs.declared.sense.Sense.{Sense}
use Rattle.sense_data.specs.declared.reply.Reply.{Reply}
use Rattle.geometry_map.specs.Size.{capacity_of}
use Rattle.task_set.specs.declared.member.Member.{Member}
use Rattle.task_set.specs.Members.{member_of}
use Rattle.read_recovery.specs.Stages.{Progress, begun, next_stage}
use Rattle.read_recovery.proofs.Table.{plain_stage}
use Rattle.disk_base.specs.declared.stage.Stage.{Stage}
use Rattle.cdb_reader.specs.Request.{Request}
use Rattle.cdb_reader.specs.Replies.{good, same_reply, is_write_error}
use Rattle.cdb_reader.specs.declared.plan.Reading as reading
use Rattle.cdb_reader.specs.declared.plan.Writing as writing
use Rattle.cdb_reader.specs.declared.plan.Syncing as syncing
use Rattle.cdb_reader.specs.declared.plan.Plan.{Plan}
use Rattle.cdb_reader.specs.declared.plan.Plan.TheVariants.{Ending, Unread, Answering, Changing, Reading, Writing, Syncing, Moving, Over}
use Rattle.cdb_reader.specs.declared.plan.Deed.TheVariants as deed
use Rattle.cdb_reader.specs.Plan.{next, after_written, block_of}
use Rattle.command_engine.specs.declared.need.Need.{Need}
use Rattle.command_engine.specs.declared.need.Need.TheVariants as need
use Rattle.command_engine.specs.declared.step.Recovery.{Recovery}
use Rattle.command_engine.specs.declared.step.Step.{Step}
use Rattle.command_engine.specs.declared.step.Step.TheVariants.{Trying, Hardening}
use Rattle.command_engine.specs.declared.step.Step.TheVariants as step
use Rattle.command_engine.specs.Course.{Course}
use Rattle.command_engine.specs.Need.{need_by, need_at_read, need_at_sync, need_at_move, taking, taking_block, in_hand, end_of}
use Rattle.command_engine.specs.Ending.{ending_of, ending_by}
use Rattle.block_machine.specs.declared.entry.Entry.{Entry}
use Rattle.block_machine.specs.declared.entry.Entry.TheVariants.{Ended}
use Rattle.block_machine.specs.declared.turn.Label.TheVariants.{Work}
use Rattle.block_machine.specs.Blocks.{is_dirty}
use Rattle.block_machine.specs.State.{State, owed_by}
use Rattle.block_machine.specs.Deeds.{names_dirty}
use Rattle.block_machine.specs.Entries.{ends_as_told}
use Rattle.block_machine.specs.Turns.{owes_nothing_now}
use Rattle.block_machine.proofs.Booleans.{and_both}
use Rattle.drive_core.specs.declared.accepted.Accepted.{Accepted}
use Rattle.drive_core.specs.declared.server.Server.{Server}
use Rattle.drive_scene.specs.declared.answer.Ended as told_end
use Rattle.drive_scene.specs.Scene.{Scene, capacity, beat}
use Rattle.drive_scene.specs.After.{last_found, window_after, opens_window, recovered_by, windows_with}
use Rattle.drive_scene.specs.Holds.{held_by_plan, held_block}
use Rattle.drive_scene.specs.Evidence.{lba, IsEndShown}
use Rattle.drive_scene.specs.Ending.{ended_of_member, ended_in}
use Rattle.drive_scene.specs.View.{View, view}
use Rattle.drive_core.specs.Commands.{IsAtBlock, IsTrying, IsWorking, IsCommand, IsOwnRange, IsOwnRecovery}
use Rattle.drive_core.specs.Served.{is_served_plan}
use Rattle.drive_core.specs.Fits.{HasOps, IsCached, Fits}
use Rattle.drive_core.specs.Moves.{Moves}
use Rattle.drive_scene.proofs.Tables.{put_at-own}
use Rattle.drive_scene.proofs.Gets.{bytes_eq-own}
use Rattle.drive_scene.specs.Half.{Half}
use Rattle.drive_scene.specs.Laws.{HalvesAreGood}
use Rattle.drive_scene.proofs.Apart.{holds_none}
use Rattle.drive_scene.proofs.Elsewhere.{after_half, after_end, reached-end}
use Rattle.drive_core.proofs.Fitting.{fits_on, fits_end}
use Rattle.drive_core.proofs.Closing.{Goes, Stops, moves_on, moves_end}
use Rattle.drive_core.proofs.Windows.{room_of}
use Rattle.drive_scene.specs.GoodTurn.{AreTriesShown}

-- a command that needs a block to be put is a write at that block
pub record IsWriteNeed (plan : Plan) (step : Step) (b : Lba) (through : Bool) : Type 0 where
  pub w : writing.Writing
  pub p : Progress
  pub plan_is : plan ≡ Writing w
  pub step_is : step ≡ Trying p
  pub left : w.at < w.end
  pub at : b ≡ lba w.at
  pub through_is : w.through ≡ through

-- the need of a put, by whether it goes through
abbrev pub put_need : Bool → Lba → Need
put_need true b = need.PutThrough b
put_need false b = need.Put b

never_taken : (r : reading.Reading) (o : Option Stage) (through : Bool) (b : Lba) → taking r o ≡ put_need through b → ⊥
never_taken r None true b is = cc
never_taken r None false b is = cc
never_taken r (Some stage) true b is = cc
never_taken r (Some stage) false b is = cc

never_nothing : (through : Bool) (b : Lba) → need.Nothing ≡ put_need through b → ⊥
never_nothing true b is = cc
never_nothing false b is = cc

-- a read needs no put
read_at : (r : reading.Reading) (step : Step) (through : Bool) (b : Lba) → need_at_read r step ≡ put_need through b → ⊥
read_at r (Trying p) through b is = never_taken r (next_stage p) through b is
read_at r Hardening true b is = cc
read_at r Hardening false b is = cc
read_at r other through b is = never_nothing through b is

sync_at : (y : syncing.Syncing) (step : Step) (through : Bool) (b : Lba) → need_at_sync y step ≡ put_need through b → ⊥
sync_at y (Trying p) true b is = cc
sync_at y (Trying p) false b is = cc
sync_at y Hardening true b is = cc
sync_at y Hardening false b is = cc
sync_at y other through b is = never_nothing through b is

unless : (n : Need) (through : Bool) (b : Lba) → (n ≡ put_need through b → ⊥) → (t : Bool) → cond t n need.Nothing ≡ put_need through b → ⊥
unless n through b never true is = never is
unless n through b never false is = never_nothing through b is

-- of a write it tells the block
put_at_write : (w : writing.Writing) (t through : Bool) (b : Lba) → cond t (need.PutThrough (lba w.at)) (need.Put (lba w.at)) ≡ put_need through b
    → (t ≡ through) × (b ≡ lba w.at)
put_at_write w true true b is = (refl, cc)
put_at_write w true false b is = absurd (cc)
put_at_write w false true b is = absurd (cc)
put_at_write w false false b is = (refl, cc)

write_at : (w : writing.Writing) (p : Progress) (through : Bool) (b : Lba) (t : Bool) → ltb w.at w.end ≡ t
    → cond t (cond w.through (need.PutThrough (lba w.at)) (need.Put (lba w.at))) need.Nothing ≡ put_need through b
    → IsWriteNeed (Writing w) (Trying p) b through
write_at w p through b false below is = absurd (never_nothing through b is)
write_at w p through b true below is =
    let put = put_at_write w w.through through b is in
    record { w = w; p = p; plan_is = refl; step_is = refl; left = ltb-true w.at w.end below; at = put.1; through_is = put.0 }

-- nor does one of a list of blocks
listed_at : (own : Lba) (o : Option Stage) (through : Bool) (b : Lba) → taking_block own true o ≡ put_need through b → ⊥
listed_at own None through b is = never_nothing through b is
listed_at own (Some stage) true b is = cc
listed_at own (Some stage) false b is = cc

list_at : (o : Option Lba) (step : Step) (through : Bool) (b : Lba) → need_at_move o step ≡ put_need through b → ⊥
list_at None step through b is = never_nothing through b is
list_at (Some own) (Trying p) through b is = listed_at own (next_stage p) through b is
list_at (Some own) (step.Moving why) true b is = cc
list_at (Some own) (step.Moving why) false b is = cc
list_at (Some own) other through b is = never_nothing through b is

pub write_need : (plan : Plan) (moved : ℕ) (step : Step) (through : Bool) (b : Lba) → need_by plan moved step ≡ put_need through b → IsWriteNeed plan step b through
write_need (Ending reply) moved step through b is = absurd (never_nothing through b is)
write_need (Unread n) moved step through b is = absurd (never_nothing through b is)
write_need (Answering bytes reply) moved step true b is = absurd (cc)
write_need (Answering bytes reply) moved step false b is = absurd (cc)
write_need Changing moved step through b is = absurd (never_nothing through b is)
write_need (Reading r) moved step through b is = absurd (unless (need_at_read r step) through b (read_at r step through b) (ltb r.at r.end) is)
write_need (Writing w) moved (Trying p) through b is = write_at w p through b (ltb w.at w.end) refl is
write_need (Writing w) moved Hardening through b is = absurd (unless need.Nothing through b (never_nothing through b) (ltb w.at w.end) is)
write_need (Writing w) moved other through b is = absurd (unless need.Nothing through b (never_nothing through b) (ltb w.at w.end) is)
write_need (Syncing y) moved step through b is = absurd (unless (need_at_sync y step) through b (sync_at y step through b) (ltb y.at y.end) is)
write_need (Moving m) moved step through b is = absurd (list_at (in_hand m moved) step through b is)
write_need Over moved step through b is = absurd (never_nothing through b is)

-- the plan of a put: it is to be hardened where it goes through, and else is done
abbrev pub to_harden : writing.Writing → Plan
to_harden w = Writing (record w { owes_harden = true })

may_put : (w : writing.Writing) (bytes : List ℕ) → w.owes_harden ≡ false → w.at < w.end → bytes ≡ block_of w.sent (w.at - w.from)
    → (not w.owes_harden && eqb w.at w.at && ltb w.at w.end && bytes_eq bytes (block_of w.sent (w.at - w.from))) ≡ true
may_put w bytes free left is =
    and_both _ _ (and_both _ _ (and_both (not w.owes_harden) (eqb w.at w.at) (ap not free) (eq-eqb w.at w.at refl)) (lt-ltb w.at w.end left))
    (ap (λ (xs : List ℕ). bytes_eq xs (block_of w.sent (w.at - w.from))) is ∙ bytes_eq-own (block_of w.sent (w.at - w.from)))

next_put : (w : writing.Writing) (bytes : List ℕ) (full t : Bool) → w.owes_harden ≡ false → w.at < w.end → bytes ≡ block_of w.sent (w.at - w.from)
    → (w.through || full) ≡ t → next (Writing w) (deed.Put (lba w.at) bytes full) ≡ Some (cond t (to_harden w) (after_written w))
next_put w bytes full t free left is through =
    ap (λ (x : Bool). cond x (Some (cond (w.through || full) (to_harden w) (after_written w))) None) (may_put w bytes free left is)
    ∙ ap (λ (x : Bool). Some (cond x (to_harden w) (after_written w))) through

-- a put that went into the cache
pub next-kept : (w : writing.Writing) (bytes : List ℕ) (full : Bool) → w.owes_harden ≡ false → w.at < w.end → bytes ≡ block_of w.sent (w.at - w.from)
    → w.through ≡ false → full ≡ false → next (Writing w) (deed.Put (lba w.at) bytes full) ≡ Some (after_written w)
next-kept w bytes full free left is cached room =
    next_put w bytes full false free left is (ap (λ (t : Bool). t || full) cached ∙ room)

-- a put that goes through, and its harden
pub next-through : (w : writing.Writing) (bytes : List ℕ) (full : Bool) → w.owes_harden ≡ false → w.at < w.end → bytes ≡ block_of w.sent (w.at - w.from)
    → (w.through || full) ≡ true → next (Writing w) (deed.Put (lba w.at) bytes full) ≡ Some (to_harden w)
next-through w bytes full free left is through = next_put w bytes full true free left is through

pub next-written : (w : writing.Writing) → w.at < w.end → next (to_harden w) (deed.Hardened (lba w.at)) ≡ Some (after_written w)
next-written w left =
    ap (λ (x : Bool). cond x (Some (after_written w)) None) (and_both (eqb w.at w.at) (ltb w.at w.end) (eq-eqb w.at w.at refl) (lt-ltb w.at w.end left))

-- the write at the block that comes next
abbrev pub next_writing : writing.Writing → writing.Writing
next_writing w = record w { at = w.at + 1; owes_harden = false }

-- and its verifying part
abbrev pub verifying : writing.Writing → reading.Reading
verifying w = record { at = w.from; end = w.end; through = true; reports = w.reports; hardened = false }

-- what comes after a block: the next block, the verifying part, or the end
pub data After (w : writing.Writing) : Type 0 where
  another : w.at + 1 < w.end → after_written w ≡ Writing (next_writing w) → After w
  verify : w.verifies ≡ true → after_written w ≡ Reading (verifying w) → After w
  done : w.at + 1 ≡ w.end → after_written w ≡ Writing (next_writing w) → After w

pub after : (w : writing.Writing) → w.at < w.end → After w
after w left = by (eqb (w.at + 1) w.end) refl w.verifies refl
  where
    is : (u t : Bool) → w.verifies ≡ u → eqb (w.at + 1) w.end ≡ t → after_written w ≡ cond (u && t) (Reading (verifying w)) (Writing (next_writing w))
    is u t ui ti = λ i. cond (ui i && ti i) (Reading (verifying w)) (Writing (next_writing w))

    by : (t : Bool) → eqb (w.at + 1) w.end ≡ t → (u : Bool) → w.verifies ≡ u → After w
    by true ti true ui = verify ui (is true true ui ti)
    by true ti false ui = done (eqb-true (w.at + 1) w.end ti) (is false true ui ti)
    by false ti true ui =
        let other : w.at + 1 ≢ w.end = λ same. let yes : eqb (w.at + 1) w.end ≡ true = eq-eqb (w.at + 1) w.end same in cc in
        another (omega arith) (is true false ui ti)
    by false ti false ui =
        let other : w.at + 1 ≢ w.end = λ same. let yes : eqb (w.at + 1) w.end ≡ true = eq-eqb (w.at + 1) w.end same in cc in
        another (omega arith) (is false false ui ti)

module _ (settings : Settings) (gives : Bool) (moved : ℕ) (w : writing.Writing) (p : Progress) (rec : Option Recovery) where
  -- the write at work
  abbrev pub course : Course
  course = record { settings = settings; gives = gives; moved = moved; plan = Writing w; step = Trying p; recovered = rec }

  -- and once the block is put
  abbrev pub written : Course
  written = record { settings = settings; gives = gives; moved = moved; plan = after_written w; step = Trying (begun settings.retry); recovered = rec }

  -- how it ends by then
  ending-is : (plan : Plan) → after_written w ≡ plan → ending_of written ≡ ending_by plan moved (Trying (begun settings.retry)) rec
  ending-is plan is = ap (λ (x : Plan). ending_by x moved (Trying (begun settings.retry)) rec) is

  unended-another : w.at + 1 < w.end → after_written w ≡ Writing (next_writing w) → ending_of written ≡ None
  unended-another more is =
      ending-is (Writing (next_writing w)) is ∙ ap (λ (t : Bool). cond t None (Some good)) (lt-ltb (w.at + 1) w.end more)

  unended-verify : w.from < w.end → after_written w ≡ Reading (verifying w) → ending_of written ≡ None
  unended-verify some is = ending-is (Reading (verifying w)) is ∙ cond-true (ltb w.from w.end) None (Some _) (lt-ltb w.from w.end some)

  ended-done : w.at + 1 ≡ w.end → after_written w ≡ Writing (next_writing w) → ending_of written ≡ Some good
  ended-done last is =
      ending-is (Writing (next_writing w)) is ∙ ap (λ (t : Bool). cond t None (Some good)) (le-ltb (w.at + 1) w.end (omega arith))

  -- the command stands as the history has it, by what comes next
  staged_by : (v : View) (m : Member) (a : Accepted) (plan : Plan) → after_written w ≡ plan → v.member ≡ Some m → m.started ≡ true
      → v.duty.owes ≡ Some (after_written w) → v.settings ≡ settings → settings.retry ≤ 20 → v.recovered ≡ rec → IsAtBlock v plan (Trying (begun settings.retry))
      → end_of plan ≤ capacity_of v.size → IsOwnRecovery v.duty.asks rec → IsOwnRange v.duty.asks plan → IsTrue (is_served_plan plan)
      → IsCommand v (record a { work = Some written })
  staged_by v m a plan is is_in started owes settings_are few recovered at range own_recovery own_range served =
      let whole : IsWorking v m (record { settings = settings; gives = gives; moved = moved; plan = plan; step = Trying (begun settings.retry); recovered = rec }) = record {
        started = started;
        owes = owes ∙ ap Some is;
        settings = settings_are;
        retry = few;
        recovered = recovered;
        at_block = at;
        range = range;
        own_recovery = own_recovery;
        own_range = own_range;
        served = served;
      } in
      let W : Plan → Type 0 = λ x. IsWorking v m (record { settings = settings; gives = gives; moved = moved; plan = x; step = Trying (begun settings.retry); recovered = rec }) in
      record { member = m; is_in = is_in; under_way = subst W (sym is) whole }

-- a read that comes next was neither tried nor hardened
fresh_reading : (v : View) (r : reading.Reading) (retry : ℕ) → r.at < r.end → v.window ≡ [] → v.settings.retry ≡ retry → v.holds_dirty ≡ false
    → IsTrying v r (begun retry)
fresh_reading v r retry left window same clean = record {
  left = left;
  next = ap is_some (plain_stage retry 0 (omega arith));
  retry = sym same;
  failed = window;
  unfound = ap last_found window;
  tried = ap length window;
  clean = clean;
}

-- a turn in which a write puts its block: half of it, after which the command owes what comes behind the block, and the parts of
-- the drive then
pub record IsWriteTurn (s : Scene) (d e : Server) (c : ℕ) (m : Member) (course : Course) (plan : Plan) (ops : List Op) (half : List Entry) (h : State) : Type 0 where
  pub fits : Fits s d
  pub is_in : member_of s.hist.set c ≡ Some m
  pub working : IsWorking (view s c) m course
  pub half_is : Half s c ops half h plan
  pub halves : HalvesAreGood
  pub tries : (more : List Entry) → AreTriesShown s (Work c) (half ++ more) ops
  pub acts : (not (eqb (length ops) 0) || not (eqb (length half) 0)) ≡ true
  pub opens : list_any (opens_window c) half ≡ true
  pub opens_too : (x : Reply) → list_any (opens_window c) (half ++ Ended c x ∷ []) ≡ true
  pub recovered : fold (recovered_by (windows_with (Work c) s.windows ops)) s.recovered half c ≡ s.recovered c
  pub untold : None ≡ ended_in s half
  pub told : (x : Reply) → ended_of_member (member_of s.hist.set c) x ≡ ended_in s (half ++ Ended c x ∷ [])
  pub added : e.store.platter.ops ≡ d.store.platter.ops ++ ops
  pub has : (t : Scene) → t.map ≡ s.map → t.ops ≡ s.ops ++ ops → HasOps t e.store
  pub cached : (t : Scene) (more : List Entry) → t.size ≡ s.size → t.map ≡ s.map → t.ops ≡ s.ops ++ ops → t.since ≡ s.since ++ ops → t.entries ≡ s.entries ++ (half ++ more)
      → t.hist.blocks ≡ h.blocks → t.hist.dirty ≡ h.dirty → IsCached t e.store.cache

module _ (s : Scene) (d e : Server) (c : ℕ) (m : Member) (settings : Settings) (gives : Bool) (moved : ℕ) (w : writing.Writing) (p : Progress) (rec : Option Recovery)
    (ops : List Op) (half : List Entry) (h : State) (turn : IsWriteTurn s d e c m (course settings gives moved w p rec) (after_written w) ops half h) where
  -- the scene after the half
  abbrev t : Scene
  t = after_half s c ops half

  window : (after_half s c ops half).windows c ≡ []
  window =
      put_at-own c (window_after c (s.windows c) (beat (Work c) half ops)) s.windows
      ∙ ap (λ (b : Bool). cond b [] (s.windows c ++ ops)) turn.opens

  member : member_of (after_half s c ops half).hist.set c ≡ Some m
  member = ap (λ (x : State). member_of x.set c) turn.half_is.reached ∙ (ap (λ (ms : List Member). member_of ms c) turn.half_is.quiet.set ∙ turn.is_in)

  owes_there : owed_by (after_half s c ops half).hist c ≡ Some (after_written w)
  owes_there = ap (λ (x : State). owed_by x c) turn.half_is.reached ∙ turn.half_is.owes

  owes : ((after_half s c ops half).hist.duties c).owes ≡ Some (after_written w)
  owes = sym (ap (λ (o : Option Member). option_and_then (λ (x : Member). ((after_half s c ops half).hist.duties c).owes) o) member) ∙ owes_there

  asks : ((after_half s c ops half).hist.duties c).asks ≡ (s.hist.duties c).asks
  asks = ap (λ (x : State). (x.duties c).asks) turn.half_is.reached ∙ turn.half_is.quiet.asks

  -- nothing is held by the verifying part
  unheld : (r : reading.Reading) → r.hardened ≡ false → after_written w ≡ Reading r → held_block (after_half s c ops half) c ≡ None
  unheld r fresh is =
      let plan : owed_by (after_half s c ops half).hist c ≡ Some (Reading r) = owes_there ∙ ap Some is in
      (λ i. option_and_then (held_by_plan (window i)) (plan i)) ∙ ap (λ (b : Bool). cond b (Some r.at) None) fresh

  staged : (a : Accepted) (plan : Plan) → after_written w ≡ plan → IsAtBlock (view (after_half s c ops half) c) plan (Trying (begun settings.retry))
      → end_of plan ≤ capacity s → IsOwnRange (s.hist.duties c).asks plan → IsTrue (is_served_plan plan)
      → IsCommand (view (after_half s c ops half) c) (record a { work = Some (written settings gives moved w p rec) })
  staged a plan is at range own_range served =
      staged_by settings gives moved w p rec (view (after_half s c ops half) c) m a plan is member turn.working.started owes
      (ap (λ f. f c) turn.half_is.settings ∙ turn.working.settings) turn.working.retry (turn.recovered ∙ turn.working.recovered) at range
      (subst (λ (x : Result Request Sense). IsOwnRecovery x rec) (sym asks) turn.working.own_recovery)
      (subst (λ (x : Result Request Sense). IsOwnRange x plan) (sym asks) own_range) served

  -- the command goes on
  on : (a : Accepted) (plan : Plan) (entries : List Entry) (told : Option told_end.Ended) → after_written w ≡ plan → owes_nothing_now (Some plan) ≡ true
      → IsAtBlock (view (after_half s c ops half) c) plan (Trying (begun settings.retry))
      → end_of plan ≤ capacity s → IsOwnRange (s.hist.duties c).asks plan → IsTrue (is_served_plan plan) → held_by_plan [] plan ≡ None
      → Goes d e c (record a { work = Some (written settings gives moved w p rec) }) half entries told → Moves (Work c) s d e entries told
  on a plan entries told is settled at range own_range served holds goes =
      moves_on s c ops half entries h (after_written w) d e (record a { work = Some (written settings gives moved w p rec) }) told turn.half_is
      (turn.halves.on s c ops half h (after_written w) (room_of s c d turn.fits) (turn.has (after_half s c ops half) refl refl).present turn.half_is
      (subst (λ (es : List Entry). AreTriesShown s (Work c) es ops) (append-nil half) (turn.tries [])) (ap (λ (x : Plan). owes_nothing_now (Some x)) is ∙ settled) turn.acts)
      (fits_on s c ops half h (after_written w) d e (record a { work = Some (written settings gives moved w p rec) }) turn.half_is turn.fits goes.set goes.arrived goes.known
      goes.replaces (turn.has (after_half s c ops half) refl refl)
      (turn.cached (after_half s c ops half) [] refl refl refl refl (ap (λ (es : List Entry). s.entries ++ es) (sym (append-nil half)))
      (ap (λ (x : State). x.blocks) turn.half_is.reached) (ap (λ (x : State). x.dirty) turn.half_is.reached))
      (staged a plan is at range own_range served)
      (holds_none s c ((after_half s c ops half).windows c) (after_written w) ((λ i. held_by_plan (window i) (is i)) ∙ holds)))
      goes turn.added turn.untold

  -- the command ends
  over : (entries : List Entry) (told : Option told_end.Ended) → w.at + 1 ≡ w.end → after_written w ≡ Writing (next_writing w)
      → Stops d e c good half entries told → Moves (Work c) s d e entries told
  over entries told last is stops =
      let same : same_reply good good ≡ true = refl in
      let ends_here : (eqb (w.at + 1) w.end && same_reply good good) ≡ true = and_both _ _ (eq-eqb (w.at + 1) w.end last) same in
      let may : next (Writing (next_writing w)) (deed.Ended good (names_dirty h good)) ≡ Some Over =
      ap (λ (x : Bool). cond (x || (ltb (w.at + 1) w.end && is_write_error (w.at + 1) good)) (Some Over) None) ends_here in
      let owes_last : next (after_written w) (deed.Ended good (names_dirty h good)) ≡ Some Over =
      ap (λ (x : Plan). next x (deed.Ended good (names_dirty h good))) is ∙ may in
      let told_last : ends_as_told (Some (after_written w)) (h.duties c) good ≡ true = ap (λ (x : Plan). ends_as_told (Some x) (h.duties c) good) is in
      let End : Plan → Type 0 = λ x. IsEndShown s (beat (Work c) (half ++ Ended c good ∷ []) ops) c (Some x) good in
      let shown_last : End (Writing (next_writing w)) = λ more. absurd (omega arith) in
      let reached = reached-end s c ops half h (after_written w) good turn.half_is in
      moves_end s c ops half entries h (after_written w) d e good told turn.half_is
      (turn.halves.over s c ops half h (after_written w) Over good (room_of s c d turn.fits) (turn.has (after_half s c ops half) refl refl).present turn.half_is (turn.tries (Ended c good ∷ [])) owes_last told_last (subst End (sym is) shown_last))
      (fits_end s c ops half h (after_written w) good d e turn.half_is turn.fits stops.left (turn.has (after_end s c ops half good) refl refl)
      (turn.cached (after_end s c ops half good) (Ended c good ∷ []) refl refl refl refl refl
      (ap (λ (x : State). x.blocks) reached) (ap (λ (x : State). x.dirty) reached)))
      stops turn.fits turn.added (turn.told good)

  -- whatever comes next
  pub wrote : (a : Accepted) (entries : List Entry) (reply : Option Reply) (told : Option told_end.Ended) → w.at < w.end → w.from ≤ w.at
      → (w.verifies ≡ true → IsTrue (is_served_plan (Reading (verifying w))))
      → reply ≡ ending_of (written settings gives moved w p rec)
      → (reply ≡ None → Goes d e c (record a { work = Some (written settings gives moved w p rec) }) half entries told)
      → ((x : Reply) → reply ≡ Some x → Stops d e c x half entries told) → Moves (Work c) s d e entries told
  wrote a entries reply told left from served reply_is goes stops = by (after w left)
    where
      by : After w → Moves (Work c) s d e entries told
      by (another more is) =
          on a (Writing (next_writing w)) entries told is refl (window, more, refl) turn.working.range turn.working.own_range turn.working.served refl
          (goes (reply_is ∙ unended-another settings gives moved w p rec more is))
      by (verify verifies is) =
          on a (Reading (verifying w)) entries told is refl
          (fresh_reading (view (after_half s c ops half) c) (verifying w) settings.retry (omega arith) window
          (ap (λ (x : Settings). x.retry) (ap (λ f. f c) turn.half_is.settings ∙ turn.working.settings))
          (ap (λ (o : Option ℕ). option_map_or (λ b. is_dirty ((after_half s c ops half).hist.blocks b)) o false) (unheld (verifying w) refl is)))
          turn.working.range (turn.working.own_range verifies) (served verifies) refl
          (goes (reply_is ∙ unended-verify settings gives moved w p rec (omega arith) is))
      by (done last is) = over entries told last is (stops good (reply_is ∙ ended-done settings gives moved w p rec last is))
