-- The first turn of work on a command.
use Rattle.std.proofs.Common.{◌≡◌, ◌≢◌, ℕ, ◌≤◌, Bool, true, false, not, cond, eqb, List, [], ◌∷◌, ◌++◌, length, Option, Some, None, refl, sym, ap, ◌∙◌, subst, arith}
use Rattle.std.specs.Prelude.{◌&&◌, ◌||◌, All, unwrap_or, slice_index, IsSome, IfOk, Result, Ok, Err}
use Rattle.std.specs.Option.{option_and_then, option_map, option_map_or, is_none}
use Rattle.std.proofs.lemmas.Bool.{eq-eqb, ne_eqb, eqb-true}
use Rattle.std.proofs.lemmas.List.Elements.{All-map, All-weaker, All-filter}
use Rattle.platter_model.specs.declared.op.Op.{Op}
use Rattle.sense_data.specs.declared.reply.Reply.{Reply}
use Rattle.task_set.specs.declared.member.Member.{Member}
use Rattle.task_set.specs.Members.{IsIn, member_of, with_started, started_at, without, first_forbidding}
use Rattle.cdb_reader.specs.declared.plan.Plan.{Plan}
use Rattle.cdb_reader.specs.declared.command.Command.{Command}
use Rattle.cdb_reader.specs.declared.plan.Plan.TheVariants.{Ending, Answering, Changing, Over}
use Rattle.cdb_reader.specs.declared.plan.Deed.TheVariants as deed
use Rattle.cdb_reader.specs.Plan.{next, unless_empty}
use Rattle.cdb_reader.specs.Read.{read_of}
use Rattle.cdb_reader.specs.Replies.{good}
use Rattle.cdb_reader.specs.Request.{Request, request_of}
use Rattle.sense_data.specs.Attentions.{Waiting}
use Rattle.sense_data.specs.declared.sense.Sense.{Sense}
use Rattle.history_replay.specs.Known.{state_of, duty_of, with_set}
use Rattle.history_replay.specs.Warning.{KnownWait, waiting_state}
use Rattle.history_replay.proofs.KnownWaiting.{known_after}
use Rattle.drive_core.specs.declared.starting.First.{First}
use Rattle.drive_core.specs.declared.starting.First.TheVariants as first_variant
use Rattle.drive_core.specs.Starting.{IsWorkFor, IsSelected, BeginsBy, IsFirstBy, IsFirst}
use Rattle.read_recovery.specs.Stages as progress
use Rattle.mode_pages.specs.declared.settings.Settings.{Settings}
use Rattle.history_replay.specs.declared.known.Known.{Known}
use Rattle.geometry_map.specs.DefectMap.{DefectMap}
use Rattle.sector_store.specs.State.{Contained}
use Rattle.disk_base.specs.declared.command.DataOut.{DataOut}
use Rattle.disk_base.specs.declared.command.DataOut.TheVariants.{Nothing}
use Rattle.command_engine.specs.declared.step.Recovery.{Recovery}
use Rattle.command_engine.specs.declared.step.Step.TheVariants.{Trying}
use Rattle.command_engine.specs.Course.{Course}
use Rattle.block_machine.specs.declared.entry.Entry.{Entry}
use Rattle.block_machine.specs.declared.entry.Entry.TheVariants.{Started, Ended}
use Rattle.block_machine.specs.declared.turn.Label.TheVariants.{Work}
use Rattle.block_machine.specs.State.{State, Duty, initiator_of, owed_by}
use Rattle.block_machine.specs.Steps.{begun, entry_after, waiting_after, waiting_at_start}
use Rattle.block_machine.specs.Plans.{first_plan}
use Rattle.block_machine.specs.Blocks.{is_dirty}
use Rattle.block_machine.specs.Deeds.{names_dirty}
use Rattle.block_machine.specs.Entries.{entry_lawful}
use Rattle.block_machine.specs.Turns.{owes_nothing_now}
use Rattle.block_machine.proofs.Booleans.{and_both}
use Rattle.drive_core.specs.declared.accepted.Accepted.{Accepted}
use Rattle.drive_core.specs.declared.server.Server.{Server}
use Rattle.drive_scene.specs.declared.answer.TurnAnswer.TheVariants as answer
use Rattle.drive_scene.specs.declared.answer.Ended as told_end
use Rattle.drive_scene.specs.Ending.{ended_of_member}
use Rattle.drive_scene.specs.Evidence.{IsEndShown, page_of}
use Rattle.drive_core.specs.Served.{is_served, is_served_plan}
use Rattle.command_engine.specs.Need.{end_of}
use Rattle.drive_scene.specs.Scene.{Scene, capacity, beat}
use Rattle.drive_scene.specs.After.{scene_after, window_after, background_after}
use Rattle.drive_scene.proofs.DestageTurns.{quiet_back}
use Rattle.drive_scene.specs.Able.{refusal_of_work, kept_waiting, work_refused}
use Rattle.drive_scene.specs.Holds.{held_block, held_by_plan, needed_block}
use Rattle.drive_core.specs.Accepting.{accepted_of, under_way, Replaces, Drops}
use Rattle.drive_scene.specs.View.{View, view}
use Rattle.drive_scene.specs.Laws.{StillTurnsAreGood}
use Rattle.drive_core.specs.Commands.{IsStaged, IsCommand, IsUnderWay, IsWaiting, IsWorking, IsAtBlock, IsOwnRange}
use Rattle.drive_core.specs.Fits.{Fits, IsCached, KnowsHistory}
use Rattle.drive_core.specs.Moves.{Moves, MayWork}
use Rattle.drive_scene.proofs.Tables.{put_at-own, put_at-other}
use Rattle.drive_scene.proofs.Keyed.{find-dropped_own, find-dropped_other}
use Rattle.drive_scene.proofs.Elsewhere.{IsAlike, held-alike}
use Rattle.drive_scene.proofs.Uncommitted.{stays_flightless}
use Rattle.drive_core.proofs.Flightless.{same_flights, waits_alone}
use Rattle.drive_core.proofs.Elsewhere.{staged-alike, all_staged}
use Rattle.drive_scene.proofs.Apart.{held_out, apart_none}
use Rattle.drive_scene.proofs.Halves.{end_lawful, over_owes}
use Rattle.drive_scene.proofs.Windows.{windows_work}
use Rattle.drive_core.proofs.Parts.{cached_got, quiet_got}
use Rattle.drive_core.proofs.Fitting.{known-told, retry-known}
use Rattle.drive_core.proofs.Unmoved.{still_stands, has_same, none_added, standing}
use Rattle.drive_scene.proofs.GetTurns.{begun-duty}
use Rattle.drive_scene.proofs.FirstPlans.{IsNoEnding, same_reply-own}

-- a command that may start
pub record MayStart (s : Scene) (d : Server) (c : ℕ) : Type 0 where
  pub m : Member
  pub is_in : member_of s.hist.set c ≡ Some m
  pub a : Accepted
  pub a_is : accepted_of d.commands.items c ≡ Some a
  pub works : a.work ≡ None
  pub waiting : IsWaiting (view s c) m a
  pub free : first_forbidding s.hist.set m.task ≡ None

not_dormant : (o : Option ℕ) → option_map answer.Dormant o ≡ None → o ≡ None
not_dormant None is = refl
not_dormant (Some x) is = absurd (cc)

by_accepted : (s : Scene) (d : Server) (c : ℕ) (o : Option Accepted) → accepted_of d.commands.items c ≡ o → IsStaged (view s c) o → option_and_then (λ (a : Accepted). a.work) o ≡ None
    → refusal_of_work s 0 c ≡ None → MayStart s d c
by_accepted s d c None o_is staged none free =
    let refused : Some (answer.Idle 0) ≡ None = sym (ap (λ (x : Option Member). option_map_or (work_refused s c) x (Some (answer.Idle 0))) staged) ∙ free in
    absurd (cc)
by_accepted s d c (Some a) o_is staged none free =
    let waiting : IsWaiting (view s c) staged.member a = subst (λ (x : Option Course). IsUnderWay (view s c) staged.member a x) none staged.under_way in
    let refused : work_refused s c staged.member ≡ None = sym (ap (λ (x : Option Member). option_map_or (work_refused s c) x (Some (answer.Idle 0))) staged.is_in) ∙ free in
    record {
      m = staged.member;
      is_in = staged.is_in;
      a = a;
      a_is = o_is;
      works = none;
      waiting = waiting;
      free = not_dormant (first_forbidding s.hist.set staged.member.task)
          (sym (ap (λ (b : Bool). cond b (kept_waiting s c) (option_map answer.Dormant (first_forbidding s.hist.set staged.member.task))) waiting.started) ∙ refused);
    }

pub may_start : (s : Scene) (d : Server) (c : ℕ) → MayWork s d c → under_way d.commands.items c ≡ None → MayStart s d c
may_start s d c may none = by_accepted s d c (accepted_of d.commands.items c) refl (may.fits.staged c) none may.free

-- the set with one started
pub find-started_own : (c : ℕ) (set : List Member) (m : Member) → member_of set c ≡ Some m → member_of (with_started set c) c ≡ Some (record m { started = true })
find-started_own c [] m is = absurd (cc)
find-started_own c (x ∷ xs) m is = by (find-started_own c xs m) (eqb x.task.c c) refl is
  where
    by : (member_of xs c ≡ Some m → member_of (with_started xs c) c ≡ Some (record m { started = true })) → (b : Bool) → eqb x.task.c c ≡ b
        → cond b (Some x) (member_of xs c) ≡ Some m
        → cond (eqb (cond b (record x { started = true }) x).task.c c) (Some (cond b (record x { started = true }) x)) (member_of (with_started xs c) c) ≡ Some (record m { started = true })
    by rest true e some =
        let one : x ≡ m = cc in
        ap (λ (t : Bool). cond t (Some (record x { started = true })) (member_of (with_started xs c) c)) e ∙ ap (λ (y : Member). Some (record y { started = true })) one
    by rest false e some = ap (λ (t : Bool). cond t (Some x) (member_of (with_started xs c) c)) e ∙ rest some

pub find-started_other : (c q : ℕ) (set : List Member) → q ≢ c → member_of (with_started set c) q ≡ member_of set q
find-started_other c q [] other = refl
find-started_other c q (x ∷ xs) other = by (find-started_other c q xs other) (eqb x.task.c c) refl
  where
    by : member_of (with_started xs c) q ≡ member_of xs q → (b : Bool) → eqb x.task.c c ≡ b
        → cond (eqb (cond b (record x { started = true }) x).task.c q) (Some (cond b (record x { started = true }) x)) (member_of (with_started xs c) q)
        ≡ cond (eqb x.task.c q) (Some x) (member_of xs q)
    by rest true e =
        let apart : eqb x.task.c q ≡ false = ne_eqb x.task.c q (λ same. other (sym same ∙ eqb-true x.task.c c e)) in
        ap (λ (t : Bool). cond t (Some (record x { started = true })) (member_of (with_started xs c) q)) apart
        ∙ (rest ∙ sym (ap (λ (t : Bool). cond t (Some x) (member_of xs q)) apart))
    by rest false e = ap (λ (o : Option Member). cond (eqb x.task.c q) (Some x) o) rest

-- a start keeps the numbers
started-number : (c : ℕ) (m : Member) (n : ℕ) → m.task.c ≤ n → (started_at c m).task.c ≤ n
started-number c m n below = by (eqb m.task.c c)
  where
    by : (b : Bool) → (cond b (record m { started = true }) m).task.c ≤ n
    by true = below
    by false = below

pub All-started : (c n : ℕ) (set : List Member) → All (λ m. m.task.c ≤ n) set → All (λ m. m.task.c ≤ n) (with_started set c)
All-started c n set all = All-map (λ (m : Member). m.task.c ≤ n) (started_at c) set (All-weaker (λ (m : Member). m.task.c ≤ n) (λ (m : Member). (started_at c m).task.c ≤ n) (λ m below. started-number c m n below) set all)

-- the history after the start
abbrev pub started_state : Scene → ℕ → State
started_state s c = entry_after (capacity s) (Work c) (begun s.hist (Work c)) (Started c)

-- what the command begins with
abbrev pub plan_of_start : Scene → ℕ → Plan
plan_of_start s c = first_plan (capacity s) s.hist (initiator_of s.hist c) (s.hist.duties c)

pub start-duty : (s : Scene) (c : ℕ) → ((started_state s c).duties c).owes ≡ Some (plan_of_start s c)
start-duty s c =
    ap (λ (x : Duty). x.owes) (put_at-own c _ (begun s.hist (Work c)).duties)
    ∙ ap (λ (x : Duty). Some (first_plan (capacity s) (begun s.hist (Work c)) (initiator_of s.hist c) x)) (begun-duty s.hist c)

pub start-asks : (s : Scene) (c : ℕ) → ((started_state s c).duties c).asks ≡ (s.hist.duties c).asks
start-asks s c = ap (λ (x : Duty). x.asks) (put_at-own c _ (begun s.hist (Work c)).duties) ∙ ap (λ (x : Duty). x.asks) (begun-duty s.hist c)

pub start-owes : (s : Scene) (c : ℕ) (m : Member) → member_of s.hist.set c ≡ Some m → owed_by (started_state s c) c ≡ Some (plan_of_start s c)
start-owes s c m is_in =
    ap (λ (o : Option Member). option_and_then (λ (x : Member). ((started_state s c).duties c).owes) o) (find-started_own c s.hist.set m is_in) ∙ start-duty s c

-- the attentions that wait after the start
abbrev pub waiting_told : Scene → ℕ → Waiting
waiting_told s c = waiting_at_start s.hist.waiting (initiator_of s.hist c) (s.hist.duties c)

-- what a command's first turn leaves as it was, but for the mode values and the attentions that wait
pub record IsBegun (s : Scene) (d e : Server) (c : ℕ) (settings : Settings) (waiting : Waiting) : Type 0 where
  pub fits : Fits s d
  pub may : MayStart s d c
  pub store : e.store ≡ d.store
  pub arrived : e.arrived ≡ d.arrived
  pub known : e.known ≡ record d.known { settings = settings; waiting = waiting }
  pub few : settings.retry ≤ 20
  pub warned : KnownWait waiting

-- a start leaves all as it was, but for the attention that it tells
abbrev pub IsStartOf : Scene → Server → Server → ℕ → Type 0
IsStartOf s d e c = IsBegun s d e c d.known.settings (waiting_told s c)

-- the attentions that wait after it are known ones
pub told-warned : (s : Scene) (d : Server) (c : ℕ) → Fits s d → KnownWait (waiting_told s c)
told-warned s d c fits = known_after (Work c) s.hist (Started c) (subst (λ (w : Waiting). KnownWait w) fits.known.waiting fits.known.warned)

pub start_of : (s : Scene) (d e : Server) (c : ℕ) → Fits s d → MayStart s d c → e.store ≡ d.store → e.arrived ≡ d.arrived
    → e.known ≡ record d.known { waiting = waiting_told s c } → IsStartOf s d e c
start_of s d e c fits may store arrived known = record {
  fits = fits;
  may = may;
  store = store;
  arrived = arrived;
  known = known;
  few = retry-known s d.known fits.known;
  warned = told-warned s d c fits;
}

-- they are the history's
pub waiting_then : (s : Scene) (c : ℕ) → (started_state s c).waiting ≡ waiting_told s c
waiting_then s c = ap (λ (x : Duty). waiting_at_start s.hist.waiting (initiator_of s.hist c) x) (begun-duty s.hist c)

pub start_lawful : (s : Scene) (d : Server) (c : ℕ) → MayStart s d c → entry_lawful (capacity s) (Work c) (begun s.hist (Work c)) (Started c) ≡ true
start_lawful s d c may =
    and_both (eqb c c) _ (eq-eqb c c refl)
    (ap (λ (o : Option Member). option_map_or (λ (m : Member). not m.started && is_none (first_forbidding s.hist.set m.task)) o false) may.is_in
    ∙ and_both (not may.m.started) (is_none (first_forbidding s.hist.set may.m.task)) (ap not may.waiting.started) (ap is_none may.free))

-- the scene after a turn in which a command started and ended, with the mode values and the attentions that wait then, and with
-- what each command has
abbrev pub ended_scene : Scene → ℕ → Settings → Waiting → List Entry → (ℕ → Duty) → (ℕ → List Op) → (ℕ → Settings) → (ℕ → Option Recovery) → Scene
ended_scene s c settings waiting entries duties each_window each_settings recovered = record {
  size = s.size;
  map = s.map;
  ops = s.ops ++ [];
  hist = record s.hist { set = without (with_started s.hist.set c) c; duties = duties; settings = settings; waiting = waiting };
  windows = each_window;
  settings = each_settings;
  recovered = recovered;
  since = s.since ++ [];
  entries = s.entries ++ entries;
  back = background_after s (beat (Work c) entries []);
}

module _ (s : Scene) (d e : Server) (c : ℕ) {settings : Settings} {waiting : Waiting} (is : IsBegun s d e c settings waiting) where
  cached : (t : Scene) (more : List Entry) → t.size ≡ s.size → t.map ≡ s.map → t.ops ≡ s.ops ++ [] → t.since ≡ s.since ++ [] → t.entries ≡ s.entries ++ more
      → t.hist.dirty ≡ s.hist.dirty → t.hist.blocks ≡ s.hist.blocks → IsCached t e.store.cache
  cached t more size_is map_is ops_is since_is entries_is order blocks_are =
      subst (λ (y : Contained). IsCached t y.cache) (sym is.store)
      (cached_got s t d.store.cache (quiet_got s t more size_is map_is ops_is since_is entries_is order blocks_are) is.fits.cached)

  -- the mode values and the attentions that wait are the history's
  knows : (t : Scene) → t.size ≡ s.size → t.hist.settings ≡ settings → t.hist.waiting ≡ waiting → t.hist.corrupt ≡ s.hist.corrupt → t.hist.scan ≡ s.hist.scan
      → KnowsHistory t e.known
  knows t size_is holds waits corrupt scan =
      subst (λ (k : Known). KnowsHistory t k) (sym is.known)
      (known-told s t d.known settings waiting size_is holds is.few waits is.warned corrupt scan is.fits.known)

  pub windows : (entries : List Entry) (q : ℕ) → length ((scene_after s (beat (Work c) entries [])).windows q) ≤ 50
  windows entries = windows_work s c entries [] (omega (arith, ap length is.may.waiting.window)) is.fits.windows refl

  -- the parts of the drive after the command started and ended
  pub fits_ended : (hold : Settings) (wait : Waiting) → hold ≡ settings → wait ≡ waiting
      → (entries : List Entry) (duties : ℕ → Duty) (each_window : ℕ → List Op) (each_settings : ℕ → Settings) (recovered : ℕ → Option Recovery)
      → ((q : ℕ) → q ≢ c → IsAlike s (ended_scene s c hold wait entries duties each_window each_settings recovered) q) → ((q : ℕ) → length (each_window q) ≤ 50)
      → e.set ≡ without (with_started d.set c) c → Drops d.commands.items e.commands.items c
      → Fits (ended_scene s c hold wait entries duties each_window each_settings recovered) e
  fits_ended hold wait holds waits entries duties each_window each_settings recovered alike short set_is drops =
      let t : Scene = ended_scene s c hold wait entries duties each_window each_settings recovered in
      let gone : member_of t.hist.set c ≡ None = find-dropped_own (λ (m : Member). m.task.c) c (with_started s.hist.set c) in
      record {
        size = is.fits.size;
        store = has_same s d e is.fits is.store t refl refl;
        cached = cached t entries refl refl refl refl refl refl refl;
        known = knows t refl holds waits refl refl;
        tasks = record {
          set = set_is ∙ ap (λ (ms : List Member). without (with_started ms c) c) is.fits.tasks.set;
          arrived = is.arrived ∙ is.fits.tasks.arrived;
          came = All-filter _ (λ (m : Member). m.task.c ≤ s.hist.arrived) (with_started s.hist.set c) (All-started c s.hist.arrived s.hist.set is.fits.tasks.came);
        };
        staged = all_staged t e.commands.items c
            (subst (λ (o : Option Accepted). IsStaged (view t c) o) (sym drops.own) gone)
            (λ q other. staged-alike s t q (accepted_of d.commands.items q) (accepted_of e.commands.items q) (alike q other)
            (drops.others q other) (is.fits.staged q));
        apart = apart_none s t c is.fits.apart (same_flights s (beat (Work c) entries []) is.fits.flightless)
            (λ q other. held-alike s t q (alike q other)) (held_out t c gone);
        windows = short;
        stands = still_stands s d e is.fits is.store;
        unstuck = quiet_back s (beat (Work c) entries []) is.fits.unstuck;
        flightless = stays_flightless s (beat (Work c) entries []) is.fits.flightless;
      }

  -- the command that ended is told as the set had it
  pub told_as_in : (reply : Reply) (told : Option told_end.Ended) → told ≡ ended_of_member (member_of (with_started d.set c) c) reply
      → told ≡ ended_of_member (member_of s.hist.set c) reply
  told_as_in reply told told_is =
      told_is ∙ (ap (λ (ms : List Member). ended_of_member (member_of (with_started ms c) c) reply) is.fits.tasks.set
      ∙ (ap (λ (o : Option Member). ended_of_member o reply) (find-started_own c s.hist.set is.may.m is.may.is_in)
      ∙ sym (ap (λ (o : Option Member). ended_of_member o reply) is.may.is_in)))

module _ (s : Scene) (d e : Server) (c : ℕ) (is : IsStartOf s d e c) (still : StillTurnsAreGood) where
  -- it ends at once
  pub starts_and_ends : (reply : Reply) (entries : List Entry) (told : Option told_end.Ended) → plan_of_start s c ≡ Ending reply
      → e.set ≡ without (with_started d.set c) c → Drops d.commands.items e.commands.items c → entries ≡ Started c ∷ Ended c reply ∷ []
      → told ≡ ended_of_member (member_of (with_started d.set c) c) reply → Moves (Work c) s d e entries told
  starts_and_ends reply entries told plan_is set_is drops entries_are told_is =
      let h : State = started_state s c in
      let more : List Entry = Started c ∷ Ended c reply ∷ [] in
      let t : Scene = scene_after s (beat (Work c) (Started c ∷ Ended c reply ∷ []) []) in
      let owes : owed_by h c ≡ Some (Ending reply) = start-owes s c is.may.m is.may.is_in ∙ ap Some plan_is in
      let may_end : next (Ending reply) (deed.Ended reply (names_dirty h reply)) ≡ Some Over = ap (λ (b : Bool). cond b (Some Over) None) (same_reply-own reply) in
      let last : entry_lawful (capacity s) (Work c) h (Ended c reply) ≡ true = end_lawful (capacity s) h c (Ending reply) Over reply owes may_end refl in
      let alike : (q : ℕ) → q ≢ c → IsAlike s t q = λ q other. record {
        size = refl;
        map = refl;
        member = find-dropped_other (λ (m : Member). m.task.c) c q (with_started s.hist.set c) other ∙ find-started_other c q s.hist.set other;
        duty = put_at-other c q _ h.duties other ∙ (put_at-other c q _ (begun s.hist (Work c)).duties other ∙ put_at-other c q _ s.hist.duties other);
        window = put_at-other c q _ s.windows other;
        settings = put_at-other c q s.hist.settings s.settings other;
        recovered = refl;
        dirty = λ n holds. refl;
      } in
      let M : List Entry → Option told_end.Ended → Type 0 = λ es o. Moves (Work c) s d e es o in
      let moves : M (Started c ∷ Ended c reply ∷ []) (ended_of_member (member_of s.hist.set c) reply) = record {
        ops = [];
        added = none_added s d e is.fits is.store;
        good = still s (Work c) (Started c ∷ Ended c reply ∷ []) (standing s d e is.fits is.store) (record {
          tasks = and_both _ _ (and_both true _ refl (and_both _ _ (start_lawful s d c is.may) (and_both _ true last refl)))
              (ap owes_nothing_now (over_owes (capacity s) h c reply));
          blocks = refl;
          shown = (tt, (subst (λ (o : Option Plan). IsEndShown s (beat (Work c) (Started c ∷ Ended c reply ∷ []) []) c o reply) (sym owes) tt, tt));
          step = (refl, refl);
          on_none = λ b. refl;
          on_one = refl;
          own = and_both _ _ (eq-eqb c c refl) (and_both _ _ (eq-eqb c c refl) refl);
          order = refl;
          waits = waits_alone s c is.fits.flightless;
          windows = windows s d e c is (Started c ∷ Ended c reply ∷ []);
          unchanged = refl;
        });
        fits = fits_ended s d e c is t.hist.settings t.hist.waiting (sym is.fits.known.settings) (waiting_then s c) (Started c ∷ Ended c reply ∷ [])
            t.hist.duties t.windows t.settings t.recovered alike (windows s d e c is (Started c ∷ Ended c reply ∷ [])) set_is drops;
        counted = omega (arith, is.arrived);
        ended = refl;
      } in
      subst (λ (o : Option told_end.Ended). M entries o) (sym (told_as_in s d e c is reply told told_is))
      (subst (λ (es : List Entry). M es (ended_of_member (member_of s.hist.set c) reply)) (sym entries_are) moves)

  -- it begins to work on blocks
  pub starts_working : (w : Course) (entries : List Entry) (told : Option told_end.Ended) (gives : Bool) (plan : Plan) → plan_of_start s c ≡ plan
      → owes_nothing_now (Some plan) ≡ true
      → ((v : View) → v.window ≡ [] → v.settings ≡ s.hist.settings → v.holds_dirty ≡ false → IsAtBlock v plan (Trying (progress.begun s.hist.settings.retry)))
      → held_by_plan [] plan ≡ None → end_of plan ≤ capacity s → IsOwnRange (s.hist.duties c).asks plan → is_served_plan plan ≡ true
      → w ≡ record { settings = s.hist.settings; gives = gives; moved = 0; plan = plan; step = Trying (progress.begun s.hist.settings.retry); recovered = None }
      → e.set ≡ with_started d.set c → Replaces d.commands.items e.commands.items c (record is.may.a { sent = Nothing; work = Some w })
      → entries ≡ Started c ∷ [] → told ≡ None → Moves (Work c) s d e entries told
  starts_working w entries told gives plan plan_is settled at_block unheld range own_range served w_is set_is replaces entries_are told_is =
      let h : State = started_state s c in
      let t : Scene = scene_after s (beat (Work c) (Started c ∷ []) []) in
      let owes : owed_by h c ≡ Some plan = start-owes s c is.may.m is.may.is_in ∙ ap Some plan_is in
      let settings : t.settings c ≡ s.hist.settings = put_at-own c s.hist.settings s.settings in
      let window : t.windows c ≡ [] = put_at-own c (window_after c (s.windows c) (beat (Work c) (Started c ∷ []) [])) s.windows
      ∙ ap (λ (b : Bool). cond (b || false) [] (s.windows c ++ [])) (eq-eqb c c refl) in
      let held : held_block t c ≡ None = (λ i. option_and_then (held_by_plan (window i)) (owes i)) ∙ unheld in
      let working : IsWorking (view t c) (record is.may.m { started = true })
      (record { settings = s.hist.settings; gives = gives; moved = 0; plan = plan; step = Trying (progress.begun s.hist.settings.retry); recovered = None }) = record {
        started = refl;
        owes = start-duty s c ∙ ap Some plan_is;
        settings = settings;
        retry = is.fits.known.retry;
        recovered = is.may.waiting.recovered;
        at_block = at_block (view t c) window settings (ap (λ (o : Option ℕ). option_map_or (λ b. is_dirty (t.hist.blocks b)) o false) held);
        range = range;
        own_recovery = tt;
        own_range = subst (λ (x : Result Request Sense). IsOwnRange x plan) (sym (start-asks s c)) own_range;
        served = served;
      } in
      let own : IsCommand (view t c) (record is.may.a { sent = Nothing; work = Some w }) = record {
        member = record is.may.m { started = true };
        is_in = find-started_own c s.hist.set is.may.m is.may.is_in;
        under_way = subst (λ (x : Course). IsWorking (view t c) (record is.may.m { started = true }) x) (sym w_is) working;
      } in
      let alike : (q : ℕ) → q ≢ c → IsAlike s t q = λ q other. record {
        size = refl;
        map = refl;
        member = find-started_other c q s.hist.set other;
        duty = put_at-other c q _ (begun s.hist (Work c)).duties other ∙ put_at-other c q _ s.hist.duties other;
        window = put_at-other c q _ s.windows other;
        settings = put_at-other c q s.hist.settings s.settings other;
        recovered = refl;
        dirty = λ n holds. refl;
      } in
      let M : List Entry → Option told_end.Ended → Type 0 = λ es o. Moves (Work c) s d e es o in
      let moves : M (Started c ∷ []) None = record {
        ops = [];
        added = none_added s d e is.fits is.store;
        good = still s (Work c) (Started c ∷ []) (standing s d e is.fits is.store) (record {
          tasks = and_both _ _ (and_both true _ refl (and_both _ true (start_lawful s d c is.may) refl)) (ap owes_nothing_now owes ∙ settled);
          blocks = refl;
          shown = (tt, tt);
          step = (refl, refl);
          on_none = λ b. refl;
          on_one = refl;
          own = and_both _ _ (eq-eqb c c refl) refl;
          order = refl;
          waits = waits_alone s c is.fits.flightless;
          windows = windows s d e c is (Started c ∷ []);
          unchanged = refl;
        });
        fits = record {
          size = is.fits.size;
          store = has_same s d e is.fits is.store t refl refl;
          cached = cached s d e c is t (Started c ∷ []) refl refl refl refl refl refl refl;
          known = knows s d e c is t refl (sym is.fits.known.settings) (waiting_then s c) refl refl;
          tasks = record {
            set = set_is ∙ ap (λ (ms : List Member). with_started ms c) is.fits.tasks.set;
            arrived = is.arrived ∙ is.fits.tasks.arrived;
            came = All-started c s.hist.arrived s.hist.set is.fits.tasks.came;
          };
          staged = all_staged t e.commands.items c
              (subst (λ (o : Option Accepted). IsStaged (view t c) o) (sym replaces.own) own)
              (λ q other. staged-alike s t q (accepted_of d.commands.items q) (accepted_of e.commands.items q) (alike q other)
              (replaces.others q other) (is.fits.staged q));
          apart = apart_none s t c is.fits.apart (same_flights s (beat (Work c) (Started c ∷ []) []) is.fits.flightless)
              (λ q other. held-alike s t q (alike q other)) held;
          windows = windows s d e c is (Started c ∷ []);
          stands = still_stands s d e is.fits is.store;
          unstuck = quiet_back s (beat (Work c) (Started c ∷ []) []) is.fits.unstuck;
          flightless = stays_flightless s (beat (Work c) (Started c ∷ []) []) is.fits.flightless;
        };
        counted = omega (arith, is.arrived);
        ended = refl;
      } in
      subst (λ (o : Option told_end.Ended). M entries o) (sym told_is) (subst (λ (es : List Entry). M es None) (sym entries_are) moves)

-- a plan that begins with a reply, one that begins with data, and one that begins with work
pub begins_with_reply : (m : DefectMap) (blocks : ℕ) (settings : Settings) (plan : Plan) (asks : Result Request Sense) (sent : DataOut) (given : Reply)
    → BeginsBy m blocks settings plan asks sent (first_variant.Reply given) → plan ≡ Ending given
begins_with_reply m blocks settings (Ending reply) asks sent given is = ap Ending (sym is)
begins_with_reply m blocks settings other asks sent given is = absurd is

pub record BeginsWithPage (m : DefectMap) (plan : Plan) (asks : Result Request Sense) (bytes : List ℕ) (given : Reply) : Type 0 where
  pub planned : List ℕ
  pub plan_is : plan ≡ Answering planned given
  pub page_is : bytes ≡ page_of m asks planned

pub begins_with_page : (m : DefectMap) (blocks : ℕ) (settings : Settings) (plan : Plan) (asks : Result Request Sense) (sent : DataOut) (bytes : List ℕ) (given : Reply)
    → BeginsBy m blocks settings plan asks sent (first_variant.Page bytes given) → BeginsWithPage m plan asks bytes given
begins_with_page m blocks settings (Answering planned reply) asks sent bytes given is =
    record { planned = planned; plan_is = ap (Answering planned) (sym is.1); page_is = is.0 }
begins_with_page m blocks settings other asks sent bytes given is = absurd is

pub begins_with_change : (m : DefectMap) (blocks : ℕ) (settings : Settings) (plan : Plan) (asks : Result Request Sense) (sent : DataOut) (made : Settings)
    → BeginsBy m blocks settings plan asks sent (first_variant.Change made) → (plan ≡ Changing) × IsSelected blocks settings asks sent made
begins_with_change m blocks settings Changing asks sent made is = (refl, is)
begins_with_change m blocks settings other asks sent made is = absurd is

abbrev pub IsWork : Plan → Type 0
IsWork (Ending reply) = ⊥
IsWork (Answering bytes reply) = ⊥
IsWork Changing = ⊥
IsWork other = Unit {0}

pub record BeginsWork (blocks : ℕ) (plan : Plan) (asks : Result Request Sense) (sent : DataOut) (request : Request) : Type 0 where
  pub work : IsWork plan
  pub is_for : IsWorkFor blocks asks sent request

pub begins_with_work : (m : DefectMap) (blocks : ℕ) (settings : Settings) (plan : Plan) (asks : Result Request Sense) (sent : DataOut) (command : Command)
    → BeginsBy m blocks settings plan asks sent (first_variant.Work command) → BeginsWork blocks plan asks sent (request_of command)
begins_with_work m blocks settings (Ending reply) asks sent command is = absurd is
begins_with_work m blocks settings (Answering planned reply) asks sent command is = absurd is
begins_with_work m blocks settings Changing asks sent command is = absurd is
begins_with_work m blocks settings other asks sent command is = record { work = tt; is_for = is }

pub no_ending : (plan : Plan) → IsWork plan → IsNoEnding plan
no_ending (Ending reply) work = absurd work
no_ending other work = tt

-- a plan depends on these parts of a state and of a command alone
first-same : (blocks i : ℕ) (h k : State) (x y : Duty) → h.settings ≡ k.settings → h.waiting ≡ k.waiting → h.corrupt ≡ k.corrupt → h.scan ≡ k.scan
    → x.code ≡ y.code → x.asks ≡ y.asks → x.sent ≡ y.sent → first_plan blocks h i x ≡ first_plan blocks k i y
first-same blocks i h k x y settings waiting corrupt scan code asks sent =
    λ j. first_plan blocks (record h { settings = settings j; waiting = waiting j; corrupt = corrupt j; scan = scan j }) i (record x { code = code j; asks = asks j; sent = sent j })

-- what is first by what the drive knows is first by the history
pub first-known : (s : Scene) (d : Server) (c : ℕ) (first : First) (m : Member) (a : Accepted) → Fits s d → MayStart s d c → member_of d.set c ≡ Some m → accepted_of d.commands.items c ≡ Some a
    → IsFirstBy d.store.map d.known m a first → IsFirst s c first
first-known s d c first m a fits may in_set in_list is =
    let m_is : m ≡ may.m = (let here : member_of s.hist.set c ≡ Some m = sym (ap (λ (ms : List Member). member_of ms c) fits.tasks.set) ∙ in_set in
    let there : member_of s.hist.set c ≡ Some may.m = may.is_in in cc) in
    let a_is : a ≡ may.a = (let there : accepted_of d.commands.items c ≡ Some may.a = may.a_is in cc) in
    let size : d.known.capacity ≡ capacity s = fits.known.capacity in
    let i_is : m.task.initiator ≡ initiator_of s.hist c =
    ap (λ (x : Member). x.task.initiator) m_is ∙ sym (ap (λ (o : Option Member). option_map_or (λ (x : Member). x.task.initiator) o 0) may.is_in) in
    let asks : read_of a.cdb a.sent d.known.capacity ≡ (s.hist.duties c).asks =
    (λ j. read_of (a_is j).cdb (a_is j).sent (size j)) ∙ sym may.waiting.asks in
    let sent : a.sent ≡ (s.hist.duties c).sent = ap (λ (x : Accepted). x.sent) a_is ∙ sym may.waiting.sent in
    let code : slice_index a.cdb 0 ≡ (s.hist.duties c).code = ap (λ (x : Accepted). slice_index x.cdb 0) a_is ∙ sym may.waiting.code in
    let plan : first_plan d.known.capacity (state_of d.known) m.task.initiator (duty_of (slice_index a.cdb 0) (read_of a.cdb a.sent d.known.capacity) a.sent)
    ≡ first_plan (capacity s) s.hist (initiator_of s.hist c) (s.hist.duties c) =
    (λ j. first_plan (size j) (state_of d.known) (i_is j) (duty_of (slice_index a.cdb 0) (read_of a.cdb a.sent d.known.capacity) a.sent))
    ∙ first-same (capacity s) (initiator_of s.hist c) (state_of d.known) s.hist (duty_of (slice_index a.cdb 0) (read_of a.cdb a.sent d.known.capacity) a.sent) (s.hist.duties c)
    fits.known.settings fits.known.waiting fits.known.corrupt fits.known.scan code asks sent in
    let P : DefectMap → ℕ → Settings → Plan → Type 0 = λ n blocks settings p. BeginsBy n blocks settings p (s.hist.duties c).asks (s.hist.duties c).sent first in
    let Q : Result Request Sense → DataOut → Type 0 = λ x y. BeginsBy d.store.map d.known.capacity d.known.settings
    (first_plan d.known.capacity (state_of d.known) m.task.initiator (duty_of (slice_index a.cdb 0) (read_of a.cdb a.sent d.known.capacity) a.sent)) x y first in
    let moved : Q (s.hist.duties c).asks (s.hist.duties c).sent =
    subst (λ (y : DataOut). Q (s.hist.duties c).asks y) sent (subst (λ (x : Result Request Sense). Q x a.sent) asks is) in
    let asked : Plan = first_plan (capacity s) s.hist (initiator_of s.hist c) (s.hist.duties c) in
    subst (λ (n : DefectMap). P n (capacity s) s.hist.settings asked) fits.store.map
    (subst (λ (settings : Settings). P d.store.map (capacity s) settings asked) fits.known.settings
    (subst (λ (blocks : ℕ). P d.store.map blocks d.known.settings asked) size
    (subst (λ (p : Plan). P d.store.map d.known.capacity d.known.settings p) plan moved)))

pub in_set : (s : Scene) (d : Server) (c : ℕ) → Fits s d → (may : MayStart s d c) → member_of d.set c ≡ Some may.m
in_set s d c fits may = ap (λ (ms : List Member). member_of ms c) fits.tasks.set ∙ may.is_in

-- the attentions that wait after an accepted command starts
pub told-accepted : (known : Waiting) (set : List Member) (c code capacity : ℕ) (a : Accepted) (asks : Result Request Sense) (waiting : Waiting)
    → waiting ≡ waiting_after (Work c) (waiting_state known set (duty_of code asks Nothing)) (Started c) → code ≡ slice_index a.cdb 0
    → asks ≡ read_of a.cdb a.sent capacity
    → waiting ≡ waiting_at_start known (initiator_of (with_set set) c) (duty_of (slice_index a.cdb 0) (read_of a.cdb a.sent capacity) a.sent)
told-accepted known set c code capacity a asks waiting is code_is asks_are =
    is ∙ (λ j. waiting_at_start known (initiator_of (with_set set) c) (duty_of (code_is j) (asks_are j) a.sent))

-- the attentions that wait by what the drive knows are those by the history
pub told-known : (s : Scene) (d : Server) (c : ℕ) (items : List Accepted) (known : Known) → Fits s d → MayStart s d c → items ≡ d.commands.items
    → ((a : Accepted) → accepted_of items c ≡ Some a → known ≡ record d.known {
      waiting = waiting_at_start d.known.waiting (initiator_of (with_set d.set) c)
          (duty_of (slice_index a.cdb 0) (read_of a.cdb a.sent d.known.capacity) a.sent);
    })
    → known ≡ record d.known { waiting = waiting_told s c }
told-known s d c items known fits may items_are tells =
    let asks : read_of may.a.cdb may.a.sent d.known.capacity ≡ (s.hist.duties c).asks =
    (λ j. read_of may.a.cdb may.a.sent (fits.known.capacity j)) ∙ sym may.waiting.asks in
    let code : slice_index may.a.cdb 0 ≡ (s.hist.duties c).code = sym may.waiting.code in
    tells may.a (ap (λ (xs : List Accepted). accepted_of xs c) items_are ∙ may.a_is)
    ∙ (λ j. record d.known {
      waiting = waiting_at_start (fits.known.waiting j) (initiator_of (with_set (fits.tasks.set j)) c)
          (record (s.hist.duties c) { code = code j; asks = asks j });
    })

pub is_in-known : (s : Scene) (d : Server) (c : ℕ) → Fits s d → MayStart s d c → IsIn d.set c
is_in-known s d c fits may = subst IsSome (sym (in_set s d c fits may)) refl

-- what an answer says of what is in it
pub IfOk-map : {T E : Type 0} (P Q : T → Type 0) (r : Result T E) → ((x : T) → P x → Q x) → IfOk r P → IfOk r Q
IfOk-map P Q (Ok x) f h = f x h
IfOk-map P Q (Err e) f h = h

pub served_first : (s : Scene) (d : Server) (c : ℕ) (a : Accepted) → Fits s d → MayStart s d c → accepted_of d.commands.items c ≡ Some a
    → is_served (read_of a.cdb a.sent d.known.capacity) ≡ true
served_first s d c a fits may in_list =
    let a_is : a ≡ may.a = (let there : accepted_of d.commands.items c ≡ Some may.a = may.a_is in cc) in
    (λ j. is_served (read_of (a_is j).cdb (a_is j).sent (fits.known.capacity j))) ∙ (ap is_served (sym may.waiting.asks) ∙ may.waiting.served)

-- a command that begins with work names a block
pub not_empty : (count : ℕ) (plan : Plan) (rest : Plan) → plan ≡ unwrap_or (unless_empty count rest) Over → IsWork plan → eqb count 0 ≡ false
not_empty count plan rest is work = by (eqb count 0) refl is
  where
    by : (b : Bool) → eqb count 0 ≡ b → plan ≡ unwrap_or (cond b (Some (Ending good)) (Some rest)) Over → eqb count 0 ≡ false
    by true e same = absurd (subst IsWork same work)
    by false e same = e

pub few_blocks : (s : Scene) → capacity s ≤ 4096
few_blocks s = let most = s.size.within_limits.greatest in omega (arith, most)

-- data out, and work begun
pub both_replaced : (xs ys zs : List Accepted) (c : ℕ) (a : Accepted) (w : Course) → Replaces xs ys c (record a { sent = Nothing })
    → Replaces ys zs c (record a { sent = Nothing; work = Some w }) → Replaces xs zs c (record a { sent = Nothing; work = Some w })
both_replaced xs ys zs c a w first second = record { own = second.own; others = λ q other. second.others q other ∙ first.others q other }

pub is_in-started : (s : Scene) (d : Server) (c : ℕ) (set : List Member) → Fits s d → MayStart s d c → set ≡ with_started d.set c → IsIn set c
is_in-started s d c set fits may set_is =
    let here : member_of set c ≡ Some (record may.m { started = true }) =
    ap (λ (ms : List Member). member_of ms c) (set_is ∙ ap (λ (ms : List Member). with_started ms c) fits.tasks.set) ∙ find-started_own c s.hist.set may.m may.is_in in
    subst IsSome (sym here) refl
