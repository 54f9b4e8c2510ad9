-- A turn of a drive, from its refusal to the turn that it adds.
use Rattle.std.proofs.Common.{◌≡◌, ◌⊎◌, inl, inr, ℕ, ◌<◌, Bool, true, false, cond, List, [], ◌∷◌, ◌++◌, length, Option, Some, None, refl, sym, ap, ◌∙◌, subst, arith}
use Rattle.std.specs.Prelude.{MatchOption, ◌&&◌, ◌||◌, nat_le}
use Rattle.std.specs.List.{list_any}
use Rattle.std.specs.Option.{option_map_or, option_or, is_some}
use Rattle.std.proofs.lemmas.Bool.{leb-false}
use Rattle.disk_base.specs.Along.{Along}
use Rattle.platter_model.specs.TrueLog.{is_off}
use Rattle.write_cache.specs.Contents.{Contents}
use Rattle.task_set.specs.Members.{member_of}
use Rattle.geometry_map.specs.DefectMap.{DefectMap}
use Rattle.history_replay.specs.declared.known.Known.{Known}
use Rattle.block_machine.specs.declared.entry.Entry.{Entry}
use Rattle.block_machine.specs.declared.entry.Entry.TheVariants.{Arrived, Started, Get, Put, Harden, Passed, GiveUp, Page, Ended, Aborted, Asked, Mode, Scanned, Logged, Cut, PoweredOn, Tick, Blank, Fresh}
use Rattle.block_machine.specs.declared.turn.Label.{Label}
use Rattle.block_machine.specs.declared.turn.Turn.{Turn}
use Rattle.block_machine.specs.State.{State}
use Rattle.block_machine.specs.Steps.{entry_after, begun}
use Rattle.drive_scene.specs.declared.event.Event.{Event}
use Rattle.drive_scene.specs.declared.event.Event.TheVariants as event
use Rattle.drive_scene.specs.declared.answer.Pick.{Pick}
use Rattle.drive_scene.specs.declared.answer.TurnAnswer.{TurnAnswer}
use Rattle.drive_scene.specs.declared.answer.TurnAnswer.TheVariants as answer
use Rattle.drive_core.specs.declared.accepted.Accepted.{Accepted}
use Rattle.drive_scene.specs.declared.made.Made.{Made}
use Rattle.drive_core.specs.declared.server.Server.{Server}
use Rattle.drive_core.specs.declared.turning.MadeTurn.{MadeTurn}
use Rattle.drive_scene.specs.Scene.{Scene, Beat, capacity, beat}
use Rattle.drive_scene.specs.Holds.{destaged}
use Rattle.move_table.specs.Table.{job_in}
use Rattle.move_table.specs.declared.flight.Flight.{Flight}
use Rattle.drive_scene.specs.Evidence.{Shows}
use Rattle.drive_scene.specs.Run.{Run, behind_factory, run_of, scene_of}
use Rattle.drive_scene.specs.View.{view}
use Rattle.drive_core.specs.Commands.{IsStaged}
use Rattle.drive_core.specs.Accepting.{accepted_of}
use Rattle.drive_core.specs.Fits.{IsCached, KnowsHistory, Fits}
use Rattle.drive_core.specs.Kept.{Kept}
use Rattle.drive_core.specs.Moves.{Moves, IsSameServer}
use Rattle.drive_scene.specs.Able.{refusal, refusal_on, work_refused, is_spent, needs_power, picked, nothing_waiting}
use Rattle.drive_core.specs.Served.{IsServed}
use Rattle.drive_core.specs.Making.{MayCome, IsTurnOf}
use Rattle.drive_scene.specs.Turning.{AddsTurn, coming_after, is_scanned}
use Rattle.drive_core.proofs.Pushes.{kept-push}
use Rattle.geometry_map.specs.declared.size.Size.{Size}

-- room aside, the parts of a drive fit as before
pub fits-same : (s : Scene) (old new : Server) → IsSameServer old new → Fits s old → Fits s new
fits-same s old new same fits = record {
  size = fits.size;
  store = record {
    map = same.store.map ∙ fits.store.map;
    ops = same.store.ops ∙ fits.store.ops;
    present = fits.store.present;
    powered = fits.store.powered;
    unarmed = same.store.armed ∙ fits.store.unarmed;
    ready = same.store.ready ∙ fits.store.ready;
    sound = fits.store.sound;
  };
  cached = subst (λ (cache : Contents). IsCached s cache) (sym same.store.cache) fits.cached;
  known = subst (λ (known : Known). KnowsHistory s known) (sym same.known) fits.known;
  tasks = record { set = same.set ∙ fits.tasks.set; arrived = same.arrived ∙ fits.tasks.arrived; came = fits.tasks.came };
  staged = λ c. subst (λ (commands : List Accepted). IsStaged (view s c) (accepted_of commands c)) (sym same.commands) (fits.staged c);
  apart = fits.apart;
  windows = fits.windows;
  stands = fits.stands;
  unstuck = fits.unstuck;
  flightless = fits.flightless;
}

pub run-same : (made : Made) (old new : Server) (turns given : List Turn) (coming : ℕ) → given ≡ turns → IsSameServer old new
    → run_of made new.store given coming ≡ run_of made old.store turns coming
run-same made old new turns given coming is same = λ i. record {
  made = made;
  turns = is i;
  ops = same.store.ops i;
  coming = coming;
}

pub kept-same : (made : Made) (old new : Server) (turns given : List Turn) (coming : ℕ) → given ≡ turns → IsSameServer old new → Kept (run_of made old.store turns coming) old
    → Kept (run_of made new.store given coming) new
kept-same made old new turns given coming is same kept =
    subst (λ (r : Run). Kept r new) (sym (run-same made old new turns given coming is same)) (record {
      size = ap (λ (m : DefectMap). m.size) same.store.map ∙ kept.size;
      follow = kept.follow;
      good = kept.good;
      fits = fits-same (scene_of (run_of made old.store turns coming)) old new same kept.fits;
      numbered = omega (arith, kept.numbered, same.arrived);
    })

-- what isn't refused may come, however many arrivals are expected
unasked : {X : Type 0} (f : X → Option TurnAnswer) (o : Option X) (n : ℕ) → option_map_or f o (Some (answer.Idle n)) ≡ None
    → option_map_or f o (Some (answer.Idle 0)) ≡ None
unasked f None n is = absurd (cc)
unasked f (Some x) n is = is

idle_at_none : (t : Bool) (n : ℕ) → cond t None (Some (answer.Idle n)) ≡ None → cond t None (Some (answer.Idle 0)) ≡ None
idle_at_none true n is = refl
idle_at_none false n is = absurd (cc)

free_at_none : (s : Scene) (n : ℕ) (e : Event) → refusal_on s n e ≡ None → refusal_on s 0 e ≡ None
free_at_none s n (event.Arrive a) is = is
free_at_none s n (event.Work c) is = unasked (work_refused s c) (member_of s.hist.set c) n is
free_at_none s n (event.Job j) is = idle_at_none (is_some (job_in s.back.flights j)) n is
free_at_none s n (event.Any x) is = unasked (λ (p : Pick). None) (picked s nothing_waiting x) n is
free_at_none s n event.Scan is = is
free_at_none s n event.Destage is = idle_at_none (is_some (destaged s)) n is
free_at_none s n (event.World w) is = is

-- no turn of a move or of the scan comes
pub no_background : (s : Scene) (d : Server) (e : Event) → MayCome s d e → ((j : ℕ) × (e ≡ event.Job j)) ⊎ (e ≡ event.Scan) → ⊥
no_background s d e may (inl job) =
    let free : refusal_on s 0 (event.Job job.0) ≡ None = ap (refusal_on s 0) (sym job.1) ∙ may.free in
    let idle : refusal_on s 0 (event.Job job.0) ≡ Some (answer.Idle 0) =
    ap (λ (fs : List Flight). cond (is_some (job_in fs job.0)) None (Some (answer.Idle 0))) may.fits.flightless in
    cc
no_background s d e may (inr scan) = subst (λ (x : Event). IsServed s.size x) scan may.served

no_reason : (t u : Bool) (a b : TurnAnswer) (o : Option TurnAnswer) → option_or (option_or (cond t (Some a) None) (cond u (Some b) None)) o ≡ None
    → (u ≡ false) × (o ≡ None)
no_reason true u a b o is = absurd (cc)
no_reason false true a b o is = absurd (cc)
no_reason false false a b o is = (refl, is)

pub may_come : (made : Made) (d : Server) (turns : List Turn) (coming : ℕ) (e : Event) → Kept (run_of made d.store turns coming) d → IsServed made.size e
    → refusal (run_of made d.store turns coming) e ≡ None → MayCome (scene_of (run_of made d.store turns coming)) d e
may_come made d turns coming e kept served free =
    let s : Scene = scene_of (run_of made d.store turns coming) in
    let none = no_reason (needs_power e && is_off d.store.platter.ops) (is_spent (run_of made d.store turns coming)) answer.Off answer.Spent
    (refusal_on (scene_of (run_of made d.store turns coming)) coming e) free in
    record {
      fits = kept.fits;
      served = subst (λ (z : Size). IsServed z e) (sym kept.size ∙ (ap (λ (m : DefectMap). m.size) kept.fits.store.map ∙ kept.fits.size)) served;
      free = free_at_none s coming e none.1;
      numbered = omega (arith, kept.numbered, few (length turns) none.0);
    }
  where
    few : (n : ℕ) → nat_le 4294967294 n ≡ false → n < 4294967294
    few n is = let less = leb-false 4294967294 n is in omega (arith)

-- a drive after room was reserved for the turn of an event that isn't refused
pub record IsReserved (made : Made) (now : Run) (e : Event) (d : Server) (turns : List Turn) (coming : ℕ) : Type 0 where
  pub same : run_of made d.store turns coming ≡ now
  pub kept : Kept (run_of made d.store turns coming) d
  pub free : refusal now e ≡ None
  pub may : MayCome (scene_of (run_of made d.store turns coming)) d e

pub reserved : (made : Made) (old new : Server) (turns given : List Turn) (coming : ℕ) (now : Run) (e : Event) (refused : Option TurnAnswer)
    → Kept (run_of made old.store turns coming) old → run_of made old.store turns coming ≡ now → given ≡ turns → IsSameServer old new → IsServed now.made.size e
    → refused ≡ refusal now e → refused ≡ None → IsReserved made now e new given coming
reserved made old new turns given coming now e refused kept was is same served answered none =
    let kept_on : Kept (run_of made new.store given coming) new = kept-same made old new turns given coming is same kept in
    let same_run : run_of made new.store given coming ≡ now = run-same made old new turns given coming is same ∙ was in
    let free : refusal now e ≡ None = sym answered ∙ none in
    record {
      same = same_run;
      kept = kept_on;
      free = free;
      may = may_come made new given coming e kept_on (subst (λ (r : Run). IsServed r.made.size e) (sym same_run) served)
          (subst (λ (r : Run). refusal r e ≡ None) (sym same_run) free);
    }

-- the turn of what was served
abbrev pub turn_of : MadeTurn → ℕ → ℕ → List Entry → Turn
turn_of done from to entries = record { label = done.label; ops_from = from; ops_to = to; entries = entries }

pub made_turn : (made : Made) (now : Run) (e : Event) (d new : Server) (turns : List Turn) (coming : ℕ) (done : MadeTurn) (given entries : List Entry) → IsReserved made now e d turns coming
    → ((s : Scene) → MayCome s d e → IsTurnOf s e d new given done) → entries ≡ given
    → IsTurnOf (scene_of (run_of made d.store turns coming)) e d new entries done
made_turn made now e d new turns coming done given entries reserved makes is =
    let s : Scene = scene_of (run_of made d.store turns coming) in
    subst (λ (es : List Entry). IsTurnOf (scene_of (run_of made d.store turns coming)) e d new es done) (sym is) (makes s reserved.may)

-- no entry of a good turn is one of the scan
unseen : (s : Scene) (t : Beat) (h : State) (e : Entry) → Shows s t h e → is_scanned e ≡ false
unseen s t h (Arrived c i tag a cdb sent) shown = refl
unseen s t h (Started c) shown = refl
unseen s t h (Get c b v) shown = refl
unseen s t h (Put c b v) shown = refl
unseen s t h (Harden who b) shown = refl
unseen s t h (Passed c from to) shown = refl
unseen s t h (GiveUp b) shown = refl
unseen s t h (Page c bytes) shown = refl
unseen s t h (Ended c reply) shown = refl
unseen s t h (Aborted c) shown = refl
unseen s t h (Asked i what) shown = refl
unseen s t h (Mode settings) shown = refl
unseen s t h (Scanned b what) shown = absurd shown
unseen s t h (Logged finding) shown = refl
unseen s t h Cut shown = refl
unseen s t h (PoweredOn outcome) shown = refl
unseen s t h (Tick minutes) shown = refl
unseen s t h (Blank c) shown = refl
unseen s t h (Fresh c) shown = refl

pub unscanned : (s : Scene) (t : Beat) (n : ℕ) (l : Label) (h : State) (entries : List Entry) → Along (entry_after n l) (Shows s t) h entries
    → list_any is_scanned entries ≡ false
unscanned s t n l h [] shown = refl
unscanned s t n l h (e ∷ rest) shown =
    ap (λ (b : Bool). b || list_any is_scanned rest) (unseen s t h e shown.0)
    ∙ unscanned s t n l (entry_after n l h e) rest shown.1

-- the turn that is added
pub adds-turn : (made : Made) (old new : Server) (turns given : List Turn) (coming number : ℕ) (e : Event) (t : Turn) (done : MadeTurn)
    → IsTurnOf (scene_of (run_of made old.store turns coming)) e old new t.entries done → Kept (run_of made old.store turns coming) old → t.label ≡ done.label
    → given ≡ turns ++ t ∷ [] → number ≡ length given
    → AddsTurn (run_of made old.store turns coming) e (answer.Done number done.ended false) (run_of made new.store given (coming_after coming e))
adds-turn made old new turns given coming number e t done is_turn kept label is counted =
    let s : Scene = scene_of (run_of made old.store turns coming) in
    let scans : list_any is_scanned t.entries ≡ false =
    unscanned s (beat done.label t.entries is_turn.moves.ops) (capacity s) done.label (begun s.hist done.label) t.entries is_turn.moves.good.shown in
    record {
      turn = t;
      turns = is;
      label = is_turn.label ∙ ap Some (sym label);
      arrival = is_turn.arrival;
      ops = is_turn.moves.ops;
      added = is_turn.moves.added;
      made = refl;
      coming = refl;
      answered = λ i. answer.Done (counted i) (is_turn.moves.ended i) (sym scans i);
    }

pub kept-after : (made : Made) (old new : Server) (turns given : List Turn) (coming next : ℕ) (e : Event) (t : Turn) (done : MadeTurn)
    → IsTurnOf (scene_of (run_of made old.store turns coming)) e old new t.entries done → Kept (run_of made old.store turns coming) old → t.label ≡ done.label
    → t.ops_from ≡ length (behind_factory made old.store.platter.ops) → t.ops_to ≡ length (behind_factory made new.store.platter.ops) → given ≡ turns ++ t ∷ [] → Kept (run_of made new.store given next) new
kept-after made old new turns given coming next e t done is_turn kept label from to is =
    subst (λ (ts : List Turn). Kept (run_of made new.store ts next) new) (sym is)
    (kept-push made old new turns coming next t done.ended kept
    (subst (λ (l : Label). Moves l (scene_of (run_of made old.store turns coming)) old new t.entries done.ended) (sym label) is_turn.moves) from to)

pub given_turn : (e : Event) (refused : Option TurnAnswer) (old : Run) (given : TurnAnswer) (new : Run) → refused ≡ None → AddsTurn old e given new
    → MatchOption refused (AddsTurn old e given new) (λ answered. (given ≡ answered) × (new ≡ old))
given_turn e refused old given new none adds =
    subst (λ (r : Option TurnAnswer). MatchOption r (AddsTurn old e given new) (λ answered. (given ≡ answered) × (new ≡ old))) (sym none) adds
