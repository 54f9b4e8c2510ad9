-- A turn in which a task management function is asked for.
use Rattle.std.proofs.Common.{◌≡◌, ◌⊎◌, inl, inr, ℕ, ◌≤◌, Bool, true, false, not, cond, eqb, length, List, [], ◌∷◌, ◌++◌, map, filter, Option, Some, None, refl, sym, ap, ◌∙◌, subst, arith}
use Rattle.std.specs.Prelude.{All, fold}
use Rattle.std.specs.Option.{is_some}
use Rattle.std.proofs.lemmas.Bool.{eq-eqb}
use Rattle.std.proofs.lemmas.List.Elements.{All-filter}
use Rattle.disk_base.specs.declared.command.Function.{Function}
use Rattle.disk_base.specs.declared.command.Function.TheVariants.{Abort, AbortSet, Clear, Reset}
use Rattle.platter_model.specs.declared.op.Op.{Op}
use Rattle.mode_pages.specs.declared.settings.Settings.{Settings}
use Rattle.task_set.specs.declared.member.Member.{Member}
use Rattle.task_set.specs.Members.{IsByAge, is_named, member_of, numbers, without}
use Rattle.sector_store.specs.State.{Contained}
use Rattle.block_machine.specs.declared.entry.Entry.{Entry}
use Rattle.block_machine.specs.declared.entry.Entry.TheVariants.{Asked, Aborted}
use Rattle.block_machine.specs.declared.turn.Label.TheVariants.{Arrive}
use Rattle.block_machine.specs.Attentions.{after_clear, after_reset}
use Rattle.block_machine.specs.Blocks.{is_dirty}
use Rattle.block_machine.specs.State.{State, no_duty}
use Rattle.block_machine.specs.Steps.{entry_after, settings_after, waiting_after}
use Rattle.block_machine.specs.Turns.{are_aborted, named_by}
use Rattle.block_machine.proofs.Booleans.{and_both}
use Rattle.history_replay.specs.Known.{scan_of}
use Rattle.history_replay.specs.Warning.{KnownWait, waiting_state}
use Rattle.drive_core.specs.declared.accepted.Accepted.{Accepted}
use Rattle.drive_core.specs.declared.server.Server.{Server}
use Rattle.drive_scene.specs.Scene.{Scene, capacity, beat}
use Rattle.drive_scene.specs.After.{scene_after, windows_with}
use Rattle.drive_scene.proofs.DestageTurns.{quiet_back}
use Rattle.drive_scene.specs.Evidence.{lba}
use Rattle.drive_scene.specs.Holds.{held_block}
use Rattle.drive_core.specs.Accepting.{accepted_of}
use Rattle.drive_scene.specs.View.{view}
use Rattle.drive_core.specs.Commands.{IsStaged}
use Rattle.drive_scene.specs.GoodTurn.{IsStood}
use Rattle.drive_scene.specs.Laws.{StillTurnsAreGood}
use Rattle.drive_core.specs.Fits.{Fits, IsCached}
use Rattle.drive_core.specs.Moves.{Moves}
use Rattle.drive_scene.proofs.Keyed.{find-kept}
use Rattle.drive_scene.proofs.Elsewhere.{IsAlike, held-alike}
use Rattle.drive_scene.proofs.Uncommitted.{stays_flightless}
use Rattle.drive_core.proofs.Flightless.{apart_alone}
use Rattle.drive_core.proofs.Elsewhere.{staged-alike}
use Rattle.drive_scene.proofs.Apart.{held_out}
use Rattle.drive_core.proofs.Parts.{cached_got, quiet_got}
use Rattle.drive_core.proofs.Unmoved.{good_arrival, still_stands, has_same, none_added}
use Rattle.drive_scene.proofs.Leaving.{leave_in_turn, left_or_same, state_left, windows_left, settings_left, recovered_left, all_aborted, blocks_allow, shown_left, on_none, none_told, on_no_block, in_order}

-- the commands that a function of an initiator names
abbrev pub is_named_by : ℕ → Function → Member → Bool
is_named_by i what m = is_named (named_by i what) m

-- a function that names all leaves none
pub all_named : (set : List Member) → filter (λ (m : Member). true) set ≡ set
all_named [] = refl
all_named (m ∷ ms) = ap (λ (l : List Member). m ∷ l) (all_named ms)

pub none_left : (set : List Member) → filter (λ (m : Member). false) set ≡ []
none_left [] = refl
none_left (m ∷ ms) = none_left ms

-- a drive after a function: the set without the commands that it names, and the commands that are still in it
pub record IsAsked (d e : Server) (i : ℕ) (what : Function) : Type 0 where
  pub store : e.store ≡ d.store
  pub arrived : e.arrived ≡ d.arrived
  pub set : e.set ≡ filter (λ m. not (is_named_by i what m)) d.set
  pub commands : e.commands.items ≡ filter (λ a. is_some (member_of e.set a.c)) d.commands.items
  pub capacity : e.known.capacity ≡ d.known.capacity
  pub settings : e.known.settings ≡ settings_after d.known.settings (Asked i what)
  pub waiting : e.known.waiting ≡ waiting_after (Arrive i) (waiting_state d.known.waiting d.set no_duty) (Asked i what)
  pub warned : KnownWait e.known.waiting
  pub corrupt : e.known.corrupt ≡ d.known.corrupt
  pub scan : scan_of e.known.scan ≡ scan_of d.known.scan

-- attentions that a function raises go by those that waited and by the set
waiting-asked : (g h : State) (i : ℕ) (what : Function) → g.set ≡ h.set → g.waiting ≡ h.waiting
    → waiting_after (Arrive i) g (Asked i what) ≡ waiting_after (Arrive i) h (Asked i what)
waiting-asked g h i (Abort tag) set waiting = waiting
waiting-asked g h i AbortSet set waiting = waiting
waiting-asked g h i Clear set waiting = λ k. after_clear i (set k) (waiting k)
waiting-asked g h i Reset set waiting = ap after_reset waiting

-- the retry count stays, or is the default
retry-asked : (settings : Settings) (i : ℕ) (what : Function) → settings.retry ≤ 20 → (settings_after settings (Asked i what)).retry ≤ 20
retry-asked settings i (Abort tag) few = few
retry-asked settings i AbortSet few = few
retry-asked settings i Clear few = few
retry-asked settings i Reset few = omega arith

module _ (s : Scene) (d e : Server) (i : ℕ) (what : Function) (gone : List ℕ) (fits : Fits s d) (by_age : IsByAge d.set)
    (gone_are : gone ≡ numbers (filter (is_named_by i what) d.set)) (asked : IsAsked d e i what) (still : StillTurnsAreGood) where
  abbrev pub entries : List Entry
  entries = Asked i what ∷ map Aborted gone

  abbrev t : Scene
  t = scene_after s (beat (Arrive i) entries [])

  abbrev h : State
  h = entry_after (capacity s) (Arrive i) s.hist (Asked i what)

  -- after the function the set alone changes
  reached : t.hist ≡ record h { set = fold without s.hist.set gone }
  reached = state_left (capacity s) i h gone

  set_after : t.hist.set ≡ fold without s.hist.set gone
  set_after = ap (λ (x : State). x.set) reached

  -- the drive's set is the history's
  set_is : e.set ≡ t.hist.set
  set_is = asked.set ∙ (sym (leave_in_turn (is_named_by i what) d.set by_age)
      ∙ ((λ k. fold without (fits.tasks.set k) (sym gone_are k)) ∙ sym set_after))

  windows_are : t.windows ≡ s.windows
  windows_are = windows_left s.windows gone

  windows : (q : ℕ) → length (t.windows q) ≤ 50
  windows q = subst (λ (f : ℕ → List Op). length (f q) ≤ 50) (sym windows_are) (fits.windows q)

  -- a command left, or is in as before
  stays : (q : ℕ) → (member_of t.hist.set q ≡ None) ⊎ (member_of t.hist.set q ≡ member_of s.hist.set q)
  stays q = subst (λ (ms : List Member). (member_of ms q ≡ None) ⊎ (member_of ms q ≡ member_of s.hist.set q)) (sym set_after) (left_or_same gone s.hist.set q)

  alike : (q : ℕ) → member_of t.hist.set q ≡ member_of s.hist.set q → IsAlike s t q
  alike q same = record {
    size = refl;
    map = refl;
    member = same;
    duty = ap (λ (x : State). x.duties q) reached;
    window = ap (λ (f : ℕ → List Op). f q) windows_are;
    settings = ap (λ f. f q) (settings_left s.hist.settings s.settings gone);
    recovered = ap (λ f. f q) (recovered_left (windows_with (Arrive i) s.windows []) s.recovered gone);
    dirty = λ n holds. ap (λ (x : State). is_dirty (x.blocks n)) reached;
  }

  -- the drive knows the commands that are still in
  accepted_are : (q : ℕ) → accepted_of e.commands.items q ≡ cond (is_some (member_of t.hist.set q)) (accepted_of d.commands.items q) None
  accepted_are q =
      ap (λ (xs : List Accepted). accepted_of xs q) asked.commands
      ∙ (find-kept (λ (x : Accepted). x.c) (λ c. is_some (member_of e.set c)) q d.commands.items
      ∙ ap (λ (ms : List Member). cond (is_some (member_of ms q)) (accepted_of d.commands.items q) None) set_is)

  staged : (q : ℕ) → IsStaged (view t q) (accepted_of e.commands.items q)
  staged q = by (member_of t.hist.set q) refl (stays q)
    where
      by : (o : Option Member) → member_of t.hist.set q ≡ o → (member_of t.hist.set q ≡ None) ⊎ (member_of t.hist.set q ≡ member_of s.hist.set q)
          → IsStaged (view t q) (accepted_of e.commands.items q)
      by None is which =
          subst (λ (a : Option Accepted). IsStaged (view t q) a)
          (sym (accepted_are q ∙ ap (λ (o : Option Member). cond (is_some o) (accepted_of d.commands.items q) None) is)) is
      by (Some m) is (inl none) = absurd (let never : None ≡ Some m = sym none ∙ is in cc)
      by (Some m) is (inr same) =
          staged-alike s t q (accepted_of d.commands.items q) (accepted_of e.commands.items q) (alike q same)
          (accepted_are q ∙ ap (λ (o : Option Member). cond (is_some o) (accepted_of d.commands.items q) None) is) (fits.staged q)

  -- what ended commands held is free
  apart : (x y b : ℕ) → held_block t x ≡ Some b → held_block t y ≡ Some b → x ≡ y
  apart x y b of_x of_y = by (stays x) (stays y)
    where
      free : (q : ℕ) → held_block t q ≡ Some b → member_of t.hist.set q ≡ None → ⊥
      free q of_q none = let never : None ≡ Some b = sym (held_out t q none) ∙ of_q in absurd (cc)

      by : (member_of t.hist.set x ≡ None) ⊎ (member_of t.hist.set x ≡ member_of s.hist.set x)
          → (member_of t.hist.set y ≡ None) ⊎ (member_of t.hist.set y ≡ member_of s.hist.set y) → x ≡ y
      by (inl none) other = absurd (free x of_x none)
      by (inr same) (inl none) = absurd (free y of_y none)
      by (inr one) (inr two) = fits.apart.commands x y b (sym (held-alike s t x (alike x one)) ∙ of_x) (sym (held-alike s t y (alike y two)) ∙ of_y)

  blocks_are : t.hist.blocks ≡ s.hist.blocks
  blocks_are = ap (λ (x : State). x.blocks) reached

  -- the commands that end are those that it names
  ends_named : are_aborted (numbers (filter (is_named (named_by i what)) s.hist.set)) (map Aborted gone) ≡ true
  ends_named = ap (λ (cs : List ℕ). are_aborted cs (map Aborted gone))
      (ap (λ (ms : List Member). numbers (filter (is_named_by i what) ms)) (sym fits.tasks.set) ∙ sym gone_are) ∙ all_aborted gone

  flightless : t.back.flights ≡ []
  flightless = stays_flightless s (beat (Arrive i) entries []) fits.flightless

  after_it : Fits t e
  after_it = record {
    size = fits.size;
    store = has_same s d e fits asked.store t refl refl;
    cached = subst (λ (y : Contained). IsCached t y.cache) (sym asked.store)
        (cached_got s t d.store.cache (quiet_got s t entries refl refl refl refl refl (ap (λ (x : State). x.dirty) reached) blocks_are) fits.cached);
    known = record {
      capacity = asked.capacity ∙ fits.known.capacity;
      settings = asked.settings ∙ (ap (λ (x : Settings). settings_after x (Asked i what)) fits.known.settings ∙ sym (ap (λ (x : State). x.settings) reached));
      retry = subst (λ (x : Settings). x.retry ≤ 20) (sym (ap (λ (x : State). x.settings) reached)) (retry-asked s.hist.settings i what fits.known.retry);
      waiting = asked.waiting ∙ (waiting-asked (waiting_state d.known.waiting d.set no_duty) s.hist i what fits.tasks.set fits.known.waiting
          ∙ sym (ap (λ (x : State). x.waiting) reached));
      warned = asked.warned;
      corrupt = asked.corrupt ∙ (fits.known.corrupt ∙ sym (ap (λ (x : State). x.corrupt) reached));
      readable = ap (λ (x : State). x.corrupt) reached ∙ fits.known.readable;
      scan = asked.scan ∙ (fits.known.scan ∙ sym (ap (λ (x : State). x.scan) reached));
    };
    tasks = record {
      set = set_is;
      arrived = asked.arrived ∙ (fits.tasks.arrived ∙ sym (ap (λ (x : State). x.arrived) reached));
      came = subst (λ (n : ℕ). All (λ (m : Member). m.task.c ≤ n) t.hist.set) (sym (ap (λ (x : State). x.arrived) reached))
          (subst (λ (ms : List Member). All (λ (m : Member). m.task.c ≤ s.hist.arrived) ms) (sym asked.set ∙ set_is)
          (All-filter (λ m. not (is_named_by i what m)) (λ (m : Member). m.task.c ≤ s.hist.arrived) d.set
          (subst (λ (ms : List Member). All (λ (m : Member). m.task.c ≤ s.hist.arrived) ms) (sym fits.tasks.set) fits.tasks.came)));
    };
    staged = staged;
    apart = apart_alone t flightless apart;
    windows = windows;
    stands = subst (λ bs. IsStood s.map (s.ops ++ []) bs) (sym blocks_are) (still_stands s d e fits asked.store);
    unstuck = quiet_back s (beat (Arrive i) entries []) fits.unstuck;
    flightless = flightless;
  }

  made : Moves (Arrive i) s d e entries None
  made = record {
    ops = [];
    added = none_added s d e fits asked.store;
    good = good_arrival s d e fits asked.store still i entries
        (and_both (eqb i i) (are_aborted (numbers (filter (is_named (named_by i what)) s.hist.set)) (map Aborted gone)) (eq-eqb i i refl) ends_named)
        (blocks_allow (capacity s) s.hist.blocks gone) (tt, shown_left s (beat (Arrive i) entries []) (capacity s) i h gone) (λ b. on_no_block b gone) (on_none (lba 0) gone)
        (in_order gone) windows blocks_are;
    fits = after_it;
    counted = omega (arith, asked.arrived);
    ended = sym (none_told s gone);
  }

  -- a task management function ends the commands that it names, by age
  pub asked_for : (es : List Entry) → es ≡ entries → Moves (Arrive i) s d e es None
  asked_for es is = subst (λ (xs : List Entry). Moves (Arrive i) s d e xs None) (sym is) made
