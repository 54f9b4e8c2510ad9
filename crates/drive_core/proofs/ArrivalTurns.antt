-- A turn in which a command arrives.
use Rattle.std.proofs.Common.{◌≡◌, ◌≢◌, ℕ, ◌+◌, ◌≤◌, ◌<◌, Bool, true, false, not, cond, eqb, ltb, length, List, [], ◌∷◌, ◌++◌, Option, Some, None, refl, sym, ap, ◌∙◌, subst, arith, ⊎_elim}
use Rattle.std.specs.Prelude.{◌&&◌, All, slice_index}
use Rattle.std.specs.Option.{option_and_then}
use Rattle.std.proofs.lemmas.Bool.{cases_eq, eq-eqb, ne_eqb, le-ltb, lt-ltb}
use Rattle.std.proofs.lemmas.List.Elements.{All-head, All-tail, All-push, All-weaker}
use Rattle.disk_base.specs.At.{put_at}
use Rattle.platter_model.specs.declared.op.Op.{Op}
use Rattle.task_set.specs.declared.member.Member.{Member}
use Rattle.task_set.specs.Members.{member_of, without, with_arrived}
use Rattle.sector_store.specs.State.{Contained}
use Rattle.cdb_reader.specs.Read.{read_of}
use Rattle.block_machine.specs.declared.entry.Entry.{Entry}
use Rattle.block_machine.specs.declared.entry.Entry.TheVariants.{Ended}
use Rattle.block_machine.specs.declared.turn.Label.TheVariants.{Arrive}
use Rattle.block_machine.specs.State.{State, Duty, is_full, owed_by}
use Rattle.block_machine.specs.Steps.{begun, entry_after, set_after, task_arrived}
use Rattle.block_machine.specs.Turns.{entries_lawful, is_answered, task_set_full}
use Rattle.block_machine.proofs.Booleans.{and_both}
use Rattle.history_replay.specs.declared.known.Known.{Known}
use Rattle.history_replay.specs.Arrival.{with_commands}
use Rattle.history_replay.proofs.Absent.{absent_left}
use Rattle.drive_core.specs.declared.accepted.Accepted.{Accepted}
use Rattle.drive_scene.specs.declared.event.Arriving.{Arriving}
use Rattle.drive_scene.specs.declared.event.Arrival.TheVariants.{Function}
use Rattle.drive_scene.specs.declared.event.Event.{Event}
use Rattle.drive_scene.specs.declared.event.Event.TheVariants as event
use Rattle.drive_core.specs.declared.server.Server.{Server}
use Rattle.drive_scene.specs.declared.answer.Ended as told_end
use Rattle.drive_scene.specs.Scene.{Scene, capacity, beat}
use Rattle.drive_scene.specs.After.{scene_after}
use Rattle.drive_scene.proofs.DestageTurns.{quiet_back}
use Rattle.drive_scene.specs.Evidence.{IsEndShown}
use Rattle.drive_scene.specs.Holds.{held_by_plan, held_block}
use Rattle.drive_core.specs.Accepting.{accepted_of}
use Rattle.drive_scene.specs.Turning.{entry_of}
use Rattle.drive_scene.specs.View.{View, view}
use Rattle.drive_core.specs.Commands.{IsStaged, IsUnderWay}
use Rattle.drive_scene.specs.Ending.{ended_by}
use Rattle.drive_scene.specs.Laws.{StillTurnsAreGood}
use Rattle.drive_core.specs.Fits.{Fits, IsCached, KnowsHistory}
use Rattle.drive_core.specs.Moves.{Moves}
use Rattle.drive_core.specs.Served.{is_served, is_served_cdb}
use Rattle.drive_core.specs.Making.{entries_at_most}
use Rattle.drive_scene.proofs.Tables.{put_at-own, put_at-other}
use Rattle.drive_scene.proofs.Keyed.{find-push_own, find-push_other}
use Rattle.drive_scene.proofs.Elsewhere.{IsAlike, held-alike}
use Rattle.drive_scene.proofs.Uncommitted.{stays_flightless}
use Rattle.drive_core.proofs.Flightless.{same_flights}
use Rattle.drive_core.proofs.Elsewhere.{staged-alike, all_staged}
use Rattle.drive_scene.proofs.Apart.{held_out, apart_none}
use Rattle.drive_core.proofs.Parts.{cached_got, quiet_got}
use Rattle.drive_core.proofs.Fitting.{known-quiet}
use Rattle.drive_core.proofs.Unmoved.{still_stands, has_same, none_added, good_arrival}
use Rattle.drive_core.proofs.Serves.{served_cdb}

-- a number behind all that are in is in for none
pub not_in : (set : List Member) (n c : ℕ) → n < c → All (λ m. m.task.c ≤ n) set → member_of set c ≡ None
not_in [] n c behind all = refl
not_in (m ∷ ms) n c behind all =
    let first : m.task.c ≤ n = All-head (λ (x : Member). x.task.c ≤ n) m ms all in
    ap (λ (b : Bool). cond b (Some m) (member_of ms c)) (ne_eqb m.task.c c (λ same. absurd (omega arith)))
    ∙ not_in ms n c behind (All-tail (λ (x : Member). x.task.c ≤ n) m ms all)

-- nor is anything under way of it
not_accepted : (v : View) (o : Option Accepted) → IsStaged v o → v.member ≡ None → o ≡ None
not_accepted v None staged none = refl
not_accepted v (Some a) staged none = let there = staged.is_in in absurd (cc)

module _ (s : Scene) (d e : Server) (x : Arriving) (c : ℕ) (fits : Fits s d) (c_is : c ≡ s.hist.arrived + 1) (store_is : e.store ≡ d.store) (known_is : e.known ≡ d.known)
    (still : StillTurnsAreGood) where
  absent : member_of s.hist.set c ≡ None
  absent = not_in s.hist.set s.hist.arrived c (omega arith) fits.tasks.came

  -- the scene after entries of an arrival
  abbrev after : List Entry → Scene
  after entries = scene_after s (beat (Arrive x.initiator) entries [])

  -- a command that arrives has an empty window
  windows : (q : ℕ) → length (put_at c [] s.windows q) ≤ 50
  windows q = ⊎_elim
      (λ (own : q ≡ c). subst (λ (n : ℕ). length (put_at c [] s.windows n) ≤ 50) (sym own) (subst (λ (w : List Op). length w ≤ 50) (sym (put_at-own c [] s.windows)) (omega arith)))
      (λ (other : q ≡ c → ⊥). subst (λ (w : List Op). length w ≤ 50) (sym (put_at-other c q [] s.windows other)) (fits.windows q))
      (cases_eq q c)

  -- it comes from the initiator of the turn and has the next number
  numbered_and_answered : (rest : List Entry) → is_answered (is_full s.hist) c rest ≡ true
      → entries_lawful (capacity s) (Arrive x.initiator) (begun s.hist (Arrive x.initiator)) (entry_of c x ∷ rest) ≡ true
  numbered_and_answered rest answered =
      and_both (eqb x.initiator x.initiator && eqb c (s.hist.arrived + 1)) (is_answered (is_full s.hist) c rest)
      (and_both (eqb x.initiator x.initiator) (eqb c (s.hist.arrived + 1)) (eq-eqb x.initiator x.initiator refl) (eq-eqb c (s.hist.arrived + 1) c_is)) answered

  -- a command that comes while there is room
  pub enters : (a : Accepted) (entries : List Entry) → is_full s.hist ≡ false → is_served_cdb x.cdb ≡ true
      → e.set ≡ set_after d.known.capacity (with_commands 0 d.set) (entry_of c x) → e.arrived ≡ c → d.arrived + 1 ≡ c
      → e.commands.items ≡ d.commands.items ++ a ∷ [] → a ≡ record { c = c; cdb = x.cdb; sent = x.sent; work = None } → entries ≡ entry_of c x ∷ []
      → Moves (Arrive x.initiator) s d e entries None
  enters a entries room served set_is arrived_is next commands_are a_is entries_are =
      let t : Scene = after (entry_of c x ∷ []) in
      let task = task_arrived (capacity s) c x.initiator x.tag x.attribute x.cdb x.sent in
      let member : Member = record { task = task; started = false } in
      let new_set : t.hist.set ≡ s.hist.set ++ record { task = task_arrived (capacity s) c x.initiator x.tag x.attribute x.cdb x.sent; started = false } ∷ [] =
      ap (λ (b : Bool). cond b s.hist.set (with_arrived s.hist.set (task_arrived (capacity s) c x.initiator x.tag x.attribute x.cdb x.sent))) room in
      let in_set : member_of t.hist.set c ≡ Some member =
      ap (λ (ms : List Member). member_of ms c) new_set ∙ find-push_own (λ (m : Member). m.task.c) c s.hist.set member absent refl in
      let duty : t.hist.duties c ≡ record { code = slice_index x.cdb 0; asks = read_of x.cdb x.sent (capacity s); sent = x.sent; owes = None; dirty_then = [] } =
      put_at-own c _ s.hist.duties in
      let own_member : accepted_of e.commands.items c ≡ Some a =
      ap (λ (xs : List Accepted). accepted_of xs c) commands_are
      ∙ find-push_own (λ (y : Accepted). y.c) c d.commands.items a (not_accepted (view s c) (accepted_of d.commands.items c) (fits.staged c) absent) (ap (λ (y : Accepted). y.c) a_is) in
      let own : IsStaged (view t c) (Some a) = record {
        member = member;
        is_in = in_set;
        under_way = subst (λ (y : Accepted). IsUnderWay (view t c) member y y.work) (sym a_is) (record {
          started = refl;
          code = ap (λ (y : Duty). y.code) duty;
          asks = ap (λ (y : Duty). y.asks) duty;
          sent = ap (λ (y : Duty). y.sent) duty;
          owes = ap (λ (y : Duty). y.owes) duty;
          window = put_at-own c [] s.windows;
          recovered = put_at-own c None s.recovered;
          served = ap (λ (y : Duty). is_served y.asks) duty ∙ served_cdb x.cdb x.sent (capacity s) served;
        });
      } in
      let alike : (q : ℕ) → q ≢ c → IsAlike s t q = λ q other. record {
        size = refl;
        map = refl;
        member = ap (λ (ms : List Member). member_of ms q) new_set ∙ find-push_other (λ (m : Member). m.task.c) c q s.hist.set member refl other;
        duty = put_at-other c q _ s.hist.duties other;
        window = put_at-other c q [] s.windows other;
        settings = refl;
        recovered = put_at-other c q None s.recovered other;
        dirty = λ n holds. refl;
      } in
      let others : (q : ℕ) → q ≢ c → IsStaged (view t q) (accepted_of e.commands.items q) = λ q other.
      staged-alike s t q (accepted_of d.commands.items q) (accepted_of e.commands.items q) (alike q other)
      (ap (λ (xs : List Accepted). accepted_of xs q) commands_are ∙ find-push_other (λ (y : Accepted). y.c) c q d.commands.items a (ap (λ (y : Accepted). y.c) a_is) other)
      (fits.staged q) in
      let unheld : held_block t c ≡ None =
      (λ i. option_and_then (held_by_plan (t.windows c)) (option_and_then (λ (m : Member). (duty i).owes) (in_set i))) in
      let M : List Entry → Type 0 = λ es. Moves (Arrive x.initiator) s d e es None in
      let moves : M (entry_of c x ∷ []) = record {
        ops = [];
        added = none_added s d e fits store_is;
        good = good_arrival s d e fits store_is still x.initiator (entry_of c x ∷ []) (numbered_and_answered [] (ap (λ (b : Bool). is_answered b c []) room)) refl (tt, tt) (λ b. refl) refl refl
            windows refl;
        fits = record {
          size = fits.size;
          store = has_same s d e fits store_is t refl refl;
          cached = subst (λ (y : Contained). IsCached t y.cache) (sym store_is) (cached_got s t d.store.cache (quiet_got s t (entry_of c x ∷ []) refl refl refl refl refl refl refl) fits.cached);
          known = subst (λ (k : Known). KnowsHistory t k) (sym known_is) (known-quiet s t d.known refl refl refl refl refl fits.known);
          tasks = record {
            set = set_is ∙ (λ i. set_after (fits.known.capacity i) (with_commands 0 (fits.tasks.set i)) (entry_of c x));
            arrived = arrived_is ∙ c_is;
            came = subst (λ (ms : List Member). All (λ (m : Member). m.task.c ≤ s.hist.arrived + 1) ms) (sym new_set)
                (All-push (λ (m : Member). m.task.c ≤ s.hist.arrived + 1) s.hist.set member
                (All-weaker (λ (m : Member). m.task.c ≤ s.hist.arrived) (λ (m : Member). m.task.c ≤ s.hist.arrived + 1) (λ m below. omega arith) s.hist.set fits.tasks.came)
                (omega arith));
          };
          staged = all_staged t e.commands.items c (subst (λ (o : Option Accepted). IsStaged (view t c) o) (sym own_member) own) others;
          apart = apart_none s t c fits.apart (same_flights s (beat (Arrive x.initiator) (entry_of c x ∷ []) []) fits.flightless)
              (λ q other. held-alike s t q (alike q other)) unheld;
          windows = windows;
          stands = still_stands s d e fits store_is;
          unstuck = quiet_back s (beat (Arrive x.initiator) (entry_of c x ∷ []) []) fits.unstuck;
          flightless = stays_flightless s (beat (Arrive x.initiator) (entry_of c x ∷ []) []) fits.flightless;
        };
        counted = omega arith;
        ended = refl;
      } in
      subst M (sym entries_are) moves

  -- a command that comes while as many are in as may be
  pub refuses : (entries : List Entry) (told : Option told_end.Ended) → is_full s.hist ≡ true
      → e.set ≡ set_after d.known.capacity (with_commands 0 d.set) (entry_of c x) → e.arrived ≡ c → d.arrived + 1 ≡ c
      → e.commands.items ≡ d.commands.items → entries ≡ entry_of c x ∷ Ended c task_set_full ∷ [] → told ≡ Some (ended_by x.initiator x.tag 0x28)
      → Moves (Arrive x.initiator) s d e entries told
  refuses entries told full set_is arrived_is next commands_are entries_are told_is =
      let h : State = entry_after (capacity s) (Arrive x.initiator) s.hist (entry_of c x) in
      let t : Scene = after (entry_of c x ∷ Ended c task_set_full ∷ []) in
      let kept : h.set ≡ s.hist.set =
      ap (λ (b : Bool). cond b s.hist.set (with_arrived s.hist.set (task_arrived (capacity s) c x.initiator x.tag x.attribute x.cdb x.sent))) full in
      let new_set : t.hist.set ≡ s.hist.set = ap (λ (ms : List Member). without ms c) kept ∙ sym (absent_left s.hist.set c absent) in
      let owes : owed_by h c ≡ None = ap (λ (ms : List Member). option_and_then (λ (m : Member). (h.duties c).owes) (member_of ms c)) kept
      ∙ ap (option_and_then (λ (m : Member). (h.duties c).owes)) absent in
      let gone : member_of t.hist.set c ≡ None = ap (λ (ms : List Member). member_of ms c) new_set ∙ absent in
      let alike : (q : ℕ) → q ≢ c → IsAlike s t q = λ q other. record {
        size = refl;
        map = refl;
        member = ap (λ (ms : List Member). member_of ms q) new_set;
        duty = put_at-other c q _ h.duties other ∙ put_at-other c q _ s.hist.duties other;
        window = put_at-other c q [] s.windows other;
        settings = refl;
        recovered = put_at-other c q None s.recovered other;
        dirty = λ n holds. refl;
      } in
      let M : List Entry → Option told_end.Ended → Type 0 = λ es o. Moves (Arrive x.initiator) s d e es o in
      let moves : M (entry_of c x ∷ Ended c task_set_full ∷ []) (Some (ended_by x.initiator x.tag 0x28)) = record {
        ops = [];
        added = none_added s d e fits store_is;
        good = good_arrival s d e fits store_is still x.initiator (entry_of c x ∷ Ended c task_set_full ∷ [])
            (numbered_and_answered (Ended c task_set_full ∷ [])
            (ap (λ (b : Bool). is_answered b c (Ended c task_set_full ∷ [])) full ∙ and_both (eqb c c) _ (eq-eqb c c refl) refl)) refl
            (tt, (subst (λ o. IsEndShown s (beat (Arrive x.initiator) (entry_of c x ∷ Ended c task_set_full ∷ []) []) c o task_set_full) (sym owes) tt, tt)) (λ b. refl) refl refl windows refl;
        fits = record {
          size = fits.size;
          store = has_same s d e fits store_is t refl refl;
          cached = subst (λ (y : Contained). IsCached t y.cache) (sym store_is)
              (cached_got s t d.store.cache (quiet_got s t (entry_of c x ∷ Ended c task_set_full ∷ []) refl refl refl refl refl refl refl) fits.cached);
          known = subst (λ (k : Known). KnowsHistory t k) (sym known_is) (known-quiet s t d.known refl refl refl refl refl fits.known);
          tasks = record {
            set = set_is ∙ ((λ i. set_after (fits.known.capacity i) (with_commands 0 (fits.tasks.set i)) (entry_of c x)) ∙ (kept ∙ sym new_set));
            arrived = arrived_is ∙ c_is;
            came = subst (λ (ms : List Member). All (λ (m : Member). m.task.c ≤ s.hist.arrived + 1) ms) (sym new_set)
                (All-weaker (λ (m : Member). m.task.c ≤ s.hist.arrived) (λ (m : Member). m.task.c ≤ s.hist.arrived + 1) (λ m below. omega arith) s.hist.set fits.tasks.came);
          };
          staged = all_staged t e.commands.items c
              (subst (λ (o : Option Accepted). IsStaged (view t c) o)
              (sym (ap (λ (xs : List Accepted). accepted_of xs c) commands_are ∙ not_accepted (view s c) (accepted_of d.commands.items c) (fits.staged c) absent)) gone)
              (λ q other. staged-alike s t q (accepted_of d.commands.items q) (accepted_of e.commands.items q) (alike q other)
              (ap (λ (xs : List Accepted). accepted_of xs q) commands_are) (fits.staged q));
          apart = apart_none s t c fits.apart (same_flights s (beat (Arrive x.initiator) (entry_of c x ∷ Ended c task_set_full ∷ []) []) fits.flightless)
              (λ q other. held-alike s t q (alike q other)) (held_out t c gone);
          windows = windows;
          stands = still_stands s d e fits store_is;
          unstuck = quiet_back s (beat (Arrive x.initiator) (entry_of c x ∷ Ended c task_set_full ∷ []) []) fits.unstuck;
          flightless = stays_flightless s (beat (Arrive x.initiator) (entry_of c x ∷ Ended c task_set_full ∷ []) []) fits.flightless;
        };
        counted = omega arith;
        ended = refl;
      } in
      subst (λ (o : Option told_end.Ended). M entries o) (sym told_is) (subst (λ (es : List Entry). M es (Some (ended_by x.initiator x.tag 0x28))) (sym entries_are) moves)

-- as many commands are in as may be
pub is_full-yes : (s : Scene) (d : Server) (ms : List Member) → Fits s d → ms ≡ d.set → 64 ≤ length ms → is_full s.hist ≡ true
is_full-yes s d ms fits same many = ap not (ap (λ (xs : List Member). ltb (length xs) 64) (sym (same ∙ fits.tasks.set)) ∙ le-ltb (length ms) 64 many)

pub is_full-no : (s : Scene) (d : Server) (ms : List Member) → Fits s d → ms ≡ d.set → length ms < 64 → is_full s.hist ≡ false
is_full-no s d ms fits same few = ap not (ap (λ (xs : List Member). ltb (length xs) 64) (sym (same ∙ fits.tasks.set)) ∙ lt-ltb (length ms) 64 few)

-- there is room for the entries of any other turn
pub room_of_four : (e : Event) (n : ℕ) → entries_at_most e ≤ n → 4 ≤ n
room_of_four e n room = let four : 4 ≤ entries_at_most e = at_least e in omega arith
  where
    at_least : (x : Event) → 4 ≤ entries_at_most x
    at_least (event.Arrive (Function i what)) = omega arith
    at_least other = omega arith
