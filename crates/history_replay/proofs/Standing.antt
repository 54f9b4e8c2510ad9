-- What is kept stands for the state after an entry, where it stood for the one before it.
use Rattle.std.proofs.Common.{◌≡◌, ◌∙◌, ap, sym, refl, subst, ℕ, ◌+◌, ◌*◌, ◌<◌, ◌≤◌, Bool, true, false, cond, not, List, [], ◌∷◌, ◌++◌, length, arith}
use Rattle.std.specs.Prelude.{◌==◌, ◌&&◌, Option, Some, None, Result, slice_index}
use Rattle.std.specs.List.{list_any}
use Rattle.std.specs.Option.{is_some, option_map, option_map_or, option_and_then}
use Rattle.std.specs.Ordering.{nat_cmp}
use Rattle.std.specs.BTreeMap.{BTreeMap, get}
use Rattle.disk_base.specs.declared.address.Initiator.{Initiator}
use Rattle.disk_base.specs.declared.address.Tag.{Tag}
use Rattle.disk_base.specs.declared.command.Attribute.{Attribute}
use Rattle.disk_base.specs.declared.command.DataOut.{DataOut}
use Rattle.disk_base.specs.declared.command.DataOut.TheVariants.{Nothing}
use Rattle.cdb_reader.specs.declared.plan.Deed.TheVariants as deed
use Rattle.sense_data.specs.Attentions.{Waiting}
use Rattle.sense_data.specs.declared.sense.Sense.{Sense}
use Rattle.mode_pages.specs.declared.settings.Settings.{Settings}
use Rattle.task_set.specs.declared.member.Member.{Member}
use Rattle.task_set.specs.Members.{IsIn, member_of, with_started, without}
use Rattle.cdb_reader.specs.declared.plan.Plan.{Plan}
use Rattle.cdb_reader.specs.Read.{read_of}
use Rattle.cdb_reader.specs.Request.{Request}
use Rattle.block_machine.specs.declared.entry.Entry.{Entry}
use Rattle.block_machine.specs.declared.entry.Entry.TheVariants.{Arrived, Started, Ended, Aborted, Asked, Mode, Cut, PoweredOn, Harden, GiveUp, Logged, Scanned, Tick}
use Rattle.block_machine.specs.declared.entry.Who.TheVariants.{Drive}
use Rattle.disk_base.specs.declared.command.Function.TheVariants.{Clear, Reset}
use Rattle.block_machine.specs.declared.turn.Label.{Label}
use Rattle.block_machine.specs.declared.turn.Label.TheVariants.{Work}
use Rattle.block_machine.specs.Blocks.{dirty_after, is_dirty}
use Rattle.disk_base.specs.declared.block.Value.TheVariants.{Lost}
use Rattle.block_machine.specs.Entries.{entry_lawful, may_start}
use Rattle.block_machine.specs.Plans.{first_plan}
use Rattle.block_machine.specs.Scan.{scan_after}
use Rattle.block_machine.specs.State as machine
use Rattle.block_machine.specs.State.{State, initiator_of, is_full, no_duty}
use Rattle.block_machine.specs.Deeds.{names_dirty, owed_after}
use Rattle.block_machine.specs.Steps.{arrived_after, begun, corrupt_after, duties_after, entry_after, set_after, settings_after, task_arrived, waiting_after, waiting_at_start}
use Rattle.history_replay.specs.declared.duty.Duty.{Duty}
use Rattle.history_replay.specs.declared.kept.Kept.{Kept}
use Rattle.history_replay.specs.Deeds.{marked_blocks}
use Rattle.history_replay.specs.Arrival.{with_commands}
use Rattle.history_replay.specs.Kept.{AreKept, IsLater, IsOfArrival, ShowSame, Stands, comes_alone, doer_of, duty_arrived, duty_done, duty_kept, is_over}
use Rattle.history_replay.specs.Known.{duty_of, scan_of, state_of, with_set}
use Rattle.history_replay.specs.Warning.{KnownWait, waiting_state}
use Rattle.history_replay.proofs.Inside.{AreUpTo, in_arrived, in_started, in_without, up_to, up_to_arrived, up_to_more, up_to_started, up_to_without}
use Rattle.history_replay.proofs.Owing.{deed_duties, deed_lawful, duty_marked}
use Rattle.history_replay.proofs.Marked.{marked_after}
use Rattle.history_replay.proofs.Numbers.{equal}
use Rattle.history_replay.proofs.Passes.{scan_same, shown_then}
use Rattle.history_replay.proofs.Planning.{plan_same}

later-arrived : (n : ℕ) (e : Entry) → IsLater e → arrived_after n e ≡ n
later-arrived n (Arrived c i t a cdb sent) later = absurd later
later-arrived n other later = refl

set-same : (capacity : ℕ) (s : State) (e : Entry) → set_after capacity (with_commands 0 s.set) e ≡ set_after capacity s e
set-same capacity s (Arrived c i t a cdb sent) = refl
set-same capacity s (Started c) = refl
set-same capacity s (Ended c reply) = refl
set-same capacity s (Aborted c) = refl
set-same capacity s Cut = refl
set-same capacity s other = refl

waiting-same : (label : Label) (s : State) (e : Entry) → IsLater e → waiting_after label (waiting_state s.waiting s.set no_duty) e ≡ waiting_after label s e
waiting-same label s (Arrived c i t a cdb sent) later = absurd later
waiting-same label s (Started c) later = absurd later
waiting-same label s (Asked i Clear) later = refl
waiting-same label s (Asked i Reset) later = refl
waiting-same (Work c) s (Mode settings) later = refl
waiting-same label s (PoweredOn outcome) later = refl
waiting-same label s other later = refl

-- numbers stay low
low-later : (capacity : ℕ) (set : List Member) (n : ℕ) (e : Entry) → IsLater e → AreUpTo n set → AreUpTo n (set_after capacity (with_commands 0 set) e)
low-later capacity set n (Arrived c i t a cdb sent) later all = absurd later
low-later capacity set n (Started c) later all = absurd later
low-later capacity set n (Ended c reply) later all = up_to_without set n c all
low-later capacity set n (Aborted c) later all = up_to_without set n c all
low-later capacity set n Cut later all = λ k d less. absurd (omega arith)
low-later capacity set n other later all = all

-- the commands that are still in are kept
kept-without : (capacity : ℕ) (between new : BTreeMap ℕ Duty) (set : List Member) (duties : ℕ → machine.Duty) (c : ℕ)
    → AreKept capacity between set duties → ((q : ℕ) → get nat_cmp new q ≡ cond (q == c) None (get nat_cmp between q))
    → AreKept capacity new (without set c) duties
kept-without capacity between new set duties c kept gone = λ q inside.
    let w = in_without set c q inside in
    ap (option_map (duty_kept capacity)) (gone q ∙ ap (λ (b : Bool). cond b None (get nat_cmp between q)) w.1) ∙ kept q w.0

pub kept_later : (capacity : ℕ) (between new : BTreeMap ℕ Duty) (s : State) (duties : ℕ → machine.Duty) (e : Entry) → IsLater e
    → AreKept capacity between s.set duties → ((q : ℕ) → get nat_cmp new q ≡ cond (is_over e q) None (get nat_cmp between q))
    → AreKept capacity new (set_after capacity s e) duties
kept_later capacity between new s duties (Arrived c i t a cdb sent) later kept gone = absurd later
kept_later capacity between new s duties (Started c) later kept gone = absurd later
kept_later capacity between new s duties (Ended c reply) later kept gone = kept-without capacity between new s.set duties c kept gone
kept_later capacity between new s duties (Aborted c) later kept gone = kept-without capacity between new s.set duties c kept gone
kept_later capacity between new s duties Cut later kept gone = λ q inside. absurd (cc)
kept_later capacity between new s duties other later kept gone = λ q inside. ap (option_map (duty_kept capacity)) (gone q) ∙ kept q inside

-- after an entry with which no command comes or starts
pub settled : (capacity : ℕ) (label : Label) (old new : Kept) (s : State) (e : Entry) → Stands capacity old s → IsLater e
    → AreKept capacity new.duties (set_after capacity s e) (duties_after capacity label s e)
    → new.arrived ≡ old.arrived → new.known.capacity ≡ old.known.capacity
    → new.set ≡ set_after capacity (with_commands 0 old.set) e
    → new.known.settings ≡ settings_after old.known.settings e
    → new.known.waiting ≡ waiting_after label (waiting_state old.known.waiting old.set no_duty) e → KnownWait new.known.waiting
    → new.known.corrupt ≡ corrupt_after old.known.corrupt e
    → ShowSame capacity (scan_of new.known.scan) (scan_after (scan_of old.known.scan) e) → new.known.scan.scanned < 65536 * capacity
    → new.dirty.items ≡ dirty_after old.dirty.items e
    → Stands capacity new (entry_after capacity label s e)
settled capacity label old new s e st later kept arrived unit set settings waiting warned corrupt scan counted dirty =
    let some : 0 < capacity = let a = st.some in omega arith in
    record {
      some = st.some;
      few = st.few;
      unit = unit ∙ st.unit;
      counted = counted;
      warned = warned;
      older = let P : List Member → Type 0 = λ l. AreUpTo new.arrived l in
          subst P (sym set) (low-later capacity old.set new.arrived e later (let Q : ℕ → Type 0 = λ n. AreUpTo n old.set in subst Q (sym arrived) st.older));
      arrived = arrived ∙ st.arrived ∙ sym (later-arrived s.arrived e later);
      set = set ∙ ap (λ (l : List Member). set_after capacity (with_commands 0 l) e) st.set ∙ set-same capacity s e;
      duties = kept;
      settings = settings ∙ ap (λ (x : Settings). settings_after x e) st.settings;
      waiting = waiting ∙ ap (λ (w : Waiting). waiting_after label (waiting_state w old.set no_duty) e) st.waiting
          ∙ ap (λ (l : List Member). waiting_after label (waiting_state s.waiting l no_duty) e) st.set ∙ waiting-same label s e later;
      corrupt = corrupt ∙ ap (λ (k : Bool). corrupt_after k e) st.corrupt;
      scan = shown_then capacity _ (scan_after (scan_of old.known.scan) e) _ scan (scan_same capacity (scan_of old.known.scan) s.scan e some st.scan);
      dirty = dirty ∙ ap (λ (l : List ℕ). dirty_after l e) st.dirty;
      marked = marked_after s.blocks s.dirty e st.marked;
    }

-- an entry that comes alone may come, and leaves the commands as they are
pub alone_lawful : (capacity : ℕ) (label : Label) (s : State) (e : Entry) → comes_alone capacity e ≡ true
    → (entry_lawful capacity label s e ≡ true) × (duties_after capacity label s e ≡ s.duties)
alone_lawful capacity label s (GiveUp b) h = (h, refl)
alone_lawful capacity label s (Logged finding) h = (h, refl)
alone_lawful capacity label s (PoweredOn outcome) h = (h, refl)
alone_lawful capacity label s (Harden Drive b) h = (refl, refl)
alone_lawful capacity label s (Scanned b what) h = (refl, refl)
alone_lawful capacity label s Cut h = (refl, refl)
alone_lawful capacity label s (Tick minutes) h = (refl, refl)
alone_lawful capacity label s other h = absurd (cc)

-- commands are kept where nothing changes of them
pub same_kept : (capacity : ℕ) (kept : BTreeMap ℕ Duty) (set : List Member) (before after : ℕ → machine.Duty) → after ≡ before
    → AreKept capacity kept set before → AreKept capacity kept set after
same_kept capacity kept set before after same are = λ q inside. are q inside ∙ ap (λ (f : ℕ → machine.Duty). Some (f q)) (sym same)

and-then-map : (f : Duty → machine.Duty) (g : machine.Duty → Option machine.Duty) (o : Option Duty)
    → option_and_then (λ duty. g (f duty)) o ≡ option_and_then g (option_map f o)
and-then-map f g None = refl
and-then-map f g (Some duty) = refl

-- a command that is in is in the state
pub in_state : (capacity : ℕ) (old : Kept) (s : State) (c : ℕ) → Stands capacity old s → IsIn old.set c → IsIn s.set c
in_state capacity old s c st inside = let P : List Member → Type 0 = λ l. IsIn l c in subst P st.set inside

marked-at : (t : Bool) → not (length (cond t (Lost ∷ []) []) == 0) ≡ t
marked-at true = refl
marked-at false = refl

-- what a deed of a command that is kept makes of it
pub deed_found : (capacity : ℕ) (old : Kept) (slice : List ℕ) (label : Label) (s : State) (e : Entry) (c : ℕ) → Stands capacity old s
    → slice ≡ old.dirty.items → IsIn old.set c
    → option_and_then (λ duty. duty_done old.known label (marked_blocks slice) (duty_kept capacity duty) e) (get nat_cmp old.duties c)
    ≡ duty_done old.known label s.blocks (s.duties c) e
deed_found capacity old slice label s e c st is inside =
    let same : (b : ℕ) → is_dirty (marked_blocks slice b) ≡ is_dirty (s.blocks b) =
    λ b. marked-at (list_any (λ a. a == b) slice) ∙ ap (λ (l : List ℕ). list_any (λ a. a == b) l) (is ∙ st.dirty) ∙ sym (st.marked b) in
    let each : (λ (duty : Duty). duty_done old.known label (marked_blocks slice) (duty_kept capacity duty) e)
    ≡ (λ (duty : Duty). duty_done old.known label s.blocks (duty_kept capacity duty) e) =
    λ i. λ duty. duty_marked old.known label (marked_blocks slice) s.blocks (duty_kept capacity duty) e same i in
    ap (λ (f : Duty → Option machine.Duty). option_and_then f (get nat_cmp old.duties c)) each
    ∙ and-then-map (duty_kept capacity) (λ duty. duty_done old.known label s.blocks duty e) (get nat_cmp old.duties c)
    ∙ ap (option_and_then (λ duty. duty_done old.known label s.blocks duty e)) (st.duties c (in_state capacity old s c st inside))

pub deed_may : (capacity : ℕ) (old : Kept) (slice : List ℕ) (label : Label) (s : State) (e : Entry) (c : ℕ) (may : Bool) → Stands capacity old s
    → slice ≡ old.dirty.items → doer_of label e ≡ Some c → IsIn old.set c
    → may ≡ is_some (option_and_then (λ duty. duty_done old.known label (marked_blocks slice) (duty_kept capacity duty) e) (get nat_cmp old.duties c))
    → may ≡ entry_lawful capacity label s e
deed_may capacity old slice label s e c may st is doer inside told =
    told ∙ ap is_some (deed_found capacity old slice label s e c st is inside)
    ∙ sym (deed_lawful capacity old.known label s e c doer (in_state capacity old s c st inside) st.unit st.settings)

pub deed_kept : (capacity : ℕ) (old : Kept) (between : BTreeMap ℕ Duty) (slice : List ℕ) (label : Label) (s : State) (e : Entry) (c : ℕ)
    → Stands capacity old s → slice ≡ old.dirty.items → doer_of label e ≡ Some c → IsIn old.set c
    → true ≡ is_some (option_and_then (λ duty. duty_done old.known label (marked_blocks slice) (duty_kept capacity duty) e) (get nat_cmp old.duties c))
    → ((q : ℕ) → option_map (duty_kept capacity) (get nat_cmp between q)
    ≡ cond (q == c) (option_and_then (λ duty. duty_done old.known label (marked_blocks slice) (duty_kept capacity duty) e) (get nat_cmp old.duties c))
    (option_map (duty_kept capacity) (get nat_cmp old.duties q)))
    → AreKept capacity between s.set (duties_after capacity label s e)
deed_kept capacity old between slice label s e c st is doer inside may after = λ q within.
    let found = deed_found capacity old slice label s e c st is inside in
    let left = duty_done old.known label s.blocks (s.duties c) e in
    after q
    ∙ ap (λ (o : Option machine.Duty). cond (q == c) o (option_map (duty_kept capacity) (get nat_cmp old.duties q))) found
    ∙ ap (λ (o : Option machine.Duty). cond (q == c) left o) (st.duties q within)
    ∙ deed_duties capacity old.known label s e c q doer (in_state capacity old s c st inside) (sym (may ∙ ap is_some found))

kept-of : (f : Duty → machine.Duty) (o : Option Duty) (duty : Duty) (x : machine.Duty) → o ≡ Some duty → option_map f o ≡ Some x → f duty ≡ x
kept-of f o duty x is e = let g : option_map f (Some duty) ≡ Some x = ap (option_map f) (sym is) ∙ e in cc

-- a command that may start
pub start_may : (capacity : ℕ) (old : Kept) (s : State) (c : ℕ) (may : Bool) → Stands capacity old s → may ≡ may_start (with_set old.set) c → may ≡ may_start s c
start_may capacity old s c may st is = is ∙ ap (λ (l : List Member). may_start (with_set l) c) st.set

start-duty : (b : Bool) (capacity : ℕ) (begun : Duty) (o : Option Duty) (now other : machine.Duty) → duty_kept capacity begun ≡ now
    → option_map (duty_kept capacity) o ≡ Some other
    → option_map (duty_kept capacity) (cond b (Some begun) (cond b None o)) ≡ Some (cond b now other)
start-duty true capacity begun o now other is kept = ap Some is
start-duty false capacity begun o now other is kept = kept

told-same : (old : Kept) (s : State) (c code : ℕ) (asks : Result Request Sense) (capacity : ℕ) (duty : Duty) → Stands capacity old s
    → code ≡ slice_index duty.cdb 0 → asks ≡ read_of duty.cdb duty.sent capacity → duty_kept capacity duty ≡ s.duties c
    → waiting_at_start old.known.waiting (initiator_of (waiting_state old.known.waiting old.set (duty_of code asks Nothing)) c) (duty_of code asks Nothing)
    ≡ waiting_at_start s.waiting (initiator_of s c) (s.duties c)
told-same old s c code asks capacity duty st coded asked same =
    let i = option_map_or (λ m. m.task.initiator) (member_of old.set c) 0 in
    ap (λ (k : ℕ). waiting_at_start old.known.waiting i (duty_of k asks Nothing)) coded
    ∙ ap (λ (r : Result Request Sense). waiting_at_start old.known.waiting i (duty_of (slice_index duty.cdb 0) r Nothing)) asked
    ∙ ap (λ (d : machine.Duty). waiting_at_start old.known.waiting i d) same
    ∙ ap (λ (w : Waiting). waiting_at_start w i (s.duties c)) st.waiting
    ∙ ap (λ (l : List Member). waiting_at_start s.waiting (option_map_or (λ m. m.task.initiator) (member_of l c) 0) (s.duties c)) st.set

-- after it started
pub started : (capacity : ℕ) (old : Kept) (label : Label) (s : State) (c code : ℕ) (m : Member) (duty begun : Duty) (asks : Result Request Sense)
    (duties : BTreeMap ℕ Duty) (waiting : Waiting) (set : List Member) → Stands capacity old s
    → Some m ≡ member_of old.set c → Some duty ≡ get nat_cmp old.duties c
    → code ≡ slice_index duty.cdb 0 → asks ≡ read_of duty.cdb duty.sent capacity
    → duty_kept capacity begun ≡ record (duty_kept capacity duty) { owes = Some (first_plan capacity (state_of old.known) m.task.initiator (duty_kept capacity duty)) }
    → ((q : ℕ) → get nat_cmp duties q ≡ cond (q == c) (Some begun) (cond (q == c) None (get nat_cmp old.duties q)))
    → waiting ≡ waiting_after label (waiting_state old.known.waiting old.set (duty_of code asks Nothing)) (Started c)
    → KnownWait waiting → set ≡ with_started old.set c
    → Stands capacity (record old { set = set; duties = duties; known = record old.known { waiting = waiting } }) (entry_after capacity label s (Started c))
started capacity old label s c code m duty begun asks duties waiting set st member found coded asked is kept told warned begins =
    let inside : IsIn s.set c = in_state capacity old s c st (ap is_some (sym member)) in
    let same : duty_kept capacity duty ≡ s.duties c = kept-of (duty_kept capacity) (get nat_cmp old.duties c) duty (s.duties c) (sym found) (st.duties c inside) in
    let initiator : m.task.initiator ≡ initiator_of s c =
    ap (λ (o : Option Member). option_map_or (λ m. m.task.initiator) o 0) member ∙ ap (λ (l : List Member). option_map_or (λ m. m.task.initiator) (member_of l c) 0) st.set in
    let plan : first_plan capacity (state_of old.known) m.task.initiator (duty_kept capacity duty) ≡ first_plan capacity s (initiator_of s c) (s.duties c) =
    plan_same capacity old.known s m.task.initiator (duty_kept capacity duty) st.settings st.waiting st.corrupt st.scan
    ∙ ap (λ (i : ℕ). first_plan capacity s i (duty_kept capacity duty)) initiator
    ∙ ap (λ (d : machine.Duty). first_plan capacity s (initiator_of s c) d) same in
    let now : duty_kept capacity begun ≡ record (s.duties c) { owes = Some (first_plan capacity s (initiator_of s c) (s.duties c)) } =
    is ∙ ap (λ (p : Plan). record (duty_kept capacity duty) { owes = Some p }) plan
    ∙ ap (λ (d : machine.Duty). record d { owes = Some (first_plan capacity s (initiator_of s c) (s.duties c)) }) same in
    record {
      some = st.some;
      few = st.few;
      unit = st.unit;
      counted = st.counted;
      warned = warned;
      older = let P : List Member → Type 0 = λ l. AreUpTo old.arrived l in subst P (sym begins) (up_to_started old.set old.arrived c st.older);
      arrived = st.arrived;
      set = begins ∙ ap (λ (l : List Member). with_started l c) st.set;
      duties = λ q within. ap (option_map (duty_kept capacity)) (kept q)
          ∙ start-duty (q == c) capacity begun (get nat_cmp old.duties q) _ (s.duties q) now (st.duties q (in_started s.set c q within));
      settings = st.settings;
      waiting = told ∙ told-same old s c code asks capacity duty st coded asked same;
      corrupt = st.corrupt;
      scan = st.scan;
      dirty = st.dirty;
      marked = st.marked;
    }

-- an entry of the turn of an arrival is no deed
pub arrival_settled : (capacity : ℕ) (label : Label) (old new : BTreeMap ℕ Duty) (s : State) (e : Entry) → IsOfArrival e
    → AreKept capacity old s.set s.duties → ((q : ℕ) → get nat_cmp new q ≡ cond (is_over e q) None (get nat_cmp old q))
    → IsLater e × AreKept capacity new (set_after capacity s e) (duties_after capacity label s e)
arrival_settled capacity label old new s (Ended c reply) ends kept gone = (
  tt,
  λ q inside.
      kept-without capacity old new s.set s.duties c kept gone q inside
      ∙ ap (λ (b : Bool). Some (cond b (record (s.duties c) { owes = owed_after s (record { c = c; what = deed.Ended reply (names_dirty s reply) }) }) (s.duties q)))
      (sym (in_without s.set c q inside).1),
)
arrival_settled capacity label old new s (Aborted c) ends kept gone = (tt, kept-without capacity old new s.set s.duties c kept gone)
arrival_settled capacity label old new s (Asked i what) ends kept gone =
    (tt, λ q inside. ap (option_map (duty_kept capacity)) (gone q) ∙ kept q inside)
arrival_settled capacity label old new s other ends kept gone = absurd ends

found-at : (capacity : ℕ) (b : Bool) (q c : ℕ) (old : BTreeMap ℕ Duty) (s : State) (duty found : Duty) → (q == c) ≡ b → AreKept capacity old s.set s.duties
    → Some duty ≡ get nat_cmp old c → duty_kept capacity found ≡ record (duty_kept capacity duty) { dirty_then = s.dirty } → IsIn s.set q
    → option_map (duty_kept capacity) (cond b (Some found) (cond b None (get nat_cmp old q)))
    ≡ Some (cond b (record (s.duties c) { dirty_then = s.dirty }) (s.duties q))
found-at capacity true q c old s duty found e kept is new inside =
    let P : ℕ → Type 0 = λ k. IsIn s.set k in
    let here : IsIn s.set c = subst P (equal q c e) inside in
    ap Some (new ∙ ap (λ (d : machine.Duty). record d { dirty_then = s.dirty }) (kept-of (duty_kept capacity) (get nat_cmp old c) duty (s.duties c) (sym is) (kept c here)))
found-at capacity false q c old s duty found e kept is new inside = kept q inside

with-duties : (capacity : ℕ) (old : Kept) (duties : BTreeMap ℕ Duty) (s : State) (c : ℕ) → Stands capacity old s
    → AreKept capacity duties s.set (begun s (Work c)).duties → Stands capacity (record old { duties = duties }) (begun s (Work c))
with-duties capacity old duties s c st kept = record {
  some = st.some;
  few = st.few;
  unit = st.unit;
  counted = st.counted;
  warned = st.warned;
  older = st.older;
  arrived = st.arrived;
  set = st.set;
  duties = kept;
  settings = st.settings;
  waiting = st.waiting;
  corrupt = st.corrupt;
  scan = st.scan;
  dirty = st.dirty;
  marked = st.marked;
}

-- a turn of work on a command that is kept begins
pub found_kept : (capacity : ℕ) (old : Kept) (s : State) (c : ℕ) (duty found : Duty) (dirty : List ℕ) (duties : BTreeMap ℕ Duty) → Stands capacity old s
    → Some duty ≡ get nat_cmp old.duties c → duty_kept capacity found ≡ record (duty_kept capacity duty) { dirty_then = dirty } → dirty ≡ old.dirty.items
    → ((q : ℕ) → get nat_cmp duties q ≡ cond (q == c) (Some found) (cond (q == c) None (get nat_cmp old.duties q)))
    → Stands capacity (record old { duties = duties }) (begun s (Work c))
found_kept capacity old s c duty found dirty duties st is new all kept = with-duties capacity old duties s c st
    (λ q inside. ap (option_map (duty_kept capacity)) (kept q)
    ∙ found-at capacity (q == c) q c old.duties s duty found refl st.duties is
    (new ∙ ap (λ (l : List ℕ). record (duty_kept capacity duty) { dirty_then = l }) (all ∙ st.dirty)) inside)

none-at : (capacity : ℕ) (b : Bool) (q c : ℕ) (old : BTreeMap ℕ Duty) (s : State) → (q == c) ≡ b → AreKept capacity old s.set s.duties
    → None ≡ get nat_cmp old c → IsIn s.set q
    → option_map (duty_kept capacity) (cond b None (get nat_cmp old q)) ≡ Some (cond b (record (s.duties c) { dirty_then = s.dirty }) (s.duties q))
none-at capacity true q c old s e kept is inside =
    let P : ℕ → Type 0 = λ k. IsIn s.set k in
    let here : IsIn s.set c = subst P (equal q c e) inside in
    let no : None ≡ Some (s.duties c) = ap (option_map (duty_kept capacity)) is ∙ kept c here in
    absurd (cc)
none-at capacity false q c old s e kept is inside = kept q inside

-- or on one that isn't in
pub none_kept : (capacity : ℕ) (old : Kept) (s : State) (c : ℕ) (duties : BTreeMap ℕ Duty) → Stands capacity old s → None ≡ get nat_cmp old.duties c
    → ((q : ℕ) → get nat_cmp duties q ≡ cond (q == c) None (get nat_cmp old.duties q))
    → Stands capacity (record old { duties = duties }) (begun s (Work c))
none_kept capacity old s c duties st is kept = with-duties capacity old duties s c st
    (λ q inside. ap (option_map (duty_kept capacity)) (kept q) ∙ none-at capacity (q == c) q c old.duties s refl st.duties is inside)

come-in : (capacity : ℕ) (b full : Bool) (q c : ℕ) (old : BTreeMap ℕ Duty) (s : State) (m : Member) (now : machine.Duty) → (q == c) ≡ b → m.task.c ≡ c
    → AreUpTo s.arrived s.set → c ≡ s.arrived + 1 → AreKept capacity old s.set s.duties → IsIn (cond full s.set (s.set ++ m ∷ [])) q
    → cond (not full && b) (Some now) (option_map (duty_kept capacity) (get nat_cmp old q)) ≡ Some (cond b now (s.duties q))
come-in capacity true true q c old s m now e is low next kept inside =
    let less : q ≤ s.arrived = up_to s.set s.arrived q low inside in
    let same : q ≡ c = equal q c e in
    absurd (omega arith)
come-in capacity true false q c old s m now e is low next kept inside = refl
come-in capacity false true q c old s m now e is low next kept inside = kept q inside
come-in capacity false false q c old s m now e is low next kept inside =
    kept q (in_arrived s.set m q (ap (λ (k : ℕ). q == k) is ∙ e) inside)

come-low : (full : Bool) (set : List Member) (m : Member) (n c : ℕ) → c ≡ n + 1 → m.task.c ≡ c → AreUpTo n set → AreUpTo c (cond full set (set ++ m ∷ []))
come-low full set m n c next is low =
    let P : ℕ → Type 0 = λ k. AreUpTo k (cond full set (set ++ m ∷ [])) in
    subst P (sym next) (elim full as (λ v. AreUpTo (n + 1) (cond v set (set ++ m ∷ []))) [
      | true ↦ up_to_more set n low
      | false ↦ up_to_arrived set m n (is ∙ next) low
    ])

-- a command comes
pub comes : (capacity : ℕ) (old : Kept) (label : Label) (s : State) (c : ℕ) (i : Initiator) (t : Tag) (a : Attribute) (cdb : List ℕ) (sent : DataOut)
    (duties : BTreeMap ℕ Duty) (set : List Member) → Stands capacity old s → c ≡ old.arrived + 1
    → set ≡ set_after capacity (with_commands 0 old.set) (Arrived c i t a cdb sent)
    → ((q : ℕ) → option_map (duty_kept capacity) (get nat_cmp duties q)
    ≡ cond (not (is_full (with_commands 0 old.set)) && q == c) (Some (duty_arrived capacity cdb sent)) (option_map (duty_kept capacity) (get nat_cmp old.duties q)))
    → Stands capacity (record old { arrived = c; set = set; duties = duties }) (entry_after capacity label s (Arrived c i t a cdb sent))
comes capacity old label s c i t a cdb sent duties set st next enters kept =
    let m : Member = record { task = task_arrived capacity c i t a cdb sent; started = false } in
    let is : set ≡ set_after capacity s (Arrived c i t a cdb sent) =
    enters ∙ ap (λ (l : List Member). set_after capacity (with_commands 0 l) (Arrived c i t a cdb sent)) st.set in
    let after : c ≡ s.arrived + 1 = next ∙ ap (λ (n : ℕ). n + 1) st.arrived in
    let low : AreUpTo s.arrived s.set =
    let P : ℕ → Type 0 = λ n. AreUpTo n s.set in let Q : List Member → Type 0 = λ l. AreUpTo old.arrived l in
    subst P st.arrived (subst Q st.set st.older) in
    record {
      some = st.some;
      few = st.few;
      unit = st.unit;
      counted = st.counted;
      warned = st.warned;
      older = let P : List Member → Type 0 = λ l. AreUpTo c l in subst P (sym is) (come-low (is_full s) s.set m s.arrived c after refl low);
      arrived = after;
      set = is;
      duties = λ q inside. kept q
          ∙ ap (λ (l : List Member). cond (not (is_full (with_commands 0 l)) && q == c) (Some (duty_arrived capacity cdb sent)) (option_map (duty_kept capacity) (get nat_cmp old.duties q))) st.set
          ∙ come-in capacity (q == c) (is_full s) q c old.duties s m (duty_arrived capacity cdb sent) refl refl low after st.duties inside;
      settings = st.settings;
      waiting = st.waiting;
      corrupt = st.corrupt;
      scan = st.scan;
      dirty = st.dirty;
      marked = st.marked;
    }
