-- What a legal history says of a single command, from its arrival on.
use Rattle.std.proofs.Common.{◌≡◌, ◌∙◌, ap, sym, subst, refl, ℕ, ◌+◌, ◌≤◌, ◌≢◌, Bool, true, false, not, cond, nat_eq, List, [], ◌∷◌, ◌++◌, map, arith}
use Rattle.std.specs.Prelude.{◌&&◌, ◌||◌, ◌==◌, slice_index, fold, filter, find, Option, Some, None, Result}
use Rattle.std.specs.List.{list_all}
use Rattle.std.specs.Option.{option_and_then, option_map_or, is_some, is_none}
use Rattle.std.proofs.lemmas.Bool.{eq-eqb, eqb-true, ne_eqb}
use Rattle.disk_base.specs.Along.{all_along}
use Rattle.disk_base.specs.At.{put_at}
use Rattle.disk_base.specs.declared.command.DataOut.{DataOut}
use Rattle.sense_data.specs.declared.sense.Sense.{Sense}
use Rattle.sense_data.specs.declared.reply.Reply.{Reply}
use Rattle.cdb_reader.specs.declared.plan.Deed.TheVariants as deed
use Rattle.cdb_reader.specs.Replies.{same_reply}
use Rattle.block_machine.specs.Turns.{task_set_full}
use Rattle.block_machine.specs.Deeds.{names_dirty}
use Rattle.task_set.specs.declared.member.Member.{Member}
use Rattle.task_set.specs.declared.task.Task.{Task}
use Rattle.task_set.specs.Members.{member_of, started_at, first_forbidding}
use Rattle.cdb_reader.specs.declared.plan.Plan.{Plan}
use Rattle.cdb_reader.specs.declared.plan.Deed.{Deed}
use Rattle.cdb_reader.specs.Plan.{next}
use Rattle.cdb_reader.specs.Request.{Request}
use Rattle.block_machine.specs.declared.entry.Who.TheVariants.{Command, Drive}
use Rattle.block_machine.specs.declared.entry.Entry.{Entry}
use Rattle.block_machine.specs.declared.entry.Entry.TheVariants.{Arrived, Started, Get, Put, Harden, Passed, GiveUp, Page, Ended, Aborted, Asked, Mode, Scanned, Logged, Cut, PoweredOn, Tick, Blank, Fresh}
use Rattle.block_machine.specs.declared.turn.Label.{Label}
use Rattle.block_machine.specs.declared.turn.Label.TheVariants.{Arrive, Work, Job, Scan, Destage, World}
use Rattle.disk_base.specs.declared.address.Tag.{Tag}
use Rattle.disk_base.specs.declared.command.Attribute.{Attribute}
use Rattle.sense_data.specs.Attentions.{Waiting}
use Rattle.cdb_reader.specs.Read.{read_of}
use Rattle.block_machine.specs.declared.turn.Turn.{Turn}
use Rattle.block_machine.specs.History.{task_legal_from, entries_of}
use Rattle.block_machine.specs.State.{State, Duty, is_full, initiator_of, owed_by, state_at_start}
use Rattle.block_machine.specs.Plans.{first_plan}
use Rattle.block_machine.specs.Deeds.{Done, done_by, owed_after}
use Rattle.block_machine.specs.Steps.{entry_after, duties_done, with_owed, begun, task_arrived}
use Rattle.block_machine.specs.Entries.{entry_lawful, may_start, is_owed, works_on, may_write_for}
use Rattle.block_machine.proofs.Alongs.{along_first, along_second}
use Rattle.block_machine.proofs.OneBlock.{kept_along}
use Rattle.block_machine.proofs.BlockLaws.{all_pass}
use Rattle.block_machine.proofs.Stepwise.{Step, Begins, Does, step_after, step_ok, entry_ok, arrival_ok, entries_in, steps_of, steps_ok, parted, entries_of_steps}
use Rattle.block_machine.proofs.Booleans.{and_both, both}

-- each member of this number was started
abbrev pub all_started : ℕ → List Member → Bool
all_started c set = list_all (λ m. not (m.task.c == c) || m.started) set

append_started : (c : ℕ) (set : List Member) (m : Member) → all_started c set ≡ true → nat_eq m.task.c c ≡ false → all_started c (set ++ m ∷ []) ≡ true
append_started c [] m h e = ap (λ (t : Bool). (not t || m.started) && true) e
append_started c (n ∷ set) m h e =
    let now = both (not (n.task.c == c) || n.started) _ h in
    and_both (not (n.task.c == c) || n.started) _ now.0 (append_started c set m now.1 e)

filter_one : (p t : Bool) (c : ℕ) (m : Member) (set : List Member) → (not (m.task.c == c) || m.started) ≡ true → all_started c set ≡ true → all_started c (cond p (m ∷ set) set) ≡ true
filter_one true t c m set h k = and_both (not (m.task.c == c) || m.started) _ h k
filter_one false t c m set h k = k

pub filter_started : (c : ℕ) (p : Member → Bool) (set : List Member) → all_started c set ≡ true → all_started c (filter p set) ≡ true
filter_started c p [] h = refl
filter_started c p (m ∷ set) h =
    let now = both (not (m.task.c == c) || m.started) _ h in
    filter_one (p m) true c m (filter p set) now.0 (filter_started c p set now.1)

-- a member that is started, or stays as it is, is still started
or_true : (x : Bool) → (x || true) ≡ true
or_true true = refl
or_true false = refl

one_started : (t : Bool) (c : ℕ) (m : Member) → (not (m.task.c == c) || m.started) ≡ true
    → (not ((cond t (record m { started = true }) m).task.c == c) || (cond t (record m { started = true }) m).started) ≡ true
one_started true c m h = or_true _
one_started false c m h = h

pub map_started : (c d : ℕ) (set : List Member) → all_started c set ≡ true → all_started c (map (started_at d) set) ≡ true
map_started c d [] h = refl
map_started c d (m ∷ set) h =
    let now = both (not (m.task.c == c) || m.started) _ h in
    and_both (not ((started_at d m).task.c == c) || (started_at d m).started) _ (one_started (m.task.c == d) c m now.0) (map_started c d set now.1)

-- the members of a number, once they are started
self_started : (t : Bool) (c : ℕ) (m : Member) → nat_eq m.task.c c ≡ t
    → (not ((cond t (record m { started = true }) m).task.c == c) || (cond t (record m { started = true }) m).started) ≡ true
self_started true c m e = or_true _
self_started false c m e = ap (λ (t : Bool). not t || m.started) e

pub start_started : (c : ℕ) (set : List Member) → all_started c (map (started_at c) set) ≡ true
start_started c [] = refl
start_started c (m ∷ set) =
    and_both (not ((started_at c m).task.c == c) || (started_at c m).started) _ (self_started (nat_eq m.task.c c) c m refl) (start_started c set)

-- what is found of that number was started
found_one : (t : Bool) (c : ℕ) (n m : Member) (rest : Option Member) → nat_eq n.task.c c ≡ t → (not t || n.started) ≡ true → (rest ≡ Some m → m.started ≡ true) → cond t (Some n) rest ≡ Some m → m.started ≡ true
found_one true c n m rest e h k f = let is : n ≡ m = cc in ap (λ (x : Member). x.started) (sym is) ∙ h
found_one false c n m rest e h k f = k f

pub found_started : (c : ℕ) (set : List Member) (m : Member) → all_started c set ≡ true → find (λ n. n.task.c == c) set ≡ Some m → m.started ≡ true
found_started c [] m h f = absurd (cc)
found_started c (n ∷ set) m h f =
    let now = both (not (n.task.c == c) || n.started) _ h in
    found_one (nat_eq n.task.c c) c n m (find (λ n. n.task.c == c) set) refl now.0 (found_started c set m now.1) f

-- a command that was started doesn't start again
pub no_restart : (o : Option Member) (s : State) → ((m : Member) → o ≡ Some m → m.started ≡ true)
    → option_map_or (λ m. not m.started && is_none (first_forbidding s.set m.task)) o false ≡ true → ⊥
no_restart None s h k = cc
no_restart (Some m) s h k =
    let started : m.started ≡ true = h m refl in
    let not_started : not m.started ≡ true = (both (not m.started) _ k).0 in
    let no : false ≡ true = ap not (sym started) ∙ not_started in cc

-- whether an entry is no deed of this command
abbrev pub NotBy : ℕ → Option Done → Type 0
NotBy c None = Unit {0}
NotBy c (Some d) = nat_eq c d.c ≡ false

-- a command that owes something was started
unfoldable pub Flag : ℕ → Option Plan → List Member → Type 0
Flag c None set = Unit {0}
Flag c (Some plan) set = all_started c set ≡ true

flag_kept : (c : ℕ) (o : Option Plan) (set more : List Member) → (all_started c set ≡ true → all_started c more ≡ true) → Flag c o set → Flag c o more
unfolding Flag
flag_kept c None set more k f = tt
flag_kept c (Some plan) set more k f = k f

-- an entry that may come is that of an arrival, or of another turn
pub data OkCases : ℕ → Label → State → Entry → Type 0 where
  arriving : {capacity : ℕ} {label : Label} {s : State} {e : Entry} → arrival_ok s e ≡ true → OkCases capacity label s e
  working : {capacity : ℕ} {label : Label} {s : State} {e : Entry} → entry_lawful capacity label s e ≡ true → OkCases capacity label s e

pub ok_cases : (capacity : ℕ) (label : Label) (s : State) (e : Entry) → entry_ok capacity label s e ≡ true → OkCases capacity label s e
ok_cases capacity (Arrive i) s e h = arriving h
ok_cases capacity (Work c) s e h = working h
ok_cases capacity (Job j) s e h = working h
ok_cases capacity Scan s e h = working h
ok_cases capacity Destage s e h = working h
ok_cases capacity (World w) s e h = working h

-- a place that isn't changed
put_elsewhere : {V : Type 0} (k n : ℕ) (v : V) (f : ℕ → V) → nat_eq n k ≡ false → put_at k v f n ≡ f n
put_elsewhere k n v f e = ap (λ (t : Bool). cond t v (f n)) e

pub put_here : {V : Type 0} (k n : ℕ) (v : V) (f : ℕ → V) → nat_eq n k ≡ true → put_at k v f n ≡ v
put_here k n v f e = ap (λ (t : Bool). cond t v (f n)) e

-- what a deed that is owed says
pub record Owed (s : State) (c : ℕ) (what : Deed) : Type 0 where
  pub before : Plan
  pub after : Plan
  pub owes : (s.duties c).owes ≡ Some before
  pub follows : next before what ≡ Some after
  pub is : owed_after s (record { c = c; what = what }) ≡ Some after

owed_next : (o : Option Plan) (plan : Plan) (s : State) (c : ℕ) (what : Deed) → (s.duties c).owes ≡ Some plan → owed_by s c ≡ Some plan → next plan what ≡ o
    → is_some o ≡ true → Owed s c what
owed_next None plan s c what owes by e h = absurd (cc)
owed_next (Some after) plan s c what owes by e h = record {
  before = plan;
  after = after;
  owes = owes;
  follows = e;
  is = ap (λ (x : Option Plan). option_and_then (λ plan. next plan what) x) by ∙ e;
}

owed_plan : (m : Option Member) (o : Option Plan) (s : State) (c : ℕ) (what : Deed) → option_and_then (λ m. (s.duties c).owes) (member_of s.set c) ≡ o → member_of s.set c ≡ m
    → is_some (option_and_then (λ plan. next plan what) o) ≡ true → Owed s c what
owed_plan m None s c what e f h = absurd (cc)
owed_plan None (Some plan) s c what e f h = let no : None ≡ Some plan = ap (λ (x : Option Member). option_and_then (λ m. (s.duties c).owes) x) (sym f) ∙ e in absurd (cc)
owed_plan (Some m) (Some plan) s c what e f h =
    let owes : (s.duties c).owes ≡ Some plan = ap (λ (x : Option Member). option_and_then (λ m. (s.duties c).owes) x) (sym f) ∙ e in
    owed_next (next plan what) plan s c what owes e refl h

pub owed : (s : State) (c : ℕ) (what : Deed) → is_some (owed_after s (record { c = c; what = what })) ≡ true → Owed s c what
owed s c what h = owed_plan (member_of s.set c) (owed_by s c) s c what refl refl h

none_is : {X : Type 0} (o : Option X) → is_none o ≡ true → o ≡ None
none_is None h = refl
none_is (Some x) h = absurd (cc)

-- a command that owes nothing owes nothing after a deed
owed_nothing : (m : Option Member) (s : State) (c : ℕ) → (s.duties c).owes ≡ None → option_and_then (λ m. (s.duties c).owes) m ≡ None
owed_nothing None s c e = refl
owed_nothing (Some m) s c e = e

pub nothing_after : (s : State) (c : ℕ) (what : Deed) → (s.duties c).owes ≡ None → owed_after s (record { c = c; what = what }) ≡ None
nothing_after s c what e = ap (λ (o : Option Plan). option_and_then (λ plan. next plan what) o) (owed_nothing (member_of s.set c) s c e)

same_duty : (d : Duty) (o : Option Plan) → d.owes ≡ None → o ≡ None → record d { owes = o } ≡ d
same_duty d o e f = ap (λ (x : Option Plan). record d { owes = x }) (f ∙ sym e)

le_self : (n : ℕ) → n ≤ n
le_self n = omega arith

-- a command that comes isn't this one
pub arrived_started : (c : ℕ) (full : Bool) (s : State) (task : Task) → nat_eq task.c c ≡ false → all_started c s.set ≡ true
    → all_started c (cond full s.set (s.set ++ record { task = task; started = false } ∷ [])) ≡ true
arrived_started c true s task e h = h
arrived_started c false s task e h = append_started c s.set (record { task = task; started = false }) h e

-- what is kept for a command: it came with this request and these data, and what it owes fits what was counted of its entries
pub record Inv {G : Type 0} (c : ℕ) (asks : Result Request Sense) (sent : DataOut) (I : Option Plan → G → Type 0) (s : State) (g : G) : Type 0 where
  pub came : c ≤ s.arrived
  pub asked : (s.duties c).asks ≡ asks
  pub given : (s.duties c).sent ≡ sent
  pub flag : Flag c (s.duties c).owes s.set
  pub plan : I (s.duties c).owes g

-- when a command ends: a state in which the end may come, and what is kept for it
pub record AtEnd {G : Type 0} (capacity c : ℕ) (asks : Result Request Sense) (sent : DataOut) (I : Option Plan → G → Type 0) (reply : Reply) (g : G) : Type 0 where
  pub state : State
  pub label : Label
  pub ok : OkCases capacity label state (Ended c reply)
  pub inv : Inv c asks sent I state g

module _ {G : Type 0} (capacity c : ℕ) (asks : Result Request Sense) (sent : DataOut) (count : G → Entry → G) (I : Option Plan → G → Type 0)
    (idle : (label : Label) (s : State) (e : Entry) (g : G) → NotBy c (done_by label s e) → count g e ≡ g)
    (begins : (s : State) (duty : Duty) (g : G) → duty.asks ≡ asks → duty.sent ≡ sent → I None g → I (Some (first_plan capacity s (initiator_of s c) duty)) g)
    (goes_on : (label : Label) (s : State) (e : Entry) (g : G) (what : Deed) (plan after : Plan) → done_by label s e ≡ Some (record { c = c; what = what })
    → entry_lawful capacity label s e ≡ true → next plan what ≡ Some after → I (Some plan) g → I (Some after) (count g e))
    (ends : (d : ℕ) (reply : Reply) (g : G) → count g (Ended d reply) ≡ g) where
  -- an entry that is not about the command
  unchanged : (s t : State) (g h : G) → s.arrived ≤ t.arrived → t.duties c ≡ s.duties c → (all_started c s.set ≡ true → all_started c t.set ≡ true) → h ≡ g
      → Inv c asks sent I s g → Inv c asks sent I t h
  unchanged s t g h more same kept counted i = record {
    came = let came : c ≤ s.arrived = i.came in omega arith;
    asked = ap (λ (d : Duty). d.asks) same ∙ i.asked;
    given = ap (λ (d : Duty). d.sent) same ∙ i.given;
    flag = subst (λ (d : Duty). Flag c d.owes t.set) (sym same) (flag_kept c (s.duties c).owes s.set t.set kept i.flag);
    plan = subst (λ (x : G). I (t.duties c).owes x) (sym counted) (subst (λ (d : Duty). I d.owes g) (sym same) i.plan);
  }

  -- a deed of the command
  deed_kept : (label : Label) (s : State) (e : Entry) (g : G) (what : Deed) → done_by label s e ≡ Some (record { c = c; what = what }) → entry_lawful capacity label s e ≡ true
      → is_some (owed_after s (record { c = c; what = what })) ≡ true → (all_started c s.set ≡ true → all_started c (entry_after capacity label s e).set ≡ true)
      → s.arrived ≤ (entry_after capacity label s e).arrived
      → (entry_after capacity label s e).duties ≡ with_owed s.duties c (owed_after s (record { c = c; what = what }))
      → Inv c asks sent I s g → Inv c asks sent I (entry_after capacity label s e) (count g e)
  unfolding Flag
  deed_kept label s e g what is lawful owes kept more changed i =
      let o : Owed s c what = owed s c what owes in
      let same : (entry_after capacity label s e).duties c ≡ record (s.duties c) { owes = Some o.after } =
      ap (λ (f : ℕ → Duty). f c) changed ∙ put_here c c _ s.duties (eq-eqb c c refl) ∙ ap (λ (x : Option Plan). record (s.duties c) { owes = x }) o.is in
      let started : all_started c s.set ≡ true = subst (λ (x : Option Plan). Flag c x s.set) o.owes i.flag in
      let plan : I (Some o.after) (count g e) = goes_on label s e g what o.before o.after is lawful o.follows (subst (λ (x : Option Plan). I x g) o.owes i.plan) in
      record {
        came = let came : c ≤ s.arrived = i.came in omega arith;
        asked = ap (λ (d : Duty). d.asks) same ∙ i.asked;
        given = ap (λ (d : Duty). d.sent) same ∙ i.given;
        flag = subst (λ (d : Duty). Flag c d.owes (entry_after capacity label s e).set) (sym same) (kept started);
        plan = subst (λ (d : Duty). I d.owes (count g e)) (sym same) plan;
      }

  -- a deed of some command
  deed_of_some : (t : Bool) (label : Label) (s : State) (e : Entry) (g : G) (d : Done) → nat_eq c d.c ≡ t → done_by label s e ≡ Some d → entry_lawful capacity label s e ≡ true
      → is_some (owed_after s d) ≡ true → (all_started c s.set ≡ true → all_started c (entry_after capacity label s e).set ≡ true)
      → s.arrived ≤ (entry_after capacity label s e).arrived → (entry_after capacity label s e).duties ≡ with_owed s.duties d.c (owed_after s d)
      → Inv c asks sent I s g → Inv c asks sent I (entry_after capacity label s e) (count g e)
  deed_of_some true label s e g d t is lawful owes kept more changed i =
      let same : d ≡ record { c = c; what = d.what } = ap (λ (n : ℕ). record { c = n; what = d.what }) (sym (eqb-true c d.c t)) in
      deed_kept label s e g d.what (is ∙ ap (λ (x : Done). Some x) same) lawful
      (subst (λ (x : Done). is_some (owed_after s x) ≡ true) same owes) kept more
      (changed ∙ ap (λ (x : Done). with_owed s.duties x.c (owed_after s x)) same) i
  deed_of_some false label s e g d t is lawful owes kept more changed i =
      unchanged s (entry_after capacity label s e) g (count g e) more (ap (λ (f : ℕ → Duty). f c) changed ∙ put_elsewhere d.c c _ s.duties t) kept
      (idle label s e g (subst (λ (x : Option Done). NotBy c x) (sym is) t)) i

  deed_cases : (o : Option Done) (label : Label) (s : State) (e : Entry) (g : G) → done_by label s e ≡ o → entry_lawful capacity label s e ≡ true
      → is_some (option_and_then (owed_after s) o) ≡ true → (all_started c s.set ≡ true → all_started c (entry_after capacity label s e).set ≡ true)
      → s.arrived ≤ (entry_after capacity label s e).arrived → (entry_after capacity label s e).duties ≡ duties_done s o
      → Inv c asks sent I s g → Inv c asks sent I (entry_after capacity label s e) (count g e)
  deed_cases None label s e g is lawful owes kept more changed i = absurd (cc)
  deed_cases (Some d) label s e g is lawful owes kept more changed i = deed_of_some (nat_eq c d.c) label s e g d refl is lawful owes kept more changed i

  -- the command starts, or another
  start_kept : (t : Bool) (o : Option Plan) (label : Label) (s : State) (d : ℕ) (g : G) → nat_eq c d ≡ t → (s.duties c).owes ≡ o → may_start s d ≡ true
      → Inv c asks sent I s g → Inv c asks sent I (entry_after capacity label s (Started d)) (count g (Started d))
  unfolding Flag
  start_kept false o label s d g t e may i =
      unchanged s (entry_after capacity label s (Started d)) g (count g (Started d)) (le_self s.arrived) (put_elsewhere d c _ s.duties t) (map_started c d s.set) (idle label s (Started d) g tt) i
  start_kept true (Some plan) label s d g t e may i =
      let is : c ≡ d = eqb-true c d t in
      let started : all_started c s.set ≡ true = subst (λ (x : Option Plan). Flag c x s.set) e i.flag in
      absurd (no_restart (member_of s.set c) s (λ m f. found_started c s.set m started f) (subst (λ (n : ℕ). may_start s n ≡ true) (sym is) may))
  start_kept true None label s d g t e may i =
      let is : d ≡ c = sym (eqb-true c d t) in
      subst (λ (n : ℕ). Inv c asks sent I (entry_after capacity label s (Started n)) (count g (Started n))) (sym is) (
      let same : (entry_after capacity label s (Started c)).duties c ≡ record (s.duties c) { owes = Some (first_plan capacity s (initiator_of s c) (s.duties c)) } =
      put_here c c _ s.duties (eq-eqb c c refl) in
      record {
        came = let came : c ≤ s.arrived = i.came in came;
        asked = ap (λ (x : Duty). x.asks) same ∙ i.asked;
        given = ap (λ (x : Duty). x.sent) same ∙ i.given;
        flag = subst (λ (x : Duty). Flag c x.owes (entry_after capacity label s (Started c)).set) (sym same) (start_started c s.set);
        plan = subst (λ (x : Duty). I x.owes (count g (Started c))) (sym same)
            (subst (λ (x : G). I (Some (first_plan capacity s (initiator_of s c) (s.duties c))) x) (sym (idle label s (Started c) g tt))
            (begins s (s.duties c) g i.asked i.given (subst (λ (x : Option Plan). I x g) e i.plan)));
      }
      )

  -- an entry in a turn that isn't an arrival
  work_kept : (label : Label) (s : State) (e : Entry) (g : G) → entry_lawful capacity label s e ≡ true → Inv c asks sent I s g → Inv c asks sent I (entry_after capacity label s e) (count g e)
  work_kept label s (Started d) g h i = start_kept (nat_eq c d) (s.duties c).owes label s d g refl refl (both (works_on label d) _ h).1 i
  work_kept label s (Get d b v) g h i =
      deed_cases (done_by label s (Get d b v)) label s (Get d b v) g refl h (both (works_on label d) _ h).1 (λ k. k) (le_self s.arrived) refl i
  work_kept label s (Put d b v) g h i =
      deed_cases (done_by label s (Put d b v)) label s (Put d b v) g refl h (both (may_write_for label d) _ h).1 (λ k. k) (le_self s.arrived) refl i
  work_kept label s (Harden (Command d) b) g h i =
      deed_cases (done_by label s (Harden (Command d) b)) label s (Harden (Command d) b) g refl h (both (may_write_for label d) _ (both (may_write_for label d && is_owed label s (Harden (Command d) b)) _ h).0).1 (λ k. k) (le_self s.arrived) refl i
  work_kept label s (Passed d from to) g h i =
      deed_cases (done_by label s (Passed d from to)) label s (Passed d from to) g refl h (both (works_on label d) _ h).1 (λ k. k) (le_self s.arrived) refl i
  work_kept label s (Page d bytes) g h i =
      deed_cases (done_by label s (Page d bytes)) label s (Page d bytes) g refl h (both (works_on label d) _ h).1 (λ k. k) (le_self s.arrived) refl i
  work_kept label s (Ended d reply) g h i =
      deed_cases (done_by label s (Ended d reply)) label s (Ended d reply) g refl h (both (works_on label d) _ (both (works_on label d && is_owed label s (Ended d reply)) _ h).0).1
      (filter_started c (λ m. not (m.task.c == d)) s.set) (le_self s.arrived) refl i
  work_kept label s (Mode settings) g h i =
      deed_cases (done_by label s (Mode settings)) label s (Mode settings) g refl h (both (is_owed label s (Mode settings)) _ h).0 (λ k. k) (le_self s.arrived) refl i
  work_kept label s (Harden Drive b) g h i = unchanged s (entry_after capacity label s (Harden Drive b)) g _ (le_self s.arrived) refl (λ k. k) (idle label s (Harden Drive b) g tt) i
  work_kept label s (GiveUp b) g h i = unchanged s (entry_after capacity label s (GiveUp b)) g _ (le_self s.arrived) refl (λ k. k) (idle label s (GiveUp b) g tt) i
  work_kept label s (Scanned b what) g h i = unchanged s (entry_after capacity label s (Scanned b what)) g _ (le_self s.arrived) refl (λ k. k) (idle label s (Scanned b what) g tt) i
  work_kept label s (Logged finding) g h i = unchanged s (entry_after capacity label s (Logged finding)) g _ (le_self s.arrived) refl (λ k. k) (idle label s (Logged finding) g tt) i
  work_kept label s Cut g h i = unchanged s (entry_after capacity label s Cut) g _ (le_self s.arrived) refl (λ k. refl) (idle label s Cut g tt) i
  work_kept label s (PoweredOn outcome) g h i = unchanged s (entry_after capacity label s (PoweredOn outcome)) g _ (le_self s.arrived) refl (λ k. k) (idle label s (PoweredOn outcome) g tt) i
  work_kept label s (Tick minutes) g h i = unchanged s (entry_after capacity label s (Tick minutes)) g _ (le_self s.arrived) refl (λ k. k) (idle label s (Tick minutes) g tt) i
  work_kept label s (Arrived d j t a cdb data_sent) g h i = absurd (cc)
  work_kept label s (Asked j what) g h i = absurd (cc)
  work_kept label s (Aborted d) g h i = absurd (cc)
  work_kept label s (Blank d) g h i = absurd (cc)
  work_kept label s (Fresh d) g h i = absurd (cc)

  -- a command that finds no room ends
  refused_kept : (t : Bool) (label : Label) (s : State) (d : ℕ) (reply : Reply) (g : G) → nat_eq c d ≡ t → (s.duties d).owes ≡ None
      → Inv c asks sent I s g → Inv c asks sent I (entry_after capacity label s (Ended d reply)) (count g (Ended d reply))
  refused_kept false label s d reply g t e i =
      unchanged s (entry_after capacity label s (Ended d reply)) g _ (le_self s.arrived) (put_elsewhere d c _ s.duties t) (filter_started c (λ m. not (m.task.c == d)) s.set) (ends d reply g) i
  refused_kept true label s d reply g t e i =
      let same : (entry_after capacity label s (Ended d reply)).duties c ≡ s.duties c =
      put_here d c _ s.duties t ∙ same_duty (s.duties d) _ e (nothing_after s d (deed.Ended reply (names_dirty s reply)) e) ∙ ap s.duties (sym (eqb-true c d t)) in
      unchanged s (entry_after capacity label s (Ended d reply)) g _ (le_self s.arrived) same (filter_started c (λ m. not (m.task.c == d)) s.set) (ends d reply g) i

  -- an entry in the turn of an arrival
  arrival_kept : (label : Label) (s : State) (e : Entry) (g : G) → arrival_ok s e ≡ true → Inv c asks sent I s g → Inv c asks sent I (entry_after capacity label s e) (count g e)
  arrival_kept label s (Arrived d j t a cdb data_sent) g h i =
      let came : c ≤ s.arrived = i.came in
      let is : d ≡ s.arrived + 1 = eqb-true d (s.arrived + 1) h in
      let ne : c ≢ d = omega arith in
      let other : d ≢ c = omega arith in
      unchanged s (entry_after capacity label s (Arrived d j t a cdb data_sent)) g _ (omega arith) (put_elsewhere d c _ s.duties (ne_eqb c d ne))
      (arrived_started c (is_full s) s (task_arrived capacity d j t a cdb data_sent) (ne_eqb d c other)) (idle label s (Arrived d j t a cdb data_sent) g tt) i
  arrival_kept label s (Asked j what) g h i = unchanged s (entry_after capacity label s (Asked j what)) g _ (le_self s.arrived) refl (λ k. k) (idle label s (Asked j what) g tt) i
  arrival_kept label s (Aborted d) g h i =
      unchanged s (entry_after capacity label s (Aborted d)) g _ (le_self s.arrived) refl (filter_started c (λ m. not (m.task.c == d)) s.set) (idle label s (Aborted d) g tt) i
  arrival_kept label s (Ended d reply) g h i = refused_kept (nat_eq c d) label s d reply g refl (none_is (s.duties d).owes (both (same_reply reply task_set_full) _ h).1) i
  arrival_kept label s e g h i = absurd (cc)

  entry_kept : (label : Label) (s : State) (e : Entry) (g : G) → OkCases capacity label s e → Inv c asks sent I s g → Inv c asks sent I (entry_after capacity label s e) (count g e)
  entry_kept label s e g (arriving h) i = arrival_kept label s e g h i
  entry_kept label s e g (working h) i = work_kept label s e g h i

  -- the command as it is but for the blocks that were dirty
  looked_at : (s t : State) (g : G) → t.arrived ≡ s.arrived → t.set ≡ s.set → (t.duties c).asks ≡ (s.duties c).asks → (t.duties c).sent ≡ (s.duties c).sent
      → (t.duties c).owes ≡ (s.duties c).owes → Inv c asks sent I s g → Inv c asks sent I t g
  looked_at s t g arrived set same_asks same_sent same_owes i = record {
    came = let came : c ≤ s.arrived = i.came in omega arith;
    asked = same_asks ∙ i.asked;
    given = same_sent ∙ i.given;
    flag = subst (λ (o : Option Plan). Flag c o t.set) (sym same_owes) (subst (λ (set : List Member). Flag c (s.duties c).owes set) (sym set) i.flag);
    plan = subst (λ (o : Option Plan). I o g) (sym same_owes) i.plan;
  }

  worked_on : (t : Bool) (s : State) (d : ℕ) (g : G) → nat_eq c d ≡ t → Inv c asks sent I s g → Inv c asks sent I (begun s (Work d)) g
  worked_on false s d g t i =
      let same : (begun s (Work d)).duties c ≡ s.duties c = put_elsewhere d c _ s.duties t in
      looked_at s (begun s (Work d)) g refl refl (ap (λ (x : Duty). x.asks) same) (ap (λ (x : Duty). x.sent) same) (ap (λ (x : Duty). x.owes) same) i
  worked_on true s d g t i =
      let same : (begun s (Work d)).duties c ≡ record (s.duties d) { dirty_then = s.dirty } = put_here d c _ s.duties t in
      let is : s.duties d ≡ s.duties c = ap s.duties (sym (eqb-true c d t)) in
      looked_at s (begun s (Work d)) g refl refl (ap (λ (x : Duty). x.asks) same ∙ ap (λ (x : Duty). x.asks) is)
      (ap (λ (x : Duty). x.sent) same ∙ ap (λ (x : Duty). x.sent) is) (ap (λ (x : Duty). x.owes) same ∙ ap (λ (x : Duty). x.owes) is) i

  -- a turn that begins
  begun_kept : (label : Label) (s : State) (g : G) → Inv c asks sent I s g → Inv c asks sent I (begun s label) g
  begun_kept (Work d) s g i = worked_on (nat_eq c d) s d g refl i
  begun_kept (Arrive j) s g i = i
  begun_kept (Job j) s g i = i
  begun_kept Scan s g i = i
  begun_kept Destage s g i = i
  begun_kept (World w) s g i = i

  -- what is counted along steps
  count_step : G → Step → G
  count_step g (Begins label) = g
  count_step g (Does label e) = count g e

  step_kept : (s : State) (g : G) (step : Step) → step_ok capacity s step ≡ true → true ≡ true → Inv c asks sent I s g → Inv c asks sent I (step_after capacity s step) (count_step g step)
  unfolding count_step
  step_kept s g (Begins label) h q i = begun_kept label s g i
  step_kept s g (Does label e) h q i = entry_kept label s e g (ok_cases capacity label s e h) i

  counted : (g : G) (steps : List Step) → fold count_step g steps ≡ fold count g (entries_in steps)
  unfolding count_step
  counted g [] = refl
  counted g (Begins label ∷ steps) = counted g steps
  counted g (Does label e ∷ steps) = counted (count g e) steps

  -- along steps
  pub steps_kept : (s : State) (g : G) (steps : List Step) → all_along (step_after capacity) (step_ok capacity) s steps ≡ true → Inv c asks sent I s g
      → Inv c asks sent I (fold (step_after capacity) s steps) (fold count g (entries_in steps))
  steps_kept s g steps h i =
      subst (λ (x : G). Inv c asks sent I (fold (step_after capacity) s steps) x) (counted g steps)
      (kept_along (step_after capacity) (step_ok capacity) count_step (λ step. true) (Inv c asks sent I) step_kept s g steps h (all_pass steps) i)

  -- right after the arrival
  pub arrived_inv : (label : Label) (s : State) (j : ℕ) (t : Tag) (a : Attribute) (cdb : List ℕ) (g : G) → OkCases capacity label s (Arrived c j t a cdb sent)
      → read_of cdb sent capacity ≡ asks → I None g → Inv c asks sent I (entry_after capacity label s (Arrived c j t a cdb sent)) g
  unfolding Flag
  arrived_inv label s j t a cdb g (working h) e i = absurd (cc)
  arrived_inv label s j t a cdb g (arriving h) e i =
      let is : c ≡ s.arrived + 1 = eqb-true c (s.arrived + 1) h in
      let same = put_here {V = Duty} c c (record { code = slice_index cdb 0; asks = read_of cdb sent capacity; sent = sent; owes = None; dirty_then = [] }) s.duties (eq-eqb c c refl) in
      record {
        came = omega arith;
        asked = ap (λ (x : Duty). x.asks) same ∙ e;
        given = ap (λ (x : Duty). x.sent) same;
        flag = subst (λ (x : Duty). Flag c x.owes (entry_after capacity label s (Arrived c j t a cdb sent)).set) (sym same) tt;
        plan = subst (λ (x : Duty). I x.owes g) (sym same) i;
      }

  -- when it ends
  pub until_its_end : (waiting : Waiting) (turns : List Turn) (first between after : List Entry) (j : ℕ) (t : Tag) (a : Attribute) (cdb : List ℕ) (reply : Reply) (g : G)
      → task_legal_from capacity (state_at_start waiting) turns ≡ true
      → entries_of turns ≡ first ++ Arrived c j t a cdb sent ∷ (between ++ Ended c reply ∷ after)
      → read_of cdb sent capacity ≡ asks → I None g
      → AtEnd capacity c asks sent I reply (fold count g between)
  until_its_end waiting turns first between after j t a cdb reply g legal is e i =
      let start : State = state_at_start waiting in
      let all = steps_ok capacity start turns legal in
      let p = parted (steps_of turns) first (Arrived c j t a cdb sent) (between ++ Ended c reply ∷ after) (entries_of_steps turns ∙ is) in
      let q = parted p.behind between (Ended c reply) after p.last in
      let h0 : all_along (step_after capacity) (step_ok capacity) start (p.before ++ Does p.label (Arrived c j t a cdb sent) ∷ p.behind) ≡ true =
      ap (λ (x : List Step). all_along (step_after capacity) (step_ok capacity) start x) (sym p.whole) ∙ all in
      let s : State = fold (step_after capacity) start p.before in
      let h1 = both (entry_ok capacity p.label s (Arrived c j t a cdb sent)) _ (along_second (step_after capacity) (step_ok capacity) start p.before (Does p.label (Arrived c j t a cdb sent) ∷ p.behind) h0) in
      let u : State = entry_after capacity p.label s (Arrived c j t a cdb sent) in
      let i1 = arrived_inv p.label s j t a cdb g (ok_cases capacity p.label s (Arrived c j t a cdb sent) h1.0) e i in
      let h2 : all_along (step_after capacity) (step_ok capacity) u (q.before ++ Does q.label (Ended c reply) ∷ q.behind) ≡ true =
      ap (λ (x : List Step). all_along (step_after capacity) (step_ok capacity) u x) (sym q.whole) ∙ h1.1 in
      let v : State = fold (step_after capacity) u q.before in
      let h3 = both (entry_ok capacity q.label v (Ended c reply)) _ (along_second (step_after capacity) (step_ok capacity) u q.before (Does q.label (Ended c reply) ∷ q.behind) h2) in
      let i2 = steps_kept u g q.before (along_first (step_after capacity) (step_ok capacity) u q.before (Does q.label (Ended c reply) ∷ q.behind) h2) i1 in
      record {
        state = v;
        label = q.label;
        ok = ok_cases capacity q.label v (Ended c reply) h3.0;
        inv = subst (λ (es : List Entry). Inv c asks sent I v (fold count g es)) q.first i2;
      }
