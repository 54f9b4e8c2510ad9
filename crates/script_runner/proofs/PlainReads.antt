-- A command that may take a value from the cache came as a READ without FUA.
use Rattle.std.proofs.Common.{◌≡◌, ◌∙◌, ap, sym, subst, refl, ℕ, ◌+◌, Bool, true, false, not, cond, nat_eq, List, [], ◌∷◌, ◌++◌, append_assoc, append-nil}
use Rattle.std.specs.Prelude.{◌==◌, ◌&&◌, flat_map, fold, unwrap_or, Option, Some, None, Result, Ok, Err}
use Rattle.std.specs.Option.{option_and_then}
use Rattle.std.proofs.lemmas.Bool.{eqb-true, not-true}
use Rattle.disk_base.specs.declared.block.Value.TheVariants.{Data, Lost}
use Rattle.disk_base.specs.declared.command.DataOut.{DataOut}
use Rattle.sense_data.specs.declared.sense.Sense.{Sense}
use Rattle.sense_data.specs.Sense.{sense_of}
use Rattle.cdb_reader.specs.declared.plan.Plan.{Plan}
use Rattle.cdb_reader.specs.declared.plan.Plan.TheVariants.{Ending, Unread, Answering, Changing, Reading, Writing, Syncing, Moving, Over}
use Rattle.cdb_reader.specs.declared.plan.Deed.{Deed}
use Rattle.cdb_reader.specs.declared.plan.Deed.TheVariants as deed
use Rattle.cdb_reader.specs.declared.plan.Writing as writing
use Rattle.cdb_reader.specs.declared.plan.Moving as moving
use Rattle.cdb_reader.specs.Plan.{next, after_written, after_move, reading_from}
use Rattle.cdb_reader.specs.Read.{read_of}
use Rattle.cdb_reader.specs.Replies.{good}
use Rattle.cdb_reader.specs.Request.{Request}
use Rattle.cdb_reader.specs.Request as request
use Rattle.mode_pages.specs.declared.settings.Settings.{Settings}
use Rattle.task_set.specs.declared.member.Member.{Member}
use Rattle.task_set.specs.Members.{member_of}
use Rattle.block_machine.specs.declared.entry.Entry.{Entry}
use Rattle.block_machine.specs.declared.entry.Entry.TheVariants.{Arrived, Started}
use Rattle.block_machine.specs.declared.turn.Label.{Label}
use Rattle.block_machine.specs.declared.turn.Label.TheVariants.{Arrive, Work, Job, Scan, Destage, World}
use Rattle.block_machine.specs.Deeds.{Done, done_by, owed_after}
use Rattle.block_machine.specs.Parts.{Command, arrival, asked}
use Rattle.block_machine.specs.Plans.{answering, answering_sensed, changing, refusing, plan_asked, plan_unless_refused, first_plan}
use Rattle.block_machine.specs.State.{State, Duty, initiator_of, owed_by}
use Rattle.block_machine.specs.Steps.{begun, entry_after, entries_after, with_owed, duties_done}
use Rattle.block_machine.proofs.Booleans.{both}
use Rattle.block_machine.proofs.Replies.{when_is, at_start}
use Rattle.geometry_map.specs.Size.{capacity_of}
use Rattle.drive_scene.specs.Evidence.{may_use_cache}
use Rattle.drive_scene.specs.Scene.{Scene, Beat, capacity, scene_at_start}
use Rattle.drive_scene.specs.After.{scene_after}
use Rattle.drive_scene.specs.Run.{Run}
use Rattle.script_runner.specs.Laws.{EntryIn, entries_before, scene_before, CameAsReadWithoutFua}

-- a READ without FUA is asked for
abbrev IsPlainRead : Result Request Sense → Type 0
IsPlainRead (Ok (request.Read from count fua)) = fua ≡ false
IsPlainRead other = ⊥

-- only by such a request a plan may take values from the cache
abbrev IsPlainBy : Result Request Sense → Option Plan → Type 0
IsPlainBy asks (Some (Reading r)) = r.through ≡ false → IsPlainRead asks
IsPlainBy asks other = Unit {0}

-- .. also after a deed
either_plain : (asks : Result Request Sense) (t : Bool) (p q : Plan) → IsPlainBy asks (Some p) → IsPlainBy asks (Some q) → IsPlainBy asks (Some (cond t p q))
either_plain asks true p q h k = h
either_plain asks false p q h k = k

written_plain : (asks : Result Request Sense) (w : writing.Writing) → IsPlainBy asks (Some (after_written w))
written_plain asks w = either_plain asks (w.verifies && w.at + 1 == w.end) (reading_from w.from w.end true w.reports) _ (λ h. absurd (cc)) tt

moved_plain : (asks : Result Request Sense) (m : moving.Moving) (o : Option ℕ) → IsPlainBy asks (after_move m o)
moved_plain asks m None = tt
moved_plain asks m (Some i) = tt

next_plain : (asks : Result Request Sense) (plan : Plan) (what : Deed) (after : Plan) → next plan what ≡ Some after → IsPlainBy asks (Some plan) → IsPlainBy asks (Some after)
next_plain asks (Answering bytes reply) (deed.Page given) after h i = subst (λ (p : Plan). IsPlainBy asks (Some p)) (when_is _ _ _ h).1 tt
next_plain asks Changing deed.Mode after h i = subst (IsPlainBy asks) h tt
next_plain asks (Reading r) (deed.Hardened b) after h i = subst (λ (p : Plan). IsPlainBy asks (Some p)) (when_is _ _ _ h).1 i
next_plain asks (Reading r) (deed.Got b (Data d) dirty) after h i = subst (λ (p : Plan). IsPlainBy asks (Some p)) (when_is _ _ _ h).1 i
next_plain asks (Reading r) (deed.Got b Lost dirty) after h i = subst (λ (p : Plan). IsPlainBy asks (Some p)) (when_is _ _ _ h).1 tt
next_plain asks (Writing w) (deed.Put b block full) after h i =
    subst (λ (p : Plan). IsPlainBy asks (Some p)) (when_is _ _ _ h).1 (either_plain asks _ (Writing _) (after_written w) tt (written_plain asks w))
next_plain asks (Writing w) (deed.Hardened b) after h i = subst (λ (p : Plan). IsPlainBy asks (Some p)) (when_is _ _ _ h).1 (written_plain asks w)
next_plain asks (Syncing y) (deed.Passed from to) after h i = subst (λ (p : Plan). IsPlainBy asks (Some p)) (when_is _ _ _ h).1 tt
next_plain asks (Syncing y) (deed.Hardened b) after h i = subst (λ (p : Plan). IsPlainBy asks (Some p)) (when_is _ _ _ h).1 tt
next_plain asks (Moving m) (deed.Hardened b) after h i = subst (IsPlainBy asks) h (moved_plain asks m _)
next_plain asks (Ending reply) (deed.Ended x dirty) after h i = subst (λ (p : Plan). IsPlainBy asks (Some p)) (when_is _ _ _ h).1 tt
next_plain asks (Unread b) (deed.Ended x dirty) after h i = subst (λ (p : Plan). IsPlainBy asks (Some p)) (when_is _ _ _ h).1 tt
next_plain asks (Reading r) (deed.Ended x dirty) after h i = subst (λ (p : Plan). IsPlainBy asks (Some p)) (when_is _ _ _ h).1 tt
next_plain asks (Writing w) (deed.Ended x dirty) after h i = subst (λ (p : Plan). IsPlainBy asks (Some p)) (when_is _ _ _ h).1 tt
next_plain asks (Syncing y) (deed.Ended x dirty) after h i = subst (λ (p : Plan). IsPlainBy asks (Some p)) (when_is _ _ _ h).1 tt
next_plain asks (Moving m) (deed.Ended x dirty) after h i = subst (λ (p : Plan). IsPlainBy asks (Some p)) (when_is _ _ _ h).1 tt
next_plain asks plan what after h i = absurd (cc)

next_some : (o : Option Plan) (asks : Result Request Sense) (plan : Plan) (what : Deed) → next plan what ≡ o → IsPlainBy asks (Some plan) → IsPlainBy asks o
next_some None asks plan what e i = tt
next_some (Some after) asks plan what e i = next_plain asks plan what after e i

after_plain : (m : Option Member) (o : Option Plan) (asks : Result Request Sense) (what : Deed) → IsPlainBy asks o
    → IsPlainBy asks (option_and_then (λ plan. next plan what) (option_and_then (λ m. o) m))
after_plain None o asks what i = tt
after_plain (Some m) None asks what i = tt
after_plain (Some m) (Some plan) asks what i = next_some (next plan what) asks plan what refl i

-- .. and at a command's start
answering_plain : (asks : Result Request Sense) (allocation : ℕ) (o : Option (List ℕ)) → IsPlainBy asks (Some (answering allocation o))
answering_plain asks allocation None = tt
answering_plain asks allocation (Some bytes) = tt

sensed_plain : (asks : Result Request Sense) (o : Result (List ℕ) Sense) → IsPlainBy asks (Some (answering_sensed o))
sensed_plain asks (Ok bytes) = tt
sensed_plain asks (Err sense) = tt

changing_plain : (asks : Result Request Sense) (settings : Settings) (o : Result Settings Sense) → IsPlainBy asks (Some (changing settings o))
changing_plain asks settings (Ok made) = either_plain asks _ (Ending good) Changing tt tt
changing_plain asks settings (Err sense) = tt

unless_empty_plain : (asks : Result Request Sense) (empty : Bool) (p : Plan) → IsPlainBy asks (Some p) → IsPlainBy asks (Some (unwrap_or (cond empty (Some (Ending good)) (Some p)) Over))
unless_empty_plain asks true p h = tt
unless_empty_plain asks false p h = h

asked_plain : (capacity : ℕ) (s : State) (i : ℕ) (sent : DataOut) (asks : Request) → IsPlainBy (Ok asks) (Some (plan_asked capacity s i sent asks))
asked_plain capacity s i sent request.TestUnitReady = tt
asked_plain capacity s i sent (request.RequestSense allocation) = tt
asked_plain capacity s i sent (request.ReassignBlocks blocks) = unless_empty_plain (Ok (request.ReassignBlocks blocks)) _ (Moving _) tt
asked_plain capacity s i sent (request.Inquiry evpd page allocation) = answering_plain (Ok (request.Inquiry evpd page allocation)) allocation _
asked_plain capacity s i sent (request.ModeSelect ten count) = changing_plain (Ok (request.ModeSelect ten count)) s.settings _
asked_plain capacity s i sent (request.ModeSense ten dbd control page subpage allocation) = sensed_plain (Ok (request.ModeSense ten dbd control page subpage allocation)) _
asked_plain capacity s i sent request.ReadCapacity10 = tt
asked_plain capacity s i sent (request.Read from count fua) = unless_empty_plain (Ok (request.Read from count fua)) _ (reading_from from (from + count) fua s.settings.per) (λ h. h)
asked_plain capacity s i sent (request.Write from count fua) = unless_empty_plain (Ok (request.Write from count fua)) _ (Writing _) tt
asked_plain capacity s i sent (request.WriteAndVerify from count) = unless_empty_plain (Ok (request.WriteAndVerify from count)) _ (Writing _) tt
asked_plain capacity s i sent (request.Verify from count) = unless_empty_plain (Ok (request.Verify from count)) _ (reading_from from (from + count) true s.settings.per) (λ h. absurd (cc))
asked_plain capacity s i sent (request.SynchronizeCache from count) = unless_empty_plain (Ok (request.SynchronizeCache from count)) _ (Syncing _) tt
asked_plain capacity s i sent (request.ReadDefectData primary grown format allocation) = tt
asked_plain capacity s i sent (request.LogSense page subpage pointer allocation) = answering_plain (Ok (request.LogSense page subpage pointer allocation)) allocation _
asked_plain capacity s i sent (request.ReadCapacity16 allocation) = tt
asked_plain capacity s i sent (request.ReportLuns select allocation) = answering_plain (Ok (request.ReportLuns select allocation)) allocation _

unless_refused_plain : (capacity : ℕ) (s : State) (i : ℕ) (sent : DataOut) (asks : Result Request Sense) → IsPlainBy asks (Some (plan_unless_refused capacity s i sent asks))
unless_refused_plain capacity s i sent (Ok asks) = either_plain (Ok asks) _ (refusing (sense_of 3 0x31 0x00)) (plan_asked capacity s i sent asks) tt (asked_plain capacity s i sent asks)
unless_refused_plain capacity s i sent (Err sense) = tt

first_plain : (capacity : ℕ) (s : State) (i : ℕ) (duty : Duty) → IsPlainBy duty.asks (Some (first_plan capacity s i duty))
first_plain capacity s i duty =
    at_start (λ (plan : Plan). IsPlainBy duty.asks (Some plan)) (λ sense fails. tt) capacity s i duty duty.asks refl (unless_refused_plain capacity s i duty.sent duty.asks)

-- a command came among entries, and asked for this
record CameFor (capacity c : ℕ) (asks : Request) (entries : List Entry) : Type 0 where
  command : Command
  numbered : command.number ≡ c
  before : List Entry
  behind : List Entry
  whole : entries ≡ before ++ arrival command ∷ behind
  for : asked capacity command ≡ Ok asks

abbrev Came : ℕ → ℕ → Result Request Sense → List Entry → Type 0
Came capacity c (Ok asks) entries = CameFor capacity c asks entries
Came capacity c (Err sense) entries = Unit {0}

still_came : (capacity c : ℕ) (asks : Result Request Sense) (entries : List Entry) (e : Entry) → Came capacity c asks entries → Came capacity c asks (entries ++ e ∷ [])
still_came capacity c (Ok asks) entries e i = record {
  command = i.command;
  numbered = i.numbered;
  before = i.before;
  behind = i.behind ++ e ∷ [];
  whole = ap (λ (es : List Entry). es ++ e ∷ []) i.whole ∙ append_assoc i.before (arrival i.command ∷ i.behind) (e ∷ []);
  for = i.for;
}
still_came capacity c (Err sense) entries e i = tt

came_now : (capacity : ℕ) (x : Command) (o : Result Request Sense) (entries : List Entry) → asked capacity x ≡ o → Came capacity x.number o (entries ++ arrival x ∷ [])
came_now capacity x (Ok asks) entries e = record { command = x; numbered = refl; before = entries; behind = []; whole = refl; for = e }
came_now capacity x (Err sense) entries e = tt

-- what is kept for a command along entries
record Kept (capacity c : ℕ) (duty : Duty) (entries : List Entry) : Type 0 where
  plan : IsPlainBy duty.asks duty.owes
  came : Came capacity c duty.asks entries

module _ (capacity c : ℕ) where
  still_kept : (duty : Duty) (entries : List Entry) (e : Entry) → Kept capacity c duty entries → Kept capacity c duty (entries ++ e ∷ [])
  still_kept duty entries e i = record { plan = i.plan; came = still_came capacity c duty.asks entries e i.came }

  either_kept : (t : Bool) (x y : Duty) (entries : List Entry) → (t ≡ true → Kept capacity c x entries) → Kept capacity c y entries → Kept capacity c (cond t x y) entries
  either_kept true x y entries h k = h refl
  either_kept false x y entries h k = k

  -- what some command owes now
  owing_kept : (s : State) (d : ℕ) (owes : Option Plan) (entries : List Entry) → (nat_eq c d ≡ true → IsPlainBy (s.duties d).asks owes) → Kept capacity c (s.duties c) entries
      → Kept capacity c (with_owed s.duties d owes c) entries
  owing_kept s d owes entries plain i =
      either_kept (nat_eq c d) (record (s.duties d) { owes = owes }) (s.duties c) entries
      (λ (is : nat_eq c d ≡ true). record { plan = plain is; came = subst (λ (n : ℕ). Came capacity c (s.duties n).asks entries) (eqb-true c d is) i.came }) i

  done_kept : (s : State) (o : Option Done) (entries : List Entry) → Kept capacity c (s.duties c) entries → Kept capacity c (duties_done s o c) entries
  done_kept s None entries i = i
  done_kept s (Some d) entries i =
      owing_kept s d.c (owed_after s d) entries
      (λ (is : nat_eq c d.c ≡ true). after_plain (member_of s.set d.c) (s.duties d.c).owes (s.duties d.c).asks d.what
      (subst (λ (n : ℕ). IsPlainBy (s.duties n).asks (s.duties n).owes) (eqb-true c d.c is) i.plan)) i

  entry_kept : (label : Label) (s : State) (e : Entry) (entries : List Entry) → Kept capacity c (s.duties c) entries
      → Kept capacity c ((entry_after capacity label s e).duties c) (entries ++ e ∷ [])
  entry_kept label s (Arrived d j t a cdb sent) entries i =
      let x : Command = record { number = d; initiator = j; tag = t; attribute = a; cdb = cdb; sent = sent } in
      either_kept (nat_eq c d) _ (s.duties c) (entries ++ arrival x ∷ [])
      (λ (is : nat_eq c d ≡ true). record {
        plan = tt;
        came = subst (λ (n : ℕ). Came capacity n (read_of cdb sent capacity) (entries ++ arrival x ∷ [])) (sym (eqb-true c d is)) (came_now capacity x (read_of cdb sent capacity) entries refl);
      })
      (still_kept (s.duties c) entries (arrival x) i)
  entry_kept label s (Started d) entries i =
      owing_kept s d (Some (first_plan capacity s (initiator_of s d) (s.duties d))) (entries ++ Started d ∷ [])
      (λ is. first_plain capacity s (initiator_of s d) (s.duties d)) (still_kept (s.duties c) entries (Started d) i)
  entry_kept label s e entries i = done_kept s (done_by label s e) (entries ++ e ∷ []) (still_kept (s.duties c) entries e i)

  entries_kept : (label : Label) (s : State) (more entries : List Entry) → Kept capacity c (s.duties c) entries → Kept capacity c ((entries_after capacity label s more).duties c) (entries ++ more)
  entries_kept label s [] entries i = subst (λ (es : List Entry). Kept capacity c (s.duties c) es) (sym (append-nil entries)) i
  entries_kept label s (e ∷ more) entries i =
      subst (λ (es : List Entry). Kept capacity c ((entries_after capacity label (entry_after capacity label s e) more).duties c) es) (append_assoc entries (e ∷ []) more)
      (entries_kept label (entry_after capacity label s e) more (entries ++ e ∷ []) (entry_kept label s e entries i))

  -- a turn that begins notes which blocks are dirty, and no more
  begun_kept : (s : State) (label : Label) (entries : List Entry) → Kept capacity c (s.duties c) entries → Kept capacity c ((begun s label).duties c) entries
  begun_kept s (Work d) entries i =
      either_kept (nat_eq c d) _ (s.duties c) entries
      (λ (is : nat_eq c d ≡ true). let same : c ≡ d = eqb-true c d is in record {
        plan = subst (λ (n : ℕ). IsPlainBy (s.duties n).asks (s.duties n).owes) same i.plan;
        came = subst (λ (n : ℕ). Came capacity c (s.duties n).asks entries) same i.came;
      }) i
  begun_kept s (Arrive j) entries i = i
  begun_kept s (Job j) entries i = i
  begun_kept s Scan entries i = i
  begun_kept s Destage entries i = i
  begun_kept s (World w) entries i = i

  turns_kept : (s : Scene) (turns : List Beat) (entries : List Entry) → capacity_of s.size ≡ capacity → Kept capacity c (s.hist.duties c) entries
      → Kept capacity c ((fold scene_after s turns).hist.duties c) (entries ++ flat_map (λ t. t.entries) turns)
  turns_kept s [] entries is i = subst (λ (es : List Entry). Kept capacity c (s.hist.duties c) es) (sym (append-nil entries)) i
  turns_kept s (t ∷ turns) entries is i =
      let later : List Entry = flat_map (λ t. t.entries) turns in
      let now = entries_kept t.label (begun s.hist t.label) t.entries entries (begun_kept s.hist t.label entries i) in
      subst (λ (es : List Entry). Kept capacity c ((fold scene_after (scene_after s t) turns).hist.duties c) es) (append_assoc entries t.entries later)
      (turns_kept (scene_after s t) turns (entries ++ t.entries) is
      (subst (λ (n : ℕ). Kept capacity c ((entries_after n t.label (begun s.hist t.label) t.entries).duties c) (entries ++ t.entries)) (sym is) now))

-- the state before an entry of a run
abbrev pub state_before : {run : Run} {e : Entry} → EntryIn run e → State
state_before place = let s = scene_before place in entries_after (capacity s) place.turn.label (begun s.hist place.turn.label) place.earlier

-- turns leave the size
same_size : (s : Scene) (turns : List Beat) → (fold scene_after s turns).size ≡ s.size
same_size s [] = refl
same_size s (t ∷ turns) = same_size (scene_after s t) turns

-- so it is before an entry of a run
kept_before : {run : Run} {e : Entry} (place : EntryIn run e) (c : ℕ) → Kept (capacity_of run.made.size) c ((state_before place).duties c) (entries_before place)
kept_before {run} place c =
    let n : ℕ = capacity_of run.made.size in
    let s = scene_before place in
    let turns = turns_kept n c (scene_at_start run.made) place.before [] refl (record { plan = tt; came = tt }) in
    subst (λ z. Kept n c ((entries_after (capacity_of z) place.turn.label (begun s.hist place.turn.label) place.earlier).duties c) (entries_before place))
    (sym (same_size (scene_at_start run.made) place.before))
    (entries_kept n c place.turn.label (begun s.hist place.turn.label) place.earlier (flat_map (λ t. t.entries) place.before)
    (begun_kept n c s.hist place.turn.label (flat_map (λ t. t.entries) place.before) turns))

plain_came : (capacity c : ℕ) (asks : Result Request Sense) (entries : List Entry) → IsPlainRead asks → Came capacity c asks entries → CameAsReadWithoutFua capacity c entries
plain_came capacity c (Ok (request.Read from count fua)) entries plain came = record {
  command = came.command;
  numbered = came.numbered;
  before = came.before;
  behind = came.behind;
  whole = came.whole;
  from = from;
  count = count;
  asks = came.for ∙ ap (λ (t : Bool). Ok (request.Read from count t)) plain;
}
plain_came capacity c asks entries plain came = absurd plain

plan_came : (capacity c : ℕ) (asks : Result Request Sense) (o : Option Plan) (settings : Settings) (entries : List Entry) → IsPlainBy asks o → Came capacity c asks entries
    → may_use_cache settings o ≡ true → (settings.rcd ≡ false) × CameAsReadWithoutFua capacity c entries
plan_came capacity c asks (Some (Reading r)) settings entries plan came may =
    let now = both (not r.through) (not settings.rcd) may in
    (not-true settings.rcd now.1, plain_came capacity c asks entries (plan (not-true r.through now.0)) came)
plan_came capacity c asks o settings entries plan came may = absurd (cc)

owed_came : (m : Option Member) (capacity c : ℕ) (duty : Duty) (settings : Settings) (entries : List Entry) → Kept capacity c duty entries
    → may_use_cache settings (option_and_then (λ m. duty.owes) m) ≡ true → (settings.rcd ≡ false) × CameAsReadWithoutFua capacity c entries
owed_came None capacity c duty settings entries i may = absurd (cc)
owed_came (Some m) capacity c duty settings entries i may = plan_came capacity c duty.asks duty.owes settings entries i.plan i.came may

pub plain_reads_came : {run : Run} {e : Entry} (place : EntryIn run e) (c : ℕ) (settings : Settings) → may_use_cache settings (owed_by (state_before place) c) ≡ true
    → (settings.rcd ≡ false) × CameAsReadWithoutFua (capacity_of run.made.size) c (entries_before place)
plain_reads_came {run} place c settings may =
    let h : State = state_before place in
    owed_came (member_of h.set c) (capacity_of run.made.size) c (h.duties c) settings (entries_before place) (kept_before place c) may
