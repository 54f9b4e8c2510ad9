-- What one command's entries change of the commands: that command alone.
use Rattle.std.proofs.Common.{◌≡◌, ◌∙◌, ap, sym, refl, subst, ℕ, ◌+◌, ◌<◌, ◌≤◌, ◌⊎◌, inl, inr, Bool, true, false, not, List, [], ◌∷◌, arith, Some, None, Option, Result, Ok, Err, length, cond, if◌then◌else◌, take, eqb-true, eq-eqb}
use Rattle.std.specs.Prelude.{◌==◌, ◌&&◌, is_none}
use Rattle.std.specs.List.{list_all}
use Rattle.std.specs.Option.{option_map_or, option_and_then, is_some}
use Rattle.std.proofs.lemmas.Bool.{ne_eqb}
use Rattle.disk_base.specs.Along.{all_along}
use Rattle.sense_data.specs.declared.sense.Sense.{Sense}
use Rattle.task_set.specs.declared.member.Member.{Member}
use Rattle.task_set.specs.Members.{member_of, with_started, without, first_forbidding}
use Rattle.cdb_reader.specs.declared.plan.Plan.{Plan}
use Rattle.cdb_reader.specs.declared.plan.Deed.{Deed}
use Rattle.cdb_reader.specs.declared.plan.Deed.TheVariants as deed
use Rattle.cdb_reader.specs.Plan.{next}
use Rattle.cdb_reader.specs.Request.{Request, ReadDefectData}
use Rattle.block_machine.specs.declared.entry.Entry.{Entry}
use Rattle.block_machine.specs.declared.entry.Entry.TheVariants.{Started, Get, Put, Harden, Passed, Page, Ended, Mode}
use Rattle.block_machine.specs.declared.entry.Who.TheVariants.{Command}
use Rattle.block_machine.specs.declared.turn.Label.TheVariants.{Work}
use Rattle.block_machine.specs.State.{State, Duty, owed_by, initiator_of}
use Rattle.block_machine.specs.Deeds.{Done, done, done_by, owed_after, page_done, names_dirty}
use Rattle.block_machine.specs.DriveOnly.{has_defect_length}
use Rattle.block_machine.specs.Blocks.{is_dirty}
use Rattle.block_machine.specs.Entries.{entry_lawful, is_owed, may_start, works_on, ends_as_told}
use Rattle.block_machine.specs.Plans.{first_plan}
use Rattle.block_machine.specs.Steps.{entry_after, entries_after, duties_done}
use Rattle.block_machine.proofs.Booleans.{both, not_is}
use Rattle.drive_scene.specs.GoodTurn.{is_entry_of}
use Rattle.script_runner.specs.Measure.{steps_of, steps_asked, steps_of_member}
use Rattle.script_runner.proofs.Places.{put_same, put_other}
use Rattle.script_runner.proofs.Steps.{next_lowers, first_few}

module _ (c j : ℕ) (ne : j ≡ c → ⊥) where
  missed : (m : Member) → (m.task.c == c) ≡ true → (m.task.c == j) ≡ false
  missed m e = ne_eqb m.task.c j (λ h. ne (sym h ∙ eqb-true m.task.c c e))

  -- another command of a set
  pub other_started : (set : List Member) → member_of (with_started set c) j ≡ member_of set j
  other_started [] = refl
  other_started (m ∷ ms) = go (other_started ms) (m.task.c == c) refl
    where
      go : member_of (with_started ms c) j ≡ member_of ms j → (b : Bool) → (m.task.c == c) ≡ b
          → (let n : Member = cond b (record m { started = true }) m in cond (n.task.c == j) (Some n) (member_of (with_started ms c) j)) ≡ cond (m.task.c == j) (Some m) (member_of ms j)
      go ih true e = rw (missed m e) ih
      go ih false e = ap (λ (o : Option Member). cond (m.task.c == j) (Some m) o) ih

  pub other_left : (set : List Member) → member_of (without set c) j ≡ member_of set j
  other_left [] = refl
  other_left (m ∷ ms) = go (other_left ms) (m.task.c == c) refl
    where
      go : member_of (without ms c) j ≡ member_of ms j → (b : Bool) → (m.task.c == c) ≡ b
          → member_of (cond (not b) (m ∷ without ms c) (without ms c)) j ≡ cond (m.task.c == j) (Some m) (member_of ms j)
      go ih true e = rw (missed m e) ih
      go ih false e = ap (λ (o : Option Member). cond (m.task.c == j) (Some m) o) ih

-- the command itself
pub own_started : (c : ℕ) (set : List Member) (m : Member) → member_of set c ≡ Some m → member_of (with_started set c) c ≡ Some (record m { started = true })
own_started c [] m is = absurd (cc)
own_started c (n ∷ ns) m is = go (own_started c ns m) (n.task.c == c) refl is
  where
    go : (member_of ns c ≡ Some m → member_of (with_started ns c) c ≡ Some (record m { started = true })) → (b : Bool) → (n.task.c == c) ≡ b → cond b (Some n) (member_of ns c) ≡ Some m
        → (let k : Member = cond b (record n { started = true }) n in cond (k.task.c == c) (Some k) (member_of (with_started ns c) c)) ≡ Some (record m { started = true })
    go ih true e found = let same : n ≡ m = cc in rw e (ap (λ (x : Member). Some (record x { started = true })) same)
    go ih false e found = rw e (ih found)

pub own_left : (c : ℕ) (set : List Member) → member_of (without set c) c ≡ None
own_left c [] = refl
own_left c (m ∷ ms) = go (own_left c ms) (m.task.c == c) refl
  where
    go : member_of (without ms c) c ≡ None → (b : Bool) → (m.task.c == c) ≡ b → member_of (cond (not b) (m ∷ without ms c) (without ms c)) c ≡ None
    go ih true e = ih
    go ih false e = rw e ih

pub number_of : (c : ℕ) (set : List Member) (m : Member) → member_of set c ≡ Some m → m.task.c ≡ c
number_of c [] m is = absurd (cc)
number_of c (n ∷ ns) m is = go (number_of c ns m) (n.task.c == c) refl is
  where
    go : (member_of ns c ≡ Some m → m.task.c ≡ c) → (b : Bool) → (n.task.c == c) ≡ b → cond b (Some n) (member_of ns c) ≡ Some m → m.task.c ≡ c
    go ih true e found = let same : n ≡ m = cc in subst (λ (x : Member). x.task.c ≡ c) same (eqb-true n.task.c c e)
    go ih false e found = ih found

-- the entries of a command that are still to come
abbrev pub steps_left : State → ℕ → ℕ
steps_left h c = option_map_or (steps_of_member h) (member_of h.set c) 0

-- what an entry of another command leaves as it is
pub record IsUntouched (h k : State) (j : ℕ) : Type 0 where
  pub member : member_of k.set j ≡ member_of h.set j
  pub duty : k.duties j ≡ h.duties j

-- a deed that is owed: the plan before it and after
pub record IsOwed (h : State) (d : Done) : Type 0 where
  pub member : Member
  pub is_in : member_of h.set d.c ≡ Some member
  pub plan : Plan
  pub owes : (h.duties d.c).owes ≡ Some plan
  pub after : Plan
  pub owed : owed_after h d ≡ Some after
  pub lower : steps_of after < steps_of plan

owed_is : (h : State) (d : Done) → is_some (owed_after h d) ≡ true → IsOwed h d
owed_is h d some = go (member_of h.set d.c) (h.duties d.c).owes refl refl (owed_after h d) refl some
  where
    go : (m : Option Member) (p : Option Plan) → member_of h.set d.c ≡ m → (h.duties d.c).owes ≡ p → (q : Option Plan) → owed_after h d ≡ q → is_some q ≡ true → IsOwed h d
    go m p is_m is_p None is_q e = absurd (cc)
    go None p is_m is_p (Some q) is_q e = absurd (let h1 : owed_after h d ≡ None = rw is_m refl in cc)
    go (Some m) None is_m is_p (Some q) is_q e = absurd (let h1 : owed_after h d ≡ None = rw (is_m, is_p) refl in cc)
    go (Some m) (Some p) is_m is_p (Some q) is_q e =
        let follows : next p d.what ≡ Some q = (let h1 : owed_after h d ≡ next p d.what = rw (is_m, is_p) refl in sym h1 ∙ is_q) in
        record { member = m; is_in = is_m; plan = p; owes = is_p; after = q; owed = is_q; lower = next_lowers p q d.what follows }

-- what an entry of a command is for it
pub record IsDeed (c : ℕ) (h : State) (e : Entry) : Type 0 where
  pub deed : Done
  pub done : done_by (Work c) h e ≡ Some deed
  pub number : deed.c ≡ c
  pub owed : IsOwed h deed

deed_from : (c : ℕ) (h : State) (e : Entry) (o : Option Done) → done_by (Work c) h e ≡ o → is_some (option_and_then (owed_after h) o) ≡ true
    → ((d : Done) → done_by (Work c) h e ≡ Some d → d.c ≡ c) → IsDeed c h e
deed_from c h e None is some number = absurd (cc)
deed_from c h e (Some d) is some number = record { deed = d; done = is; number = number d is; owed = owed_is h d some }

by_entry : (c : ℕ) (h : State) (e : Entry) → is_owed (Work c) h e ≡ true → ((d : Done) → done_by (Work c) h e ≡ Some d → d.c ≡ c) → IsDeed c h e
by_entry c h e owed number = deed_from c h e (done_by (Work c) h e) refl owed number

number_is : (n : ℕ) (c : ℕ) (what : Deed) (d : Done) → (n == c) ≡ true → done n what ≡ Some d → d.c ≡ c
number_is n c what d own is = let same : record { c = n; what = what } ≡ d = cc in subst (λ (x : Done). x.c ≡ c) same (eqb-true n c own)

page_number : (asks : Result Request Sense) (n c : ℕ) (bytes : List ℕ) (d : Done) → (n == c) ≡ true → page_done asks n bytes ≡ Some d → d.c ≡ c
page_number (Ok (ReadDefectData primary grown format allocation)) n c bytes d own is = go (has_defect_length allocation bytes) is
  where
    go : (b : Bool) → cond b (done n (deed.Page (take 2 bytes))) None ≡ Some d → d.c ≡ c
    go true is = number_is n c (deed.Page (take 2 bytes)) d own is
    go false is = absurd (cc)
page_number (Ok other) n c bytes d own is = number_is n c (deed.Page bytes) d own is
page_number (Err sense) n c bytes d own is = number_is n c (deed.Page bytes) d own is

-- an entry with a deed, and what it does to the commands
abbrev pub IsNoStart : Entry → Type 0
IsNoStart (Started c) = ⊥
IsNoStart other = Unit {0}

deed_of : (capacity c : ℕ) (h : State) (e : Entry) → IsNoStart e → is_entry_of c e ≡ true → entry_lawful capacity (Work c) h e ≡ true → IsDeed c h e
deed_of capacity c h (Get n b v) start own ok = by_entry c h (Get n b v) (both (works_on (Work c) n) _ ok).1 (λ d is. number_is n c _ d own is)
deed_of capacity c h (Put n b v) start own ok = by_entry c h (Put n b v) (both (works_on (Work c) n) _ ok).1 (λ d is. number_is n c _ d own is)
deed_of capacity c h (Harden (Command n) b) start own ok =
    by_entry c h (Harden (Command n) b) (both (works_on (Work c) n) _ (both _ (is_dirty (h.blocks b.0)) ok).0).1 (λ d is. number_is n c _ d own is)
deed_of capacity c h (Passed n from to) start own ok = by_entry c h (Passed n from to) (both (works_on (Work c) n) _ ok).1 (λ d is. number_is n c _ d own is)
deed_of capacity c h (Page n bytes) start own ok = by_entry c h (Page n bytes) (both (works_on (Work c) n) _ ok).1 (λ d is. page_number (h.duties n).asks n c bytes d own is)
deed_of capacity c h (Ended n reply) start own ok =
    by_entry c h (Ended n reply) (both (works_on (Work c) n) _ (both _ (ends_as_told (owed_by h n) (h.duties n) reply) ok).0).1 (λ d is. number_is n c _ d own is)
deed_of capacity c h (Mode settings) start own ok = by_entry c h (Mode settings) (both (is_owed (Work c) h (Mode settings)) _ ok).0 (λ d is. number_is c c _ d (eq-eqb c c refl) is)
deed_of capacity c h (Started n) start own ok = absurd start
deed_of capacity c h e start own ok = absurd (cc)

-- one entry of a command: it has fewer to come, and other commands are as they were
pub record IsStep (h k : State) (c : ℕ) : Type 0 where
  pub lower : steps_left k c < steps_left h c
  pub others : (j : ℕ) → (j ≡ c → ⊥) → IsUntouched h k j

-- what is to come by a member and a duty
abbrev pub by_duty : Member → Duty → ℕ
by_duty m duty = (if m.started then 0 else steps_asked duty.asks + 1) + option_map_or steps_of duty.owes 0

pub by_member : (h : State) (c : ℕ) (m : Member) → member_of h.set c ≡ Some m → steps_left h c ≡ by_duty m (h.duties c)
by_member h c m is = rw (is, number_of c h.set m is) refl

-- a command starts
start_step : (capacity c : ℕ) (h : State) → may_start h c ≡ true → IsStep h (entry_after capacity (Work c) h (Started c)) c
start_step capacity c h ok = go (member_of h.set c) refl ok
  where
    go : (o : Option Member) → member_of h.set c ≡ o → option_map_or (λ m. not m.started && is_none (first_forbidding h.set m.task)) o false ≡ true
        → IsStep h (entry_after capacity (Work c) h (Started c)) c
    go None is e = absurd (cc)
    go (Some m) is e =
        let k = entry_after capacity (Work c) h (Started c) in
        let fresh : m.started ≡ false = not_is m.started (both (not m.started) (is_none (first_forbidding h.set m.task)) e).0 in
        let now : k.duties c ≡ record (h.duties c) { owes = Some (first_plan capacity h (initiator_of h c) (h.duties c)) } =
        put_same c c (record (h.duties c) { owes = Some (first_plan capacity h (initiator_of h c) (h.duties c)) }) h.duties refl in
        let after : steps_left k c ≡ 0 + steps_of (first_plan capacity h (initiator_of h c) (h.duties c)) =
        by_member k c (record m { started = true }) (own_started c h.set m is) ∙ ap (by_duty (record m { started = true })) now in
        let before : steps_left h c ≡ (steps_asked (h.duties c).asks + 1) + option_map_or steps_of (h.duties c).owes 0 =
        by_member h c m is ∙ (rw fresh refl) in
        let few = first_few capacity h (initiator_of h c) (h.duties c) in
        record {
          lower = omega arith;
          others = λ j ne. record { member = other_started c j ne h.set; duty = put_other c j (record (h.duties c) { owes = Some (first_plan capacity h (initiator_of h c) (h.duties c)) }) h.duties ne };
        }

-- a command does what it owes
deed_step : (h k : State) (d : Done) → IsOwed h d → k.duties ≡ duties_done h (Some d) → (k.set ≡ h.set) ⊎ (k.set ≡ without h.set d.c) → IsStep h k d.c
deed_step h k d owed duties set =
    let own : k.duties d.c ≡ record (h.duties d.c) { owes = Some owed.after } =
    ap (λ (f : ℕ → Duty). f d.c) duties ∙ put_same d.c d.c (record (h.duties d.c) { owes = owed_after h d }) h.duties refl ∙ ap (λ (o : Option Plan). record (h.duties d.c) { owes = o }) owed.owed in
    let before : steps_left h d.c ≡ (if owed.member.started then 0 else steps_asked (h.duties d.c).asks + 1) + steps_of owed.plan =
    by_member h d.c owed.member owed.is_in ∙ (rw owed.owes refl) in
    record {
      lower = go set own before;
      others = λ j ne. record {
        member = others set j ne;
        duty = ap (λ (f : ℕ → Duty). f j) duties ∙ put_other d.c j (record (h.duties d.c) { owes = owed_after h d }) h.duties ne;
      };
    }
  where
    go : (k.set ≡ h.set) ⊎ (k.set ≡ without h.set d.c) → k.duties d.c ≡ record (h.duties d.c) { owes = Some owed.after }
        → steps_left h d.c ≡ (if owed.member.started then 0 else steps_asked (h.duties d.c).asks + 1) + steps_of owed.plan → steps_left k d.c < steps_left h d.c
    go (inl same) own before =
        let after : steps_left k d.c ≡ (if owed.member.started then 0 else steps_asked (h.duties d.c).asks + 1) + steps_of owed.after =
        by_member k d.c owed.member (ap (λ (ms : List Member). member_of ms d.c) same ∙ owed.is_in) ∙ ap (by_duty owed.member) own in
        let lower = owed.lower in
        omega arith
    go (inr left) own before =
        let after : steps_left k d.c ≡ 0 = rw (left, own_left d.c h.set) refl in
        let lower = owed.lower in
        omega arith

    others : (k.set ≡ h.set) ⊎ (k.set ≡ without h.set d.c) → (j : ℕ) → (j ≡ d.c → ⊥) → member_of k.set j ≡ member_of h.set j
    others (inl same) j ne = ap (λ (ms : List Member). member_of ms j) same
    others (inr left) j ne = ap (λ (ms : List Member). member_of ms j) left ∙ other_left d.c j ne h.set

-- of the entries of commands all but starts do what their deed says
deed_after : (capacity c : ℕ) (h : State) (e : Entry) → IsNoStart e → is_entry_of c e ≡ true → (d : Done) → done_by (Work c) h e ≡ Some d
    → ((entry_after capacity (Work c) h e).duties ≡ duties_done h (Some d)) × (((entry_after capacity (Work c) h e).set ≡ h.set) ⊎ ((entry_after capacity (Work c) h e).set ≡ without h.set d.c))
deed_after capacity c h (Started n) start own d is = absurd start
deed_after capacity c h (Ended n reply) start own d is =
    let number : n ≡ d.c = (let same : record { c = n; what = deed.Ended reply (names_dirty h reply) } ≡ d = cc in ap (λ (x : Done). x.c) same) in
    (ap (duties_done h) is, inr (ap (without h.set) number))
deed_after capacity c h (Get n b v) start own d is = (ap (duties_done h) is, inl refl)
deed_after capacity c h (Put n b v) start own d is = (ap (duties_done h) is, inl refl)
deed_after capacity c h (Harden (Command n) b) start own d is = (ap (duties_done h) is, inl refl)
deed_after capacity c h (Passed n from to) start own d is = (ap (duties_done h) is, inl refl)
deed_after capacity c h (Page n bytes) start own d is = (ap (duties_done h) is, inl refl)
deed_after capacity c h (Mode settings) start own d is = (ap (duties_done h) is, inl refl)
deed_after capacity c h e start own d is = absurd (cc)

by_deed : (capacity c : ℕ) (h : State) (e : Entry) → IsNoStart e → is_entry_of c e ≡ true → entry_lawful capacity (Work c) h e ≡ true → IsStep h (entry_after capacity (Work c) h e) c
by_deed capacity c h e start own ok =
    let d = deed_of capacity c h e start own ok in
    let what = deed_after capacity c h e start own d.deed d.done in
    subst (λ (x : ℕ). IsStep h (entry_after capacity (Work c) h e) x) d.number (deed_step h (entry_after capacity (Work c) h e) d.deed d.owed what.0 what.1)

-- each entry of a command that may come
pub entry_step : (capacity c : ℕ) (h : State) (e : Entry) → is_entry_of c e ≡ true → entry_lawful capacity (Work c) h e ≡ true → IsStep h (entry_after capacity (Work c) h e) c
entry_step capacity c h (Started n) own ok =
    let same = eqb-true n c own in
    subst (λ (x : ℕ). IsStep h (entry_after capacity (Work c) h (Started x)) c) (sym same)
    (start_step capacity c h (subst (λ (x : ℕ). may_start h x ≡ true) same (both (works_on (Work c) n) (may_start h n) ok).1))
entry_step capacity c h e own ok = by_deed capacity c h e tt own ok

-- all entries of a turn
pub record AreSteps (h k : State) (c n : ℕ) : Type 0 where
  pub lower : steps_left k c + n ≤ steps_left h c
  pub others : (j : ℕ) → (j ≡ c → ⊥) → IsUntouched h k j

pub entries_steps : (capacity c : ℕ) (h : State) (entries : List Entry) → list_all (is_entry_of c) entries ≡ true
    → all_along (entry_after capacity (Work c)) (entry_lawful capacity (Work c)) h entries ≡ true → AreSteps h (entries_after capacity (Work c) h entries) c (length entries)
entries_steps capacity c h [] own ok = record { lower = omega arith; others = λ j ne. record { member = refl; duty = refl } }
entries_steps capacity c h (e ∷ entries) own ok =
    let mine = both (is_entry_of c e) (list_all (is_entry_of c) entries) own in
    let lawful = both (entry_lawful capacity (Work c) h e) _ ok in
    let first = entry_step capacity c h e mine.0 lawful.0 in
    let rest = entries_steps capacity c (entry_after capacity (Work c) h e) entries mine.1 lawful.1 in
    let a = first.lower in
    let b = rest.lower in
    record {
      lower = omega arith;
      others = λ j ne. let one = first.others j ne in let more = rest.others j ne in
          record { member = more.member ∙ one.member; duty = more.duty ∙ one.duty };
    }
