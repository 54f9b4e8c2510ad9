-- Each entry of a command fits the stage of its life.
use Rattle.std.proofs.Common.{◌≡◌, ◌≢◌, ◌∙◌, ap, sym, subst, refl, ℕ, ◌+◌, ◌≤◌, Bool, true, false, not, cond, nat_eq, List, [], ◌∷◌, ◌++◌, arith}
use Rattle.std.specs.Prelude.{◌&&◌, ◌||◌, ◌==◌, fold, filter, take, Option, Some, None, Result, Ok}
use Rattle.std.specs.Option.{option_and_then, option_map_or, is_some, is_none}
use Rattle.std.proofs.lemmas.Bool.{eqb-true, eqb-false, ne_eqb}
use Rattle.disk_base.specs.Along.{all_along}
use Rattle.disk_base.specs.declared.address.Tag.{Tag}
use Rattle.disk_base.specs.declared.command.Attribute.{Attribute}
use Rattle.disk_base.specs.declared.command.DataOut.{DataOut}
use Rattle.sense_data.specs.declared.sense.Sense.{Sense}
use Rattle.sense_data.specs.declared.reply.Reply.{Reply}
use Rattle.cdb_reader.specs.declared.plan.Plan.{Plan}
use Rattle.cdb_reader.specs.declared.plan.Deed.{Deed}
use Rattle.cdb_reader.specs.declared.plan.Deed.TheVariants as deed
use Rattle.cdb_reader.specs.Plan.{next}
use Rattle.cdb_reader.specs.Replies.{same_reply}
use Rattle.cdb_reader.specs.Request.{Request, ReadDefectData}
use Rattle.task_set.specs.declared.member.Member.{Member}
use Rattle.task_set.specs.Members.{member_of, without, numbers, is_named, first_forbidding}
use Rattle.block_machine.specs.declared.entry.Who.TheVariants.{Command, Drive}
use Rattle.block_machine.specs.declared.entry.Entry.{Entry}
use Rattle.block_machine.specs.declared.entry.Entry.TheVariants.{Arrived, Started, Get, Put, Harden, Passed, GiveUp, Page, Ended, Aborted, Asked, Mode, Scanned, Logged, Cut, PoweredOn, Tick, Blank, Fresh}
use Rattle.block_machine.specs.declared.turn.Label.{Label}
use Rattle.block_machine.specs.declared.turn.Label.TheVariants.{Arrive, Work, Job, Scan, Destage, World}
use Rattle.block_machine.specs.declared.turn.Turn.{Turn}
use Rattle.block_machine.specs.DriveOnly.{has_defect_length}
use Rattle.block_machine.specs.State.{State, Duty, is_full, state_at_start}
use Rattle.block_machine.specs.Steps.{entry_after, entries_after, begun, task_arrived}
use Rattle.block_machine.specs.Deeds.{done, page_done, owed_after, names_dirty}
use Rattle.block_machine.specs.Entries.{entry_lawful, is_owed, may_start, works_on, may_write_for}
use Rattle.block_machine.specs.Turns.{task_set_full, named_by, are_aborted, is_answered, arrival_lawful, work_lawful, starts_alone, entries_lawful, tasks_lawful, turn_after}
use Rattle.block_machine.specs.History.{task_legal_from, entries_of}
use Rattle.block_machine.specs.Laws.{OfTaskLegalHistories, Tally, left_out, tally_at_start, tally_after}
use Rattle.block_machine.specs.Stages.{Stage, Coming, Queued, AtWork, Gone, is_coming, is_queued, is_at_work, is_in, cut_off, stage_after, may_end_at, fits_stage, EntriesFitTheirStage}
use Rattle.block_machine.proofs.Alongs.{along_both}
use Rattle.block_machine.proofs.OneCommand.{all_started, start_started, found_started, no_restart, filter_started, map_started, arrived_started, owed, put_here}
use Rattle.block_machine.proofs.Starts.{starts, quiet, begun_quiet}
use Rattle.block_machine.proofs.Counting.{has, distinct, below, has_less, has_more, left_absent, numbers_without, numbers_started, numbers_append, member_has, some_has, some_distinct, owes_in, first_has, later_has, has_left, Good, label_good, begun_good}
use Rattle.block_machine.proofs.Booleans.{and_both, both, not_is, true_not_false}

-- what is known of a command that is still to come, that waits, that is at work, and that is gone
record StillToCome (c : ℕ) (s : State) : Type 0 where
  early : c ≤ s.arrived → c ≡ 0
  out : has c (numbers s.set) ≡ false

record Waits (c : ℕ) (s : State) : Type 0 where
  came : c ≤ s.arrived
  owes : (s.duties c).owes ≡ None

record Works (c : ℕ) (s : State) : Type 0 where
  came : c ≤ s.arrived
  started : all_started c s.set ≡ true

record IsOut (c : ℕ) (s : State) : Type 0 where
  came : c ≤ s.arrived
  out : has c (numbers s.set) ≡ false

At : ℕ → State → Stage → Type 0
At c s Coming = StillToCome c s
At c s Queued = Waits c s
At c s AtWork = Works c s
At c s Gone = IsOut c s

-- a state that is like another for a command
record Alike (c : ℕ) (s u : State) : Type 0 where
  early : c ≤ u.arrived → c ≤ s.arrived
  later : s.arrived ≤ u.arrived
  out : has c (numbers s.set) ≡ false → has c (numbers u.set) ≡ false
  started : all_started c s.set ≡ true → all_started c u.set ≡ true
  owes : (s.duties c).owes ≡ None → (u.duties c).owes ≡ None

alike : (c : ℕ) (s u : State) (stage : Stage) → Alike c s u → At c s stage → At c u stage
unfolding At
alike c s u Coming a i = record { early = λ h. i.early (a.early h); out = a.out i.out }
alike c s u Queued a i = record { came = let one : c ≤ s.arrived = i.came in let more : s.arrived ≤ u.arrived = a.later in omega arith; owes = a.owes i.owes }
alike c s u AtWork a i = record { came = let one : c ≤ s.arrived = i.came in let more : s.arrived ≤ u.arrived = a.later in omega arith; started = a.started i.started }
alike c s u Gone a i = record { came = let one : c ≤ s.arrived = i.came in let more : s.arrived ≤ u.arrived = a.later in omega arith; out = a.out i.out }

-- a command that is in, and owes something, is at work
acts_at : (c : ℕ) (s : State) (stage : Stage) (plan : Plan) → has c (numbers s.set) ≡ true → (s.duties c).owes ≡ Some plan → At c s stage → is_at_work stage ≡ true
unfolding At
acts_at c s Coming plan h e i = absurd (true_not_false h i.out)
acts_at c s Queued plan h e i = let no : None ≡ Some plan = sym i.owes ∙ e in absurd (cc)
acts_at c s AtWork plan h e i = refl
acts_at c s Gone plan h e i = absurd (true_not_false h i.out)

acts : (c : ℕ) (s : State) (stage : Stage) (what : Deed) → is_some (owed_after s (record { c = c; what = what })) ≡ true → At c s stage → is_at_work stage ≡ true
acts c s stage what h i =
    let o = owed s c what h in
    acts_at c s stage o.before (owes_in (member_of s.set c) s c (λ plan. next plan what) refl h) o.owes i

-- an entry of the command, or of another
own_or_other : (t x : Bool) → (t ≡ true → x ≡ true) → (not t || x) ≡ true
own_or_other true x f = f refl
own_or_other false x f = refl

acts_if : (c d : ℕ) (s : State) (stage : Stage) (what : Deed) → is_some (owed_after s (record { c = d; what = what })) ≡ true → At c s stage
    → (not (c == d) || is_at_work stage) ≡ true
acts_if c d s stage what h i =
    own_or_other (nat_eq c d) (is_at_work stage)
    (λ e. acts c s stage what (ap (λ (n : ℕ). is_some (owed_after s (record { c = n; what = what }))) (eqb-true c d e) ∙ h) i)

page_one : (may : Bool) (c d : ℕ) (bytes : List ℕ) (s : State) (stage : Stage)
    → is_some (option_and_then (owed_after s) (cond may (done d (deed.Page bytes)) None)) ≡ true → At c s stage → (not (c == d) || is_at_work stage) ≡ true
page_one true c d bytes s stage h i = acts_if c d s stage (deed.Page bytes) h i
page_one false c d bytes s stage h i = absurd (cc)

page_acts : (asks : Result Request Sense) (c d : ℕ) (bytes : List ℕ) (s : State) (stage : Stage)
    → is_some (option_and_then (owed_after s) (page_done asks d bytes)) ≡ true → At c s stage → (not (c == d) || is_at_work stage) ≡ true
page_acts (Ok (ReadDefectData primary grown format allocation)) c d bytes s stage h i = page_one (has_defect_length allocation bytes) c d (take 2 bytes) s stage h i
page_acts other c d bytes s stage h i = page_one true c d bytes s stage h i

-- an entry fits, and what is known of the command is so after it
record Fitting (c : ℕ) (stage : Stage) (u : State) (e : Entry) : Type 0 where
  fits : fits_stage c stage e ≡ true
  at : At c u (stage_after c stage e)

le_self : (n : ℕ) → n ≤ n
le_self n = omega arith

-- an entry that leaves the task set as it is
same_set : (capacity c : ℕ) (label : Label) (s : State) (e : Entry) (stage : Stage) → (entry_after capacity label s e).arrived ≡ s.arrived → (entry_after capacity label s e).set ≡ s.set
    → starts c e ≡ false → At c s stage → At c (entry_after capacity label s e) stage
same_set capacity c label s e stage arrived set q i =
    alike c s (entry_after capacity label s e) stage
    (record {
      early = λ h. subst (λ (n : ℕ). c ≤ n) arrived h;
      later = subst (λ (n : ℕ). s.arrived ≤ n) (sym arrived) (le_self s.arrived);
      out = λ h. ap (λ (members : List Member). has c (numbers members)) set ∙ h;
      started = λ h. ap (λ (members : List Member). all_started c members) set ∙ h;
      owes = λ h. quiet capacity c label s e q h;
    }) i

-- a start: of the command, or of another
in_set : (o : Option Member) (c : ℕ) (s : State) → member_of s.set c ≡ o → option_map_or (λ m. not m.started && is_none (first_forbidding s.set m.task)) o false ≡ true → has c (numbers s.set) ≡ true
in_set None c s e h = absurd (cc)
in_set (Some m) c s e h = member_has c s.set m e

start_own : (capacity c : ℕ) (label : Label) (s : State) (stage : Stage) → may_start s c ≡ true → At c s stage → (is_queued stage ≡ true) × (c ≤ s.arrived)
unfolding At
start_own capacity c label s Coming may i = absurd (true_not_false (in_set (member_of s.set c) c s refl may) i.out)
start_own capacity c label s Queued may i = (refl, i.came)
start_own capacity c label s AtWork may i = absurd (no_restart (member_of s.set c) s (λ m f. found_started c s.set m i.started f) may)
start_own capacity c label s Gone may i = absurd (true_not_false (in_set (member_of s.set c) c s refl may) i.out)

start_fits : (t : Bool) (capacity c d : ℕ) (label : Label) (s : State) (stage : Stage) → nat_eq c d ≡ t → may_start s d ≡ true → At c s stage
    → ((not t || is_queued stage) ≡ true) × At c (entry_after capacity label s (Started d)) (cond t AtWork stage)
unfolding At starts
start_fits true capacity c d label s stage t may i =
    let is : c ≡ d = eqb-true c d t in
    let own = start_own capacity c label s stage (ap (λ (n : ℕ). may_start s n) is ∙ may) i in
    (own.0, record { came = own.1; started = subst (λ (n : ℕ). all_started c (entry_after capacity label s (Started n)).set ≡ true) is (start_started c s.set) })
start_fits false capacity c d label s stage t may i = (
  refl,
  alike c s (entry_after capacity label s (Started d)) stage
      (record {
        early = λ h. h;
        later = le_self s.arrived;
        out = λ h. ap (λ (ns : List ℕ). has c ns) (numbers_started d s.set) ∙ h;
        started = λ h. map_started c d s.set h;
        owes = λ h. quiet capacity c label s (Started d) t h;
      }) i,
)

-- a command leaves: this one, or another
leave : (t : Bool) (capacity c d : ℕ) (label : Label) (s : State) (e : Entry) (stage : Stage) → nat_eq c d ≡ t → (entry_after capacity label s e).set ≡ without s.set d
    → (entry_after capacity label s e).arrived ≡ s.arrived → starts c e ≡ false → (t ≡ true → c ≤ s.arrived) → At c s stage → At c (entry_after capacity label s e) (cond t Gone stage)
unfolding At
leave true capacity c d label s e stage t set arrived q came i =
    let is : d ≡ c = sym (eqb-true c d t) in
    record {
      came = subst (λ (n : ℕ). c ≤ n) (sym arrived) (came refl);
      out = ap (λ (members : List Member). has c (numbers members)) set ∙ ap (λ (ns : List ℕ). has c ns) (numbers_without d s.set)
          ∙ ap (λ (n : ℕ). has c (left_out n (numbers s.set))) is ∙ left_absent c (numbers s.set);
    }
leave false capacity c d label s e stage t set arrived q came i =
    alike c s (entry_after capacity label s e) stage
    (record {
      early = λ h. subst (λ (n : ℕ). c ≤ n) arrived h;
      later = subst (λ (n : ℕ). s.arrived ≤ n) (sym arrived) (le_self s.arrived);
      out = λ h. ap (λ (members : List Member). has c (numbers members)) set ∙ ap (λ (ns : List ℕ). has c ns) (numbers_without d s.set) ∙ has_less d c (numbers s.set) h;
      started = λ h. ap (λ (members : List Member). all_started c members) set ∙ filter_started c (λ m. not (m.task.c == d)) s.set h;
      owes = λ h. quiet capacity c label s e q h;
    }) i

at_work_came : (c : ℕ) (s : State) (stage : Stage) → is_at_work stage ≡ true → At c s stage → c ≤ s.arrived
unfolding At
at_work_came c s AtWork h i = i.came
at_work_came c s Coming h i = absurd (cc)
at_work_came c s Queued h i = absurd (cc)
at_work_came c s Gone h i = absurd (cc)

-- an end that is owed
end_fits : (capacity c d : ℕ) (label : Label) (s : State) (reply : Reply) (stage : Stage) → is_some (owed_after s (record { c = d; what = deed.Ended reply (names_dirty s reply) })) ≡ true
    → At c s stage → Fitting c stage (entry_after capacity label s (Ended d reply)) (Ended d reply)
unfolding starts
end_fits capacity c d label s reply stage h i =
    let acting = λ (e : nat_eq c d ≡ true). acts c s stage (deed.Ended reply (names_dirty s reply))
    (ap (λ (n : ℕ). is_some (owed_after s (record { c = n; what = deed.Ended reply (names_dirty s reply) }))) (eqb-true c d e) ∙ h) i in
    record {
      fits = own_or_other (nat_eq c d) (may_end_at stage reply) (λ e. ap (λ (x : Bool). x || (is_queued stage && same_reply reply task_set_full)) (acting e));
      at = leave (nat_eq c d) capacity c d label s (Ended d reply) stage refl refl refl refl (λ e. at_work_came c s stage (acting e) i) i;
    }

cut_fits : (capacity c : ℕ) (label : Label) (s : State) (stage : Stage) → At c s stage → At c (entry_after capacity label s Cut) (cut_off stage)
unfolding At has
cut_fits capacity c label s Coming i = record { early = i.early; out = refl }
cut_fits capacity c label s Queued i = record { came = i.came; out = refl }
cut_fits capacity c label s AtWork i = record { came = i.came; out = refl }
cut_fits capacity c label s Gone i = record { came = i.came; out = refl }

-- an entry in a turn that isn't an arrival
work_fits : (capacity c : ℕ) (label : Label) (s : State) (e : Entry) (stage : Stage) → entry_lawful capacity label s e ≡ true → At c s stage
    → Fitting c stage (entry_after capacity label s e) e
unfolding starts
work_fits capacity c label s (Started d) stage h i =
    let both = start_fits (nat_eq c d) capacity c d label s stage refl (both (works_on label d) _ h).1 i in record { fits = both.0; at = both.1 }
work_fits capacity c label s (Get d b v) stage h i = record {
  fits = acts_if c d s stage _ (both (works_on label d) _ h).1 i;
  at = same_set capacity c label s (Get d b v) stage refl refl refl i;
}
work_fits capacity c label s (Put d b v) stage h i = record {
  fits = acts_if c d s stage _ (both (may_write_for label d) _ h).1 i;
  at = same_set capacity c label s (Put d b v) stage refl refl refl i;
}
work_fits capacity c label s (Harden (Command d) b) stage h i = record {
  fits = acts_if c d s stage (deed.Hardened b) (both (may_write_for label d) _ (both (may_write_for label d && is_owed label s (Harden (Command d) b)) _ h).0).1 i;
  at = same_set capacity c label s (Harden (Command d) b) stage refl refl refl i;
}
work_fits capacity c label s (Harden Drive b) stage h i = record { fits = refl; at = same_set capacity c label s (Harden Drive b) stage refl refl refl i }
work_fits capacity c label s (Passed d from to) stage h i = record {
  fits = acts_if c d s stage _ (both (works_on label d) _ h).1 i;
  at = same_set capacity c label s (Passed d from to) stage refl refl refl i;
}
work_fits capacity c label s (Page d bytes) stage h i = record {
  fits = page_acts (s.duties d).asks c d bytes s stage (both (works_on label d) _ h).1 i;
  at = same_set capacity c label s (Page d bytes) stage refl refl refl i;
}
work_fits capacity c label s (Ended d reply) stage h i =
    end_fits capacity c d label s reply stage (both (works_on label d) _ (both (works_on label d && is_owed label s (Ended d reply)) _ h).0).1 i
work_fits capacity c label s Cut stage h i = record { fits = refl; at = cut_fits capacity c label s stage i }
work_fits capacity c label s (Arrived d j t a cdb sent) stage h i = absurd (cc)
work_fits capacity c label s (Asked j what) stage h i = absurd (cc)
work_fits capacity c label s (Aborted d) stage h i = absurd (cc)
work_fits capacity c label s (Blank d) stage h i = absurd (cc)
work_fits capacity c label s (Fresh d) stage h i = absurd (cc)
work_fits capacity c label s (Mode settings) stage h i = record { fits = refl; at = same_set capacity c label s (Mode settings) stage refl refl refl i }
work_fits capacity c label s (GiveUp b) stage h i = record { fits = refl; at = same_set capacity c label s (GiveUp b) stage refl refl refl i }
work_fits capacity c label s (Scanned b what) stage h i = record { fits = refl; at = same_set capacity c label s (Scanned b what) stage refl refl refl i }
work_fits capacity c label s (Logged finding) stage h i = record { fits = refl; at = same_set capacity c label s (Logged finding) stage refl refl refl i }
work_fits capacity c label s (PoweredOn outcome) stage h i = record { fits = refl; at = same_set capacity c label s (PoweredOn outcome) stage refl refl refl i }
work_fits capacity c label s (Tick minutes) stage h i = record { fits = refl; at = same_set capacity c label s (Tick minutes) stage refl refl refl i }

-- entries fit, one after another
record AllFitting (c : ℕ) (stage : Stage) (u : State) (entries : List Entry) : Type 0 where
  fit : all_along (stage_after c) (fits_stage c) stage entries ≡ true
  at : At c u (fold (stage_after c) stage entries)

works_fit : (capacity c : ℕ) (label : Label) (s : State) (entries : List Entry) (stage : Stage) → all_along (entry_after capacity label) (entry_lawful capacity label) s entries ≡ true
    → At c s stage → AllFitting c stage (entries_after capacity label s entries) entries
works_fit capacity c label s [] stage h i = record { fit = refl; at = i }
works_fit capacity c label s (e ∷ entries) stage h i =
    let now = both (entry_lawful capacity label s e) _ h in
    let one = work_fits capacity c label s e stage now.0 i in
    let rest = works_fit capacity c label (entry_after capacity label s e) entries (stage_after c stage e) now.1 one.at in
    record { fit = and_both (fits_stage c stage e) _ one.fits rest.fit; at = rest.at }

-- commands that a function ends
abort_own : (c : ℕ) (s : State) (stage : Stage) → has c (numbers s.set) ≡ true → At c s stage → (is_in stage ≡ true) × (c ≤ s.arrived)
unfolding At
abort_own c s Coming h i = absurd (true_not_false h i.out)
abort_own c s Queued h i = (refl, i.came)
abort_own c s AtWork h i = (refl, i.came)
abort_own c s Gone h i = absurd (true_not_false h i.out)

aborts_fit : (capacity c i : ℕ) (s : State) (cs : List ℕ) (entries : List Entry) (stage : Stage) → are_aborted cs entries ≡ true → distinct cs ≡ true
    → ((x : ℕ) → has x cs ≡ true → has x (numbers s.set) ≡ true) → At c s stage → AllFitting c stage (entries_after capacity (Arrive i) s entries) entries
unfolding distinct starts
aborts_fit capacity c i s [] [] stage h d f at = record { fit = refl; at = at }
aborts_fit capacity c i s (k ∷ cs) (Aborted n ∷ entries) stage h d f at =
    let now = both (k == n) _ h in
    let is : k ≡ n = eqb-true k n now.0 in
    let apart = both (not (has k cs)) _ d in
    let here : has n (numbers s.set) ≡ true = f n (first_has n k cs now.0) in
    let own = λ (e : nat_eq c n ≡ true). abort_own c s stage (ap (λ (x : ℕ). has x (numbers s.set)) (eqb-true c n e) ∙ here) at in
    let u : State = entry_after capacity (Arrive i) s (Aborted n) in
    let left : At c u (stage_after c stage (Aborted n)) =
    leave (nat_eq c n) capacity c n (Arrive i) s (Aborted n) stage refl refl refl refl (λ e. (own e).1) at in
    let rest = aborts_fit capacity c i u cs entries (stage_after c stage (Aborted n)) now.1 apart.1
    (λ x hx. ap (λ (ns : List ℕ). has x ns) (numbers_without n s.set)
    ∙ has_left n x (numbers s.set) (λ e. true_not_false hx (ap (λ (m : ℕ). has m cs) (e ∙ sym is) ∙ not_is (has k cs) apart.0)) (f x (later_has k x cs hx))) left in
    record { fit = and_both (fits_stage c stage (Aborted n)) _ (own_or_other (nat_eq c n) (is_in stage) (λ e. (own e).0)) rest.fit; at = rest.at }
aborts_fit capacity c i s cs entries stage h d f at = absurd (cc)

-- a command comes: this one, or another
come_own : (c : ℕ) (s : State) (stage : Stage) → c ≡ s.arrived + 1 → At c s stage → is_coming stage ≡ true
unfolding At
come_own c s Coming e i = refl
come_own c s Queued e i = let low : c ≤ s.arrived = i.came in absurd (omega arith)
come_own c s AtWork e i = let low : c ≤ s.arrived = i.came in absurd (omega arith)
come_own c s Gone e i = let low : c ≤ s.arrived = i.came in absurd (omega arith)

out_with : (full : Bool) (c : ℕ) (s : State) (m : Member) → nat_eq m.task.c c ≡ false → has c (numbers s.set) ≡ false → has c (numbers (cond full s.set (s.set ++ m ∷ []))) ≡ false
out_with true c s m e h = h
out_with false c s m e h = ap (λ (ns : List ℕ). has c ns) (numbers_append s.set m) ∙ has_more c (numbers s.set) m.task.c h e

come_fits : (t : Bool) (capacity c d : ℕ) (label : Label) (s : State) (stage : Stage) (j : ℕ) (tag : Tag) (a : Attribute) (cdb : List ℕ) (sent : DataOut) → nat_eq c d ≡ t → d ≡ s.arrived + 1
    → At c s stage
    → ((not t || is_coming stage) ≡ true) × At c (entry_after capacity label s (Arrived d j tag a cdb sent)) (cond t Queued stage)
unfolding At starts
come_fits true capacity c d label s stage j tag a cdb sent t is i =
    let same : c ≡ d = eqb-true c d t in (
      come_own c s stage (same ∙ is) i,
      record { came = omega arith; owes = ap (λ (x : Duty). x.owes) (put_here d c _ s.duties t) },
    )
come_fits false capacity c d label s stage j tag a cdb sent t is i =
    let ne : c ≢ d = eqb-false c d t in
    let other : d ≢ c = λ e. ne (sym e) in (
      refl,
      alike c s (entry_after capacity label s (Arrived d j tag a cdb sent)) stage
          (record {
            early = λ h. omega arith;
            later = omega arith;
            out = λ h. out_with (is_full s) c s (record { task = task_arrived capacity d j tag a cdb sent; started = false }) (ne_eqb d c other) h;
            started = λ h. arrived_started c (is_full s) s (task_arrived capacity d j tag a cdb sent) (ne_eqb d c other) h;
            owes = λ h. quiet capacity c label s (Arrived d j tag a cdb sent) refl h;
          }) i,
    )

-- .. and finds no room
queued_if : (t : Bool) (stage : Stage) (reply : Reply) → same_reply reply task_set_full ≡ true → (not t || may_end_at (cond t Queued stage) reply) ≡ true
queued_if true stage reply h = h
queued_if false stage reply h = refl

queued_came : (t : Bool) (c : ℕ) (s : State) (stage : Stage) → At c s (cond t Queued stage) → t ≡ true → c ≤ s.arrived
unfolding At
queued_came true c s stage i e = i.came
queued_came false c s stage i e = absurd (cc)

arrival_fits : (capacity c i : ℕ) (s : State) (full : Bool) (d : ℕ) (entries : List Entry) (stage : Stage) (j : ℕ) (tag : Tag) (a : Attribute) (cdb : List ℕ) (sent : DataOut)
    → d ≡ s.arrived + 1 → is_answered full d entries ≡ true → At c s stage
    → AllFitting c stage (entries_after capacity (Arrive i) s (Arrived d j tag a cdb sent ∷ entries)) (Arrived d j tag a cdb sent ∷ entries)
unfolding starts
arrival_fits capacity c i s false d [] stage j tag a cdb sent is h at =
    let come = come_fits (nat_eq c d) capacity c d (Arrive i) s stage j tag a cdb sent refl is at in
    record { fit = and_both (fits_stage c stage (Arrived d j tag a cdb sent)) true come.0 refl; at = come.1 }
arrival_fits capacity c i s true d (Ended n reply ∷ []) stage j tag a cdb sent is h at =
    let now = both (n == d) _ h in
    let same : d ≡ n = sym (eqb-true n d now.0) in
    let come = come_fits (nat_eq c d) capacity c d (Arrive i) s stage j tag a cdb sent refl is at in
    let u : State = entry_after capacity (Arrive i) s (Arrived d j tag a cdb sent) in
    let here : (nat_eq c n) ≡ (nat_eq c d) = ap (λ (x : ℕ). nat_eq c x) (sym same) in
    let fits : fits_stage c (stage_after c stage (Arrived d j tag a cdb sent)) (Ended n reply) ≡ true =
    ap (λ (t : Bool). not t || may_end_at (cond (nat_eq c d) Queued stage) reply) here ∙ queued_if (nat_eq c d) stage reply now.1 in
    record {
      fit = and_both (fits_stage c stage (Arrived d j tag a cdb sent)) _ come.0 (and_both (fits_stage c (stage_after c stage (Arrived d j tag a cdb sent)) (Ended n reply)) true fits refl);
      at = leave (nat_eq c n) capacity c n (Arrive i) u (Ended n reply) (stage_after c stage (Arrived d j tag a cdb sent)) refl refl refl refl
          (λ e. queued_came (nat_eq c d) c u stage come.1 (sym here ∙ e)) come.1;
    }
arrival_fits capacity c i s full d entries stage j tag a cdb sent is h at = absurd (cc)

arrivals_fit : (capacity c i : ℕ) (s : State) (entries : List Entry) (stage : Stage) → arrival_lawful s i entries ≡ true → distinct (numbers s.set) ≡ true → At c s stage
    → AllFitting c stage (entries_after capacity (Arrive i) s entries) entries
unfolding starts
arrivals_fit capacity c i s (Arrived d j tag a cdb sent ∷ entries) stage h once at =
    let now = both (j == i && d == s.arrived + 1) _ h in
    arrival_fits capacity c i s (is_full s) d entries stage j tag a cdb sent (eqb-true d (s.arrived + 1) (both (j == i) _ now.0).1) now.1 at
arrivals_fit capacity c i s (Asked j what ∷ entries) stage h once at =
    let named = is_named (named_by i what) in
    let u : State = entry_after capacity (Arrive i) s (Asked j what) in
    let rest = aborts_fit capacity c i u (numbers (filter named s.set)) entries stage (both (j == i) _ h).1 (some_distinct named s.set once) (λ x hx. some_has named s.set x hx)
    (same_set capacity c (Arrive i) s (Asked j what) stage refl refl refl at) in
    record { fit = rest.fit; at = rest.at }
arrivals_fit capacity c i s entries stage h once at = absurd (cc)

working_fits : (capacity c : ℕ) (label : Label) (s : State) (entries : List Entry) (stage : Stage) → work_lawful capacity label s entries ≡ true → At c s stage
    → AllFitting c stage (entries_after capacity label s entries) entries
working_fits capacity c label s entries stage h at =
    works_fit capacity c label s entries stage (both (starts_alone entries) _ (both (starts_alone entries && all_along (entry_after capacity label) (entry_lawful capacity label) s entries) _ h).0).1 at

label_fits : (capacity c : ℕ) (label : Label) (s : State) (entries : List Entry) (stage : Stage) → entries_lawful capacity label s entries ≡ true → distinct (numbers s.set) ≡ true
    → At c s stage → AllFitting c stage (entries_after capacity label s entries) entries
label_fits capacity c (Arrive i) s entries stage h once at = arrivals_fit capacity c i s entries stage h once at
label_fits capacity c (Work d) s entries stage h once at = working_fits capacity c (Work d) s entries stage h at
label_fits capacity c (Job j) s entries stage h once at = working_fits capacity c (Job j) s entries stage h at
label_fits capacity c Scan s entries stage h once at = working_fits capacity c Scan s entries stage h at
label_fits capacity c Destage s entries stage h once at = working_fits capacity c Destage s entries stage h at
label_fits capacity c (World w) s entries stage h once at = working_fits capacity c (World w) s entries stage h at

-- a turn that begins
begun_alike : (c : ℕ) (label : Label) (s : State) → Alike c s (begun s label)
begun_alike c (Work d) s = record { early = λ h. h; later = le_self s.arrived; out = λ h. h; started = λ h. h; owes = begun_quiet c (Work d) s }
begun_alike c (Arrive i) s = record { early = λ h. h; later = le_self s.arrived; out = λ h. h; started = λ h. h; owes = λ h. h }
begun_alike c (Job j) s = record { early = λ h. h; later = le_self s.arrived; out = λ h. h; started = λ h. h; owes = λ h. h }
begun_alike c Scan s = record { early = λ h. h; later = le_self s.arrived; out = λ h. h; started = λ h. h; owes = λ h. h }
begun_alike c Destage s = record { early = λ h. h; later = le_self s.arrived; out = λ h. h; started = λ h. h; owes = λ h. h }
begun_alike c (World w) s = record { early = λ h. h; later = le_self s.arrived; out = λ h. h; started = λ h. h; owes = λ h. h }

turns_fit : (capacity c : ℕ) (s : State) (turns : List Turn) (stage : Stage) (t : Tally) → task_legal_from capacity s turns ≡ true → Good s t → At c s stage
    → all_along (stage_after c) (fits_stage c) stage (entries_of turns) ≡ true
turns_fit capacity c s [] stage t h g at = refl
turns_fit capacity c s (turn ∷ turns) stage t h g at =
    let now = both (tasks_lawful capacity s turn) _ h in
    let good : Good (begun s turn.label) t = begun_good turn.label s t g in
    let here = label_fits capacity c turn.label (begun s turn.label) turn.entries stage now.0 (ap distinct (sym good.inside) ∙ good.once)
    (alike c s (begun s turn.label) stage (begun_alike c turn.label s) at) in
    let later = turns_fit capacity c (turn_after capacity s turn) turns (fold (stage_after c) stage turn.entries) (fold tally_after t turn.entries) now.1
    (label_good capacity turn.label (begun s turn.label) turn.entries t now.0 good) here.at in
    along_both (stage_after c) (fits_stage c) stage turn.entries (entries_of turns)
    ∙ and_both (all_along (stage_after c) (fits_stage c) stage turn.entries) _ here.fit later

pub entries_fit_their_stage : OfTaskLegalHistories EntriesFitTheirStage
unfolding At distinct below has
entries_fit_their_stage capacity waiting turns legal c =
    let start : Good (state_at_start waiting) tally_at_start = record { inside = refl; once = refl; low = refl; sum = refl } in
    turns_fit capacity c (state_at_start waiting) turns Coming tally_at_start legal start (record { early = λ h. omega arith; out = refl })
