-- Each end has one of three statuses.
use Rattle.std.proofs.Common.{◌≡◌, ◌∙◌, ap, sym, subst, refl, ℕ, Bool, true, false, cond, nat_eq, nat_lt, List, [], ◌∷◌, ◌++◌}
use Rattle.std.specs.Prelude.{◌&&◌, ◌||◌, ◌==◌, ◌+◌, fold, unwrap_or, Option, Some, None, Result, Ok, Err}
use Rattle.std.specs.List.{list_any}
use Rattle.std.specs.Option.{option_and_then, option_map_or}
use Rattle.std.proofs.lemmas.Bool.{eqb-true}
use Rattle.disk_base.specs.At.{put_at}
use Rattle.disk_base.specs.Along.{all_along}
use Rattle.disk_base.specs.declared.address.Lba.{Lba}
use Rattle.disk_base.specs.declared.block.Value.TheVariants.{Data, Lost}
use Rattle.disk_base.specs.declared.command.DataOut.{DataOut}
use Rattle.sense_data.specs.declared.sense.Sense.{Sense}
use Rattle.sense_data.specs.declared.reply.Reply.{Reply}
use Rattle.sense_data.specs.Sense.{sense_of}
use Rattle.mode_pages.specs.declared.settings.Settings.{Settings}
use Rattle.task_set.specs.declared.member.Member.{Member}
use Rattle.task_set.specs.Members.{member_of}
use Rattle.cdb_reader.specs.declared.plan.Reading as reading
use Rattle.cdb_reader.specs.declared.plan.Writing as writing
use Rattle.cdb_reader.specs.declared.plan.Syncing as syncing
use Rattle.cdb_reader.specs.declared.plan.Moving as moving
use Rattle.cdb_reader.specs.declared.plan.Plan.{Plan}
use Rattle.cdb_reader.specs.declared.plan.Plan.TheVariants.{Ending, Unread, Answering, Changing, Reading, Writing, Syncing, Moving, Over}
use Rattle.cdb_reader.specs.declared.plan.Deed.{Deed}
use Rattle.cdb_reader.specs.declared.plan.Deed.TheVariants as deed
use Rattle.cdb_reader.specs.Plan.{next, when, reading_from, after_written, after_move, blocks_left, may_end}
use Rattle.cdb_reader.specs.Replies.{good, check_condition, medium_error, unrecovered_read, no_spare, same_reply, is_write_error, is_recovered}
use Rattle.cdb_reader.specs.Request.{Request}
use Rattle.cdb_reader.specs.Request as request
use Rattle.block_machine.specs.declared.entry.Entry.{Entry}
use Rattle.block_machine.specs.declared.entry.Entry.TheVariants.{Arrived, Started, Ended}
use Rattle.block_machine.specs.declared.turn.Label.{Label}
use Rattle.block_machine.specs.declared.turn.Label.TheVariants.{Arrive, Work, Job, Scan, Destage, World}
use Rattle.block_machine.specs.Attentions.{attention_met}
use Rattle.block_machine.specs.State.{State, Duty, initiator_of, state_at_start}
use Rattle.block_machine.specs.Steps.{entry_after, duties_after, duties_done, begun}
use Rattle.block_machine.specs.Plans.{is_medium, refusing, answering, answering_sensed, changing, plan_asked, plan_unless_refused, first_plan}
use Rattle.block_machine.specs.Deeds.{Done, done_by, names_dirty}
use Rattle.block_machine.specs.Entries.{is_owed, works_on}
use Rattle.block_machine.specs.Turns.{task_set_full}
use Rattle.block_machine.specs.Laws.{OfTaskLegalHistories, is_status, EndsHaveTheirStatus}
use Rattle.block_machine.proofs.Alongs.{along_second}
use Rattle.block_machine.proofs.Replies.{when_is}
use Rattle.block_machine.proofs.Stepwise.{Step, Begins, Does, step_after, step_ok, entry_ok, steps_of, steps_ok, parted, entries_of_steps}
use Rattle.block_machine.proofs.OneCommand.{OkCases, arriving, working, ok_cases, owed}
use Rattle.block_machine.proofs.Booleans.{both}

-- the reply that a plan gives has such a status
abbrev fits : Option Plan → Bool
fits (Some (Ending reply)) = is_status reply.status
fits (Some (Answering bytes reply)) = is_status reply.status
fits other = true

either_fits : (t : Bool) (p q : Plan) → fits (Some p) ≡ true → fits (Some q) ≡ true → fits (Some (cond t p q)) ≡ true
either_fits true p q h k = h
either_fits false p q h k = k

-- plans after a deed
when_fits : (t : Bool) (plan : Plan) → fits (Some plan) ≡ true → fits (when t plan) ≡ true
when_fits true plan h = h
when_fits false plan h = refl

when_over : (t : Bool) → fits (when t Over) ≡ true
when_over t = when_fits t Over refl

when_unread : (t : Bool) (b : ℕ) → fits (when t (Unread b)) ≡ true
when_unread t b = when_fits t (Unread b) refl

when_reading : (t : Bool) (r : reading.Reading) → fits (when t (Reading r)) ≡ true
when_reading t r = when_fits t (Reading r) refl

when_syncing : (t : Bool) (s : syncing.Syncing) → fits (when t (Syncing s)) ≡ true
when_syncing t s = when_fits t (Syncing s) refl

written_fits : (w : writing.Writing) → fits (Some (after_written w)) ≡ true
written_fits w =
    either_fits (w.verifies && w.at + 1 == w.end) (reading_from w.from w.end true w.reports) (Writing (record w { at = w.at + 1; owes_harden = false })) refl refl

moved_fits : (m : moving.Moving) (o : Option ℕ) → fits (after_move m o) ≡ true
moved_fits m None = refl
moved_fits m (Some i) = refl

next_fits : (plan : Plan) (what : Deed) → fits (Some plan) ≡ true → fits (next plan what) ≡ true
next_fits (Ending reply) (deed.Ended given dirty) h = when_over _
next_fits (Unread b) (deed.Ended given dirty) h = when_over _
next_fits (Answering bytes reply) (deed.Page given) h = when_fits _ (Ending reply) h
next_fits Changing deed.Mode h = refl
next_fits (Reading r) (deed.Hardened b) h = when_reading _ _
next_fits (Reading r) (deed.Got b (Data d) dirty) h = when_reading _ _
next_fits (Reading r) (deed.Got b Lost dirty) h = when_unread _ _
next_fits (Reading r) (deed.Ended reply dirty) h = when_over _
next_fits (Writing w) (deed.Put b block full) h =
    when_fits _ (cond (w.through || full) (Writing (record w { owes_harden = true })) (after_written w))
    (either_fits (w.through || full) (Writing (record w { owes_harden = true })) (after_written w) refl (written_fits w))
next_fits (Writing w) (deed.Hardened b) h = when_fits _ (after_written w) (written_fits w)
next_fits (Writing w) (deed.Ended reply dirty) h = when_over _
next_fits (Syncing s) (deed.Passed from to) h = when_syncing _ _
next_fits (Syncing s) (deed.Hardened b) h = when_syncing _ _
next_fits (Syncing s) (deed.Ended reply dirty) h = when_over _
next_fits (Moving m) (deed.Hardened b) h = moved_fits m _
next_fits (Moving m) (deed.Ended reply dirty) h = when_over _
next_fits plan what h = refl

-- plans at the start
answering_fits : (allocation : ℕ) (o : Option (List ℕ)) → fits (Some (answering allocation o)) ≡ true
answering_fits allocation None = refl
answering_fits allocation (Some bytes) = refl

sensed_fits : (o : Result (List ℕ) Sense) → fits (Some (answering_sensed o)) ≡ true
sensed_fits (Ok bytes) = refl
sensed_fits (Err sense) = refl

kept_fits : (t : Bool) → fits (Some (cond t (Ending good) Changing)) ≡ true
kept_fits true = refl
kept_fits false = refl

changing_fits : (settings : Settings) (o : Result Settings Sense) → fits (Some (changing settings o)) ≡ true
changing_fits settings (Ok made) = kept_fits _
changing_fits settings (Err sense) = refl

defect_fits : (t : Bool) → is_status (cond t good (check_condition (sense_of 1 0x1C 0x00))).status ≡ true
defect_fits true = refl
defect_fits false = refl

empty_reading : (t : Bool) (r : reading.Reading) → fits (Some (unwrap_or (cond t (Some (Ending good)) (Some (Reading r))) Over)) ≡ true
empty_reading true r = refl
empty_reading false r = refl

empty_writing : (t : Bool) (w : writing.Writing) → fits (Some (unwrap_or (cond t (Some (Ending good)) (Some (Writing w))) Over)) ≡ true
empty_writing true w = refl
empty_writing false w = refl

empty_syncing : (t : Bool) (s : syncing.Syncing) → fits (Some (unwrap_or (cond t (Some (Ending good)) (Some (Syncing s))) Over)) ≡ true
empty_syncing true s = refl
empty_syncing false s = refl

empty_moving : (t : Bool) (m : moving.Moving) → fits (Some (unwrap_or (cond t (Some (Ending good)) (Some (Moving m))) Over)) ≡ true
empty_moving true m = refl
empty_moving false m = refl

asked_fits : (capacity : ℕ) (s : State) (i : ℕ) (sent : DataOut) (asks : Request) → fits (Some (plan_asked capacity s i sent asks)) ≡ true
asked_fits capacity s i sent request.TestUnitReady = refl
asked_fits capacity s i sent (request.RequestSense allocation) = refl
asked_fits capacity s i sent (request.ReassignBlocks blocks) = empty_moving _ _
asked_fits capacity s i sent (request.Inquiry evpd page allocation) = answering_fits allocation _
asked_fits capacity s i sent (request.ModeSelect ten count) = changing_fits s.settings _
asked_fits capacity s i sent (request.ModeSense ten dbd control page subpage allocation) = sensed_fits _
asked_fits capacity s i sent request.ReadCapacity10 = refl
asked_fits capacity s i sent (request.Read from count fua) = empty_reading _ _
asked_fits capacity s i sent (request.Write from count fua) = empty_writing _ _
asked_fits capacity s i sent (request.WriteAndVerify from count) = empty_writing _ _
asked_fits capacity s i sent (request.Verify from count) = empty_reading _ _
asked_fits capacity s i sent (request.SynchronizeCache from count) = empty_syncing _ _
asked_fits capacity s i sent (request.ReadDefectData primary grown format allocation) = defect_fits (nat_eq format 5)
asked_fits capacity s i sent (request.LogSense page subpage pointer allocation) = answering_fits allocation _
asked_fits capacity s i sent (request.ReadCapacity16 allocation) = refl
asked_fits capacity s i sent (request.ReportLuns select allocation) = answering_fits allocation _

unless_refused_fits : (capacity : ℕ) (s : State) (i : ℕ) (sent : DataOut) (asks : Result Request Sense) → fits (Some (plan_unless_refused capacity s i sent asks)) ≡ true
unless_refused_fits capacity s i sent (Ok asks) =
    either_fits (s.corrupt && is_medium asks) (refusing (sense_of 3 0x31 0x00)) (plan_asked capacity s i sent asks) refl (asked_fits capacity s i sent asks)
unless_refused_fits capacity s i sent (Err sense) = refl

attention_fits : (o : Option Sense) (plan : Plan) → fits (Some plan) ≡ true → fits (Some (option_map_or refusing o plan)) ≡ true
attention_fits None plan h = h
attention_fits (Some sense) plan h = refl

first_fits : (capacity : ℕ) (s : State) (i : ℕ) (duty : Duty) → fits (Some (first_plan capacity s i duty)) ≡ true
first_fits capacity s i duty =
    attention_fits (attention_met s.waiting i duty.code) (plan_unless_refused capacity s i duty.sent duty.asks)
    (unless_refused_fits capacity s i duty.sent duty.asks)

-- what each command owes has such a status
AllFit : (ℕ → Duty) → Type 0
AllFit duties = (c : ℕ) → fits (duties c).owes ≡ true

put_one : (t : Bool) (d e : Duty) → fits d.owes ≡ true → fits e.owes ≡ true → fits (cond t d e).owes ≡ true
put_one true d e h k = h
put_one false d e h k = k

put_fits : (duties : ℕ → Duty) (k : ℕ) (d : Duty) → fits d.owes ≡ true → AllFit duties → AllFit (put_at k d duties)
unfolding AllFit
put_fits duties k d h f = λ c. put_one (nat_eq c k) d (duties c) h (f c)

then_fits : (o : Option Plan) (what : Deed) → fits o ≡ true → fits (option_and_then (λ plan. next plan what) o) ≡ true
then_fits None what h = refl
then_fits (Some plan) what h = next_fits plan what h

in_fits : (m : Option Member) (o : Option Plan) → fits o ≡ true → fits (option_and_then (λ m. o) m) ≡ true
in_fits None o h = refl
in_fits (Some m) o h = h

done_fits : (s : State) (o : Option Done) → AllFit s.duties → AllFit (duties_done s o)
unfolding AllFit
done_fits s None f = f
done_fits s (Some d) f =
    put_fits s.duties d.c _ (then_fits (option_and_then (λ m. (s.duties d.c).owes) (member_of s.set d.c)) d.what (in_fits (member_of s.set d.c) (s.duties d.c).owes (f d.c))) f

entry_fits : (capacity : ℕ) (label : Label) (s : State) (e : Entry) → AllFit s.duties → AllFit (duties_after capacity label s e)
unfolding AllFit
entry_fits capacity label s (Arrived c i t a cdb sent) f = put_fits s.duties c _ refl f
entry_fits capacity label s (Started c) f = put_fits s.duties c _ (first_fits capacity s (initiator_of s c) (s.duties c)) f
entry_fits capacity label s other f = done_fits s (done_by label s other) f

begun_fits : (label : Label) (s : State) → AllFit s.duties → AllFit (begun s label).duties
unfolding AllFit
begun_fits (Work c) s f = put_fits s.duties c (record (s.duties c) { dirty_then = s.dirty }) (f c) f
begun_fits (Arrive i) s f = f
begun_fits (Job j) s f = f
begun_fits Scan s f = f
begun_fits Destage s f = f
begun_fits (World w) s f = f

steps_fit : (capacity : ℕ) (s : State) (steps : List Step) → AllFit s.duties → AllFit (fold (step_after capacity) s steps).duties
steps_fit capacity s [] f = f
steps_fit capacity s (Begins label ∷ steps) f = steps_fit capacity (begun s label) steps (begun_fits label s f)
steps_fit capacity s (Does label e ∷ steps) f = steps_fit capacity (entry_after capacity label s e) steps (entry_fits capacity label s e f)

-- one of two
either : (x y z : Bool) → (x || y) ≡ true → (x ≡ true → z ≡ true) → (y ≡ true → z ≡ true) → z ≡ true
either true y z h f g = f refl
either false y z h f g = g h

-- replies that an end may have
same_status : (r s : Reply) → same_reply r s ≡ true → is_status s.status ≡ true → is_status r.status ≡ true
same_status r s h k = ap is_status (eqb-true r.status s.status (both (r.status == s.status) _ h).0) ∙ k

write_error_status : (b : ℕ) (reply : Reply) → is_write_error b reply ≡ true → is_status reply.status ≡ true
write_error_status b reply h =
    either (same_reply reply (medium_error 0x0C 0x00 b)) (same_reply reply (medium_error 0x0C 0x02 b)) (is_status reply.status) h
    (λ k. same_status reply (medium_error 0x0C 0x00 b) k refl) (λ k. same_status reply (medium_error 0x0C 0x02 b) k refl)

recovered_status : (reply : Reply) → is_recovered reply ≡ true → is_status reply.status ≡ true
recovered_status reply h = ap is_status (eqb-true reply.status 2 (both (reply.status == 2) _ h).0)

spare_status : (blocks : List Lba) (reply : Reply) → list_any (λ block. same_reply reply (no_spare block.0)) blocks ≡ true → is_status reply.status ≡ true
spare_status [] reply h = absurd (cc)
spare_status (block ∷ blocks) reply h =
    either (same_reply reply (no_spare block.0)) (list_any (λ block. same_reply reply (no_spare block.0)) blocks) (is_status reply.status) h
    (λ k. same_status reply (no_spare block.0) k refl) (λ k. spare_status blocks reply k)

reading_status : (r : reading.Reading) (reply : Reply) (dirty : Bool) → may_end (Reading r) dirty reply ≡ true → is_status reply.status ≡ true
reading_status r reply dirty h =
    either (r.at == r.end && (same_reply reply good || r.reports && is_recovered reply)) (nat_lt r.at r.end && r.through && dirty && is_write_error r.at reply)
    (is_status reply.status) h
    (λ k. either (same_reply reply good) (r.reports && is_recovered reply) (is_status reply.status) (both (r.at == r.end) _ k).1
    (λ m. same_status reply good m refl) (λ m. recovered_status reply (both r.reports _ m).1))
    (λ k. write_error_status r.at reply (both (nat_lt r.at r.end && r.through && dirty) _ k).1)

writing_status : (w : writing.Writing) (reply : Reply) (dirty : Bool) → may_end (Writing w) dirty reply ≡ true → is_status reply.status ≡ true
writing_status w reply dirty h =
    either (w.at == w.end && same_reply reply good) (nat_lt w.at w.end && is_write_error w.at reply) (is_status reply.status) (both _ _ h).1
    (λ k. same_status reply good (both (w.at == w.end) _ k).1 refl) (λ k. write_error_status w.at reply (both (nat_lt w.at w.end) _ k).1)

syncing_status : (y : syncing.Syncing) (reply : Reply) (dirty : Bool) → may_end (Syncing y) dirty reply ≡ true → is_status reply.status ≡ true
syncing_status y reply dirty h =
    either (y.at == y.end && same_reply reply good) (nat_lt y.at y.end && dirty && is_write_error y.at reply) (is_status reply.status) h
    (λ k. same_status reply good (both (y.at == y.end) _ k).1 refl) (λ k. write_error_status y.at reply (both (nat_lt y.at y.end && dirty) _ k).1)

moving_status : (m : moving.Moving) (reply : Reply) → (same_reply reply good || list_any (λ block. same_reply reply (no_spare block.0)) (blocks_left m)) ≡ true
    → is_status reply.status ≡ true
moving_status m reply h =
    either (same_reply reply good) (list_any (λ block. same_reply reply (no_spare block.0)) (blocks_left m)) (is_status reply.status) h
    (λ k. same_status reply good k refl) (λ k. spare_status (blocks_left m) reply k)

-- an end that is owed
owed_status : (plan after : Plan) (reply : Reply) (dirty : Bool) → next plan (deed.Ended reply dirty) ≡ Some after → fits (Some plan) ≡ true → is_status reply.status ≡ true
owed_status (Ending x) after reply dirty h f = same_status reply x (when_is _ _ _ h).0 f
owed_status (Unread b) after reply dirty h f = same_status reply (unrecovered_read b) (when_is _ _ _ h).0 refl
owed_status (Reading r) after reply dirty h f = reading_status r reply dirty (when_is _ _ _ h).0
owed_status (Writing w) after reply dirty h f = writing_status w reply dirty (when_is _ _ _ h).0
owed_status (Syncing y) after reply dirty h f = syncing_status y reply dirty (when_is _ _ _ h).0
owed_status (Moving m) after reply dirty h f = moving_status m reply (when_is _ _ _ h).0
owed_status (Answering bytes x) after reply dirty h f = absurd (cc)
owed_status Changing after reply dirty h f = absurd (cc)
owed_status Over after reply dirty h f = absurd (cc)

end_status : (capacity c : ℕ) (label : Label) (s : State) (reply : Reply) → OkCases capacity label s (Ended c reply) → AllFit s.duties → is_status reply.status ≡ true
unfolding AllFit
end_status capacity c label s reply (arriving h) f = same_status reply task_set_full (both (same_reply reply task_set_full) _ h).0 refl
end_status capacity c label s reply (working h) f =
    let o = owed s c (deed.Ended reply (names_dirty s reply)) (both (works_on label c) _ (both (works_on label c && is_owed label s (Ended c reply)) _ h).0).1 in
    owed_status o.before o.after reply (names_dirty s reply) o.follows (subst (λ (p : Option Plan). fits p ≡ true) o.owes (f c))

pub ends_have_their_status : OfTaskLegalHistories EndsHaveTheirStatus
unfolding AllFit
ends_have_their_status capacity waiting turns legal before after c reply is =
    let start : State = state_at_start waiting in
    let p = parted (steps_of turns) before (Ended c reply) after (entries_of_steps turns ∙ is) in
    let lawful : all_along (step_after capacity) (step_ok capacity) start (p.before ++ Does p.label (Ended c reply) ∷ p.behind) ≡ true =
    ap (λ (x : List Step). all_along (step_after capacity) (step_ok capacity) start x) (sym p.whole) ∙ steps_ok capacity start turns legal in
    let s : State = fold (step_after capacity) start p.before in
    let here = both (entry_ok capacity p.label s (Ended c reply)) _
    (along_second (step_after capacity) (step_ok capacity) start p.before (Does p.label (Ended c reply) ∷ p.behind) lawful) in
    end_status capacity c p.label s reply (ok_cases capacity p.label s (Ended c reply) here.0) (steps_fit capacity start p.before (λ d. refl))
