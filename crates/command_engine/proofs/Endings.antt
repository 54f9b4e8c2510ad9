-- A command ends by its plan.
use Rattle.std.proofs.Common.{◌≡◌, ℕ, zero, suc, Bool, true, false, not, ◌&&◌, ◌||◌, ◌==◌, nat_eq, nat_lt, List, [], ◌∷◌, Some, None, refl, ap, subst, arith, eq-eqb}
use Rattle.std.specs.Prelude.{Option, if◌then◌else◌, pos, negsuc, ℤ}
use Rattle.std.specs.Option.{option_eq}
use Rattle.std.proofs.lemmas.Bool.{ltb-false, and_from}
use Rattle.disk_base.specs.declared.address.Lba.{Lba}
use Rattle.disk_base.specs.declared.stage.How.{How}
use Rattle.disk_base.specs.declared.stage.How.TheVariants.{Light, Full, Erased}
use Rattle.sense_data.specs.declared.reply.Reply.{Reply}
use Rattle.sense_data.specs.declared.sense.Sense.{Sense}
use Rattle.cdb_reader.specs.declared.plan.Reading as reading
use Rattle.cdb_reader.specs.declared.plan.Writing as writing
use Rattle.cdb_reader.specs.declared.plan.Syncing as syncing
use Rattle.cdb_reader.specs.declared.plan.Moving as moving
use Rattle.cdb_reader.specs.declared.plan.Plan.{Plan}
use Rattle.cdb_reader.specs.declared.plan.Plan.TheVariants.{Ending, Unread, Answering, Changing, Reading, Writing, Syncing, Moving, Over}
use Rattle.cdb_reader.specs.declared.plan.Deed.TheVariants.{Ended}
use Rattle.cdb_reader.specs.Plan.{plan_after, next, when}
use Rattle.cdb_reader.specs.Replies.{good, unrecovered_read, no_spare, same_reply, same_sense, is_write_error, is_recovered}
use Rattle.command_engine.specs.declared.step.Recovery.{Recovery}
use Rattle.command_engine.specs.declared.step.Step.{Step}
use Rattle.command_engine.specs.declared.step.Step.TheVariants.{Trying, Hardening, Faulted, Spareless}
use Rattle.command_engine.specs.Course.{Course}
use Rattle.command_engine.specs.Standing.{IsCourse, IsUnderWay, IsReading, IsWriting, IsSyncing, IsMoving, IsLeft}
use Rattle.command_engine.specs.Ending.{ending_of, ending_by, ended_move, fault_at, stays_dirty, report_of, recovered_error, write_error, code_by}
use Rattle.command_engine.specs.Need.{in_hand}
use Rattle.command_engine.specs.Answers.{with_page}
use Rattle.command_engine.proofs.Lists.{one_left}

same_information : (o : Option ℕ) → option_eq nat_eq o o ≡ true
same_information None = refl
same_information (Some n) = eq-eqb n n refl

same_sense_itself : (s : Sense) → same_sense s s ≡ true
same_sense_itself s =
    and_from _ _ (and_from _ _ (and_from _ _ (and_from _ _ (eq-eqb s.key s.key refl) (same_information s.information)) (eq-eqb s.specific s.specific refl)) (eq-eqb s.asc s.asc refl)) (eq-eqb s.ascq s.ascq refl)

same_option : (o : Option Sense) → option_eq same_sense o o ≡ true
same_option None = refl
same_option (Some s) = same_sense_itself s

same_itself : (r : Reply) → same_reply r r ≡ true
same_itself r = and_from _ _ (eq-eqb r.status r.status refl) (same_option r.sense)

-- the reply that is given is the one that is owed
replied : (owed given : Reply) → Some owed ≡ Some given → same_reply given owed ≡ true
replied owed given is = let e : owed ≡ given = cc in subst (λ r. same_reply r owed ≡ true) e (same_itself owed)

or_left : (a b : Bool) → a ≡ true → (a || b) ≡ true
or_left true b h = refl
or_left false b h = absurd (cc)

or_right : (a b : Bool) → b ≡ true → (a || b) ≡ true
or_right true b h = refl
or_right false b h = h

-- the end may come by the plan
over : (b : Bool) → b ≡ true → plan_after (when b Over) [] ≡ Some Over
over b h = rw h refl

-- a command ends before its last block where a write of a block faulted
faulted_there : (step : Step) (b : ℕ) (reply : Reply) → fault_at step b ≡ Some reply → (is_write_error b reply ≡ true) × (step ≡ Faulted)
faulted_there Faulted b reply is = (or_left _ _ (replied (write_error b) reply is), refl)
faulted_there other b reply is = absurd (cc)

-- behind the last block none is left
none_left : (step : Step) (at end : ℕ) → IsLeft step at end → nat_lt at end ≡ false → (at == end) ≡ true
none_left (Trying p) at end left is = eq-eqb at end (omega (arith, ltb-false at end is))
none_left Hardening at end left is = absurd (omega (arith, ltb-false at end is))
none_left Faulted at end left is = absurd (omega (arith, ltb-false at end is))
none_left other at end left is = absurd left

is_key_one : (how : How) (offset : ℤ) → ((code_by how offset).key == 1) ≡ true
is_key_one Light (pos zero) = refl
is_key_one Light (pos (suc n)) = refl
is_key_one Light (negsuc n) = refl
is_key_one Full offset = refl
is_key_one Erased offset = refl

recovered_so : (r : Recovery) → is_recovered (recovered_error r) ≡ true
recovered_so r = is_key_one r.stage.how r.stage.offset

-- a read that found all is GOOD, or reports a recovery
reported : (reports : Bool) (recovered : Option Recovery) (reply : Reply) → Some (report_of reports recovered) ≡ Some reply
    → (same_reply reply good || reports && is_recovered reply) ≡ true
reported true (Some r) reply is =
    let e : recovered_error r ≡ reply = cc in or_right _ _ (subst (λ x. is_recovered x ≡ true) e (recovered_so r))
reported true None reply is = or_left _ _ (replied good reply is)
reported false recovered reply is = or_left _ _ (replied good reply is)

-- a write that faults in a read is that of a block that is dirty
goes_through : (retry : ℕ) (step : Step) (r : reading.Reading) → step ≡ Faulted → IsReading retry step r → r.through ≡ true
goes_through retry Faulted r is way = way.through
goes_through retry other r is way = absurd (cc)

reading_ends : (retry : ℕ) (r : reading.Reading) (step : Step) (recovered : Option Recovery) (reply : Reply) (dirty is_left : Bool) → nat_lt r.at r.end ≡ is_left
    → IsReading retry step r → (if is_left then fault_at step r.at else Some (report_of r.reports recovered)) ≡ Some reply → (step ≡ Faulted → dirty ≡ true)
    → plan_after (next (Reading r) (Ended reply dirty)) [] ≡ Some Over
reading_ends retry r step recovered reply dirty true left way is fault =
    let there = faulted_there step r.at reply is in
    let through = goes_through retry step r there.1 way in
    over _ (or_right _ _ (and_from _ _ (and_from _ _ (and_from _ _ left through) (fault there.1)) there.0))
reading_ends retry r step recovered reply dirty false left way is fault =
    over _ (or_left _ _ (and_from _ _ (none_left step r.at r.end way.left left) (reported r.reports recovered reply is)))

writing_ends : (retry : ℕ) (w : writing.Writing) (step : Step) (reply : Reply) (dirty is_left : Bool) → nat_lt w.at w.end ≡ is_left
    → IsWriting retry step w → (if is_left then fault_at step w.at else Some good) ≡ Some reply
    → plan_after (next (Writing w) (Ended reply dirty)) [] ≡ Some Over
writing_ends retry w step reply dirty true left way is =
    let there = faulted_there step w.at reply is in
    over _ (and_from _ _ (ap not way.hardened) (or_right _ _ (and_from _ _ left there.0)))
writing_ends retry w step reply dirty false left way is =
    over _ (and_from _ _ (ap not way.hardened) (or_left _ _ (and_from _ _ (none_left step w.at w.end way.left left) (replied good reply is))))

syncing_ends : (retry : ℕ) (s : syncing.Syncing) (step : Step) (reply : Reply) (dirty is_left : Bool) → nat_lt s.at s.end ≡ is_left
    → IsSyncing retry step s → (if is_left then fault_at step s.at else Some good) ≡ Some reply → (step ≡ Faulted → dirty ≡ true)
    → plan_after (next (Syncing s) (Ended reply dirty)) [] ≡ Some Over
syncing_ends retry s step reply dirty true left way is fault =
    let there = faulted_there step s.at reply is in
    over _ (or_right _ _ (and_from _ _ (and_from _ _ left (fault there.1)) there.0))
syncing_ends retry s step reply dirty false left way is fault =
    over _ (or_left _ _ (and_from _ _ (none_left step s.at s.end way.left left) (replied good reply is)))

list_ends : (retry moved : ℕ) (m : moving.Moving) (step : Step) (o : Option Lba) (reply : Reply) (dirty : Bool) → in_hand m moved ≡ o → IsMoving retry moved step m
    → ended_move o step ≡ Some reply → plan_after (next (Moving m) (Ended reply dirty)) [] ≡ Some Over
list_ends retry moved m step None reply dirty hand way is = over _ (or_left _ _ (replied good reply is))
list_ends retry moved m Spareless (Some b) reply dirty hand way is =
    over _ (or_right _ _ (one_left (λ block. same_reply reply (no_spare block.0)) m moved b hand way.hardened (replied (no_spare b.0) reply is)))
list_ends retry moved m other (Some b) reply dirty hand way is = absurd (cc)

ends_by : (page : List ℕ) (retry moved : ℕ) (plan : Plan) (step : Step) (recovered : Option Recovery) (reply : Reply) (dirty : Bool) → IsUnderWay retry plan moved step
    → ending_by plan moved step recovered ≡ Some reply → (stays_dirty plan step ≡ true → dirty ≡ true) → plan_after (Some (with_page page plan)) (Ended reply dirty ∷ []) ≡ Some Over
ends_by page retry moved (Ending owed) step recovered reply dirty way is fault = over _ (replied owed reply is)
ends_by page retry moved (Unread b) step recovered reply dirty way is fault = over _ (replied (unrecovered_read b) reply is)
ends_by page retry moved (Reading r) step recovered reply dirty way is fault = reading_ends retry r step recovered reply dirty (nat_lt r.at r.end) refl way is (λ e. fault (rw e refl))
ends_by page retry moved (Writing w) step recovered reply dirty way is fault = writing_ends retry w step reply dirty (nat_lt w.at w.end) refl way is
ends_by page retry moved (Syncing s) step recovered reply dirty way is fault = syncing_ends retry s step reply dirty (nat_lt s.at s.end) refl way is (λ e. fault (rw e refl))
ends_by page retry moved (Answering bytes owed) step recovered reply dirty way is fault = absurd (cc)
ends_by page retry moved Changing step recovered reply dirty way is fault = absurd way
ends_by page retry moved (Moving m) step recovered reply dirty way is fault = list_ends retry moved m step (in_hand m moved) reply dirty refl way is
ends_by page retry moved Over step recovered reply dirty way is fault = absurd way

pub ends : (page : List ℕ) (c : Course) (reply : Reply) (dirty : Bool) → IsCourse c → ending_of c ≡ Some reply → (stays_dirty c.plan c.step ≡ true → dirty ≡ true)
    → plan_after (Some (with_page page c.plan)) (Ended reply dirty ∷ []) ≡ Some Over
ends page c reply dirty is ends_so fault = ends_by page c.settings.retry c.moved c.plan c.step c.recovered reply dirty is.under_way ends_so fault
