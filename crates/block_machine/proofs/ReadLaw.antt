-- A read that succeeds got each of its blocks once, in order.
use Rattle.std.proofs.Common.{◌≡◌, ◌∙◌, ap, sym, subst, refl, ℕ, zero, suc, ◌+◌, ◌-◌, ◌<◌, ◌≤◌, Bool, true, false, cond, nat_eq, nat_lt, List, [], ◌∷◌, ◌++◌, arith}
use Rattle.std.specs.Prelude.{◌&&◌, ◌||◌, ◌==◌, unwrap_or, Option, Some, None, Result, Ok}
use Rattle.std.specs.List.{range_with_len}
use Rattle.std.proofs.lemmas.Bool.{eq-eqb, eqb-true, ltb-true}
use Rattle.disk_base.specs.declared.block.Value.TheVariants.{Data, Lost}
use Rattle.disk_base.specs.declared.command.DataOut.{DataOut}
use Rattle.sense_data.specs.declared.sense.Sense.{Sense}
use Rattle.sense_data.specs.declared.reply.Reply.{Reply}
use Rattle.sense_data.specs.Sense.{sense_of}
use Rattle.cdb_reader.specs.declared.plan.Reading as reading
use Rattle.cdb_reader.specs.declared.plan.Plan.{Plan}
use Rattle.cdb_reader.specs.declared.plan.Plan.TheVariants.{Ending, Unread, Answering, Changing, Reading, Writing, Syncing, Moving, Over}
use Rattle.cdb_reader.specs.declared.plan.Deed.{Deed}
use Rattle.cdb_reader.specs.declared.plan.Deed.TheVariants as deed
use Rattle.cdb_reader.specs.Plan.{next, reading_from}
use Rattle.cdb_reader.specs.Replies.{good, unrecovered_read, medium_error, same_reply, is_write_error, is_recovered}
use Rattle.cdb_reader.specs.Request.{Request, ReadDefectData}
use Rattle.cdb_reader.specs.Request as request
use Rattle.block_machine.specs.declared.entry.Who.TheVariants.{Command}
use Rattle.block_machine.specs.declared.entry.Entry.{Entry}
use Rattle.block_machine.specs.declared.entry.Entry.TheVariants.{Get, Put, Harden, Passed, Page, Ended, Mode}
use Rattle.block_machine.specs.declared.turn.Label.{Label}
use Rattle.block_machine.specs.declared.turn.Label.TheVariants.{Work}
use Rattle.block_machine.specs.State.{State, Duty, initiator_of}
use Rattle.block_machine.specs.Plans.{first_plan, plan_unless_refused, refusing}
use Rattle.block_machine.specs.DriveOnly.{has_defect_length}
use Rattle.block_machine.specs.Deeds.{Done, done, done_by, page_done, names_dirty}
use Rattle.block_machine.specs.Entries.{is_owed, works_on}
use Rattle.block_machine.specs.Turns.{task_set_full}
use Rattle.block_machine.specs.Laws.{OfTaskLegalHistories, got_after, blocks_got, succeeds, AsksToRead, ReadsGetEachBlockOnce}
use Rattle.block_machine.specs.Parts.{asked}
use Rattle.block_machine.proofs.Replies.{when_is, same_succeed, not_same, at_start}
use Rattle.block_machine.proofs.OneCommand.{NotBy, OkCases, arriving, working, Owed, owed, until_its_end}
use Rattle.block_machine.proofs.Booleans.{both, true_not_false}

-- a range with one number more
range_more : (a n : ℕ) → range_with_len a (suc n) ≡ range_with_len a n ++ (a + n) ∷ []
range_more a zero = let same : a ≡ a + 0 = omega arith in ap (λ (x : ℕ). x ∷ []) same
range_more a (suc n) =
    let same : a + 1 + n ≡ a + suc n = omega arith in
    ap (λ (xs : List ℕ). a ∷ xs) (range_more (a + 1) n) ∙ ap (λ (x : ℕ). a ∷ (range_with_len (a + 1) n ++ x ∷ [])) same

-- the blocks got so far are the first ones of the range
record ReadSoFar (b n : ℕ) (r : reading.Reading) (g : List ℕ) : Type 0 where
  ends : r.end ≡ b + n
  low : b ≤ r.at
  high : r.at ≤ r.end
  got : g ≡ range_with_len b (r.at - b)

-- what was got, by what a read still owes
Read : ℕ → ℕ → Option Plan → List ℕ → Type 0
Read b n None g = g ≡ []
Read b n (Some (Ending x)) g = succeeds x ≡ true → g ≡ range_with_len b n
Read b n (Some (Unread a)) g = Unit {0}
Read b n (Some (Reading r)) g = ReadSoFar b n r g
Read b n (Some Over) g = Unit {0}
Read b n (Some other) g = ⊥

-- the blocks got after a deed
got_by : List ℕ → Deed → List ℕ
got_by g (deed.Got a (Data v) dirty) = g ++ a.0 ∷ []
got_by g other = g

-- one block more
one_more : (b n a : ℕ) (r : reading.Reading) (g : List ℕ) → a ≡ r.at → r.at < r.end → ReadSoFar b n r g → ReadSoFar b n (record r { at = r.at + 1; hardened = false }) (g ++ a ∷ [])
one_more b n a r g is below i =
    let low : b ≤ r.at = i.low in
    let ends : r.end ≡ b + n = i.ends in
    let more : r.at + 1 - b ≡ suc (r.at - b) = omega arith in
    let here : b + (r.at - b) ≡ a = omega arith in
    record {
      ends = ends;
      low = omega arith;
      high = omega arith;
      got = ap (λ (xs : List ℕ). xs ++ a ∷ []) i.got ∙ ap (λ (x : ℕ). range_with_len b (r.at - b) ++ x ∷ []) (sym here)
          ∙ sym (range_more b (r.at - b)) ∙ ap (λ (k : ℕ). range_with_len b k) (sym more);
    }

-- each deed of a read keeps that
read_next : (b n : ℕ) (plan : Plan) (what : Deed) (after : Plan) (g : List ℕ) → next plan what ≡ Some after → Read b n (Some plan) g → Read b n (Some after) (got_by g what)
unfolding Read got_by
read_next b n (Ending x) (deed.Ended reply dirty) after g h i = subst (λ (p : Plan). Read b n (Some p) g) (when_is _ _ _ h).1 tt
read_next b n (Unread a) (deed.Ended reply dirty) after g h i = subst (λ (p : Plan). Read b n (Some p) g) (when_is _ _ _ h).1 tt
read_next b n (Reading r) (deed.Ended reply dirty) after g h i = subst (λ (p : Plan). Read b n (Some p) g) (when_is _ _ _ h).1 tt
read_next b n (Reading r) (deed.Got a Lost dirty) after g h i = subst (λ (p : Plan). Read b n (Some p) g) (when_is _ _ _ h).1 tt
read_next b n (Reading r) (deed.Hardened a) after g h i =
    subst (λ (p : Plan). Read b n (Some p) g) (when_is _ _ _ h).1 (record { ends = i.ends; low = i.low; high = i.high; got = i.got })
read_next b n (Reading r) (deed.Got a (Data v) dirty) after g h i =
    let may = when_is _ _ _ h in
    let first = both (a.0 == r.at && nat_lt r.at r.end) _ may.0 in
    let now = both (a.0 == r.at) (nat_lt r.at r.end) first.0 in
    subst (λ (p : Plan). Read b n (Some p) (g ++ a.0 ∷ [])) may.1 (one_more b n a.0 r g (eqb-true a.0 r.at now.0) (ltb-true r.at r.end now.1) i)
read_next b n (Answering bytes reply) what after g h i = absurd i
read_next b n Changing what after g h i = absurd i
read_next b n (Writing w) what after g h i = absurd i
read_next b n (Syncing s) what after g h i = absurd i
read_next b n (Moving m) what after g h i = absurd i
read_next b n plan what after g h i = absurd (cc)

-- a command and its deed
pub done_is : (d : ℕ) (x : Deed) (c : ℕ) (what : Deed) → done d x ≡ Some (record { c = c; what = what }) → (d ≡ c) × (x ≡ what)
done_is d x c what h =
    let left : Done = record { c = d; what = x } in
    let right : Done = record { c = c; what = what } in
    let same : left ≡ right = cc in
    (ap (λ (r : Done). r.c) same, ap (λ (r : Done). r.what) same)

-- which deed a page is
page_counts : (may : Bool) (c d : ℕ) (bytes : List ℕ) (what : Deed) (g : List ℕ) → cond may (done d (deed.Page bytes)) None ≡ Some (record { c = c; what = what }) → g ≡ got_by g what
unfolding got_by
page_counts true c d bytes what g h = ap (λ (w : Deed). got_by g w) (done_is d (deed.Page bytes) c what h).1
page_counts false c d bytes what g h = absurd (cc)

pages_count : (asks : Result Request Sense) (c d : ℕ) (bytes : List ℕ) (what : Deed) (g : List ℕ) → page_done asks d bytes ≡ Some (record { c = c; what = what }) → g ≡ got_by g what
unfolding got_by
pages_count (Ok (ReadDefectData primary grown format allocation)) c d bytes what g h = page_counts (has_defect_length allocation bytes) c d _ what g h
pages_count other c d bytes what g h = page_counts true c d bytes what g h

-- what is counted of an entry is what is counted of its deed
counts : (label : Label) (s : State) (e : Entry) (c : ℕ) (what : Deed) (g : List ℕ) → done_by label s e ≡ Some (record { c = c; what = what }) → got_after c g e ≡ got_by g what
unfolding got_by
counts label s (Get d b (Data v)) c what g h =
    let is = done_is d _ c what h in
    ap (λ (t : Bool). cond t (g ++ b.0 ∷ []) g) (eq-eqb c d (sym is.0)) ∙ ap (λ (w : Deed). got_by g w) is.1
counts label s (Get d b Lost) c what g h = ap (λ (w : Deed). got_by g w) (done_is d _ c what h).1
counts label s (Put d b v) c what g h = ap (λ (w : Deed). got_by g w) (done_is d _ c what h).1
counts label s (Harden (Command d) b) c what g h = ap (λ (w : Deed). got_by g w) (done_is d _ c what h).1
counts label s (Passed d from to) c what g h = ap (λ (w : Deed). got_by g w) (done_is d _ c what h).1
counts label s (Page d bytes) c what g h = pages_count (s.duties d).asks c d bytes what g h
counts label s (Ended d reply) c what g h = ap (λ (w : Deed). got_by g w) (done_is d _ c what h).1
counts (Work d) s (Mode settings) c what g h = ap (λ (w : Deed). got_by g w) (done_is d _ c what h).1
counts label s other c what g h = absurd (cc)

-- an entry that is no deed of the command isn't counted
idle : (label : Label) (s : State) (e : Entry) (c : ℕ) (g : List ℕ) → NotBy c (done_by label s e) → got_after c g e ≡ g
idle label s (Get d b (Data v)) c g h = ap (λ (t : Bool). cond t (g ++ b.0 ∷ []) g) h
idle label s (Get d b Lost) c g h = refl
idle label s other c g h = refl

-- what a read or a verification owes at its start fits nothing got
starts_reading : (corrupt empty through reports : Bool) (b n : ℕ) (g : List ℕ) → nat_eq n 0 ≡ empty → g ≡ []
    → Read b n (Some (cond corrupt (refusing (sense_of 3 0x31 0x00)) (unwrap_or (cond empty (Some (Ending good)) (Some (reading_from b (b + n) through reports))) Over))) g
unfolding Read
starts_reading true empty through reports b n g e is = λ h. absurd (cc)
starts_reading false true through reports b n g e is = λ h. is ∙ ap (λ (k : ℕ). range_with_len b k) (sym (eqb-true n 0 e))
starts_reading false false through reports b n g e is =
    let none : b - b ≡ 0 = omega arith in
    record { ends = refl; low = omega arith; high = omega arith; got = is ∙ ap (λ (k : ℕ). range_with_len b k) (sym none) }

begins_with : (capacity : ℕ) (s : State) (i : ℕ) (duty : Duty) (asks : Result Request Sense) (b n : ℕ) (g : List ℕ) → duty.asks ≡ asks
    → Read b n (Some (plan_unless_refused capacity s i duty.sent asks)) g → Read b n (Some (first_plan capacity s i duty)) g
unfolding Read
begins_with capacity s i duty asks b n g e h =
    at_start (λ (plan : Plan). Read b n (Some plan) g) (λ sense f k. absurd (true_not_false k f)) capacity s i duty asks e h

-- a command that asks to read so many blocks owes that
asks_to_read : (asks : Result Request Sense) (capacity : ℕ) (s : State) (i : ℕ) (sent : DataOut) (b n : ℕ) (g : List ℕ) → AsksToRead asks b n → g ≡ []
    → Read b n (Some (plan_unless_refused capacity s i sent asks)) g
asks_to_read (Ok (request.Read from count fua)) capacity s i sent b n g h is =
    rw (h.0, h.1) (starts_reading (s.corrupt && true) (nat_eq n 0) fua s.settings.per b n g refl is)
asks_to_read (Ok (request.Verify from count)) capacity s i sent b n g h is =
    rw (h.0, h.1) (starts_reading (s.corrupt && true) (nat_eq n 0) true s.settings.per b n g refl is)
asks_to_read asks capacity s i sent b n g h is = absurd h

-- one of two replies that don't succeed is no success
pub either_fails : (t : Bool) (reply x y : Reply) → same_reply reply x ≡ t → (t || same_reply reply y) ≡ true → succeeds x ≡ false → succeeds y ≡ false → succeeds reply ≡ true → ⊥
either_fails true reply x y e h fx fy k = not_same reply x e k fx
either_fails false reply x y e h fx fy k = not_same reply y h k fy

-- a write error is no success
pub write_error_fails : (b : ℕ) (reply : Reply) → is_write_error b reply ≡ true → succeeds reply ≡ true → ⊥
write_error_fails b reply h k =
    either_fails (same_reply reply (medium_error 0x0C 0x00 b)) reply (medium_error 0x0C 0x00 b) (medium_error 0x0C 0x02 b) refl h refl refl k

-- a read that ends with success is at its end
ends_at_end : (t : Bool) (r : reading.Reading) (reply : Reply) (dirty : Bool) → (r.at == r.end && (same_reply reply good || r.reports && is_recovered reply)) ≡ t
    → (t || (nat_lt r.at r.end && r.through && dirty && is_write_error r.at reply)) ≡ true → succeeds reply ≡ true → r.at ≡ r.end
ends_at_end true r reply dirty e h k = eqb-true r.at r.end (both (r.at == r.end) _ e).0
ends_at_end false r reply dirty e h k = absurd (write_error_fails r.at reply (both _ (is_write_error r.at reply) h).1 k)

-- what was got when the command ends
got_at_end : (b n : ℕ) (plan after : Plan) (reply : Reply) (dirty : Bool) (g : List ℕ) → next plan (deed.Ended reply dirty) ≡ Some after → succeeds reply ≡ true
    → Read b n (Some plan) g → g ≡ range_with_len b n
unfolding Read
got_at_end b n (Ending x) after reply dirty g h k i = i (sym (same_succeed reply x (when_is _ _ _ h).0) ∙ k)
got_at_end b n (Unread a) after reply dirty g h k i = absurd (not_same reply (unrecovered_read a) (when_is _ _ _ h).0 k refl)
got_at_end b n (Reading r) after reply dirty g h k i =
    let over : r.at ≡ r.end = ends_at_end _ r reply dirty refl (when_is _ _ _ h).0 k in
    let ends : r.end ≡ b + n = i.ends in
    let all : r.at - b ≡ n = omega arith in
    i.got ∙ ap (λ (m : ℕ). range_with_len b m) all
got_at_end b n Over after reply dirty g h k i = absurd (cc)
got_at_end b n (Answering bytes answer) after reply dirty g h k i = absurd i
got_at_end b n Changing after reply dirty g h k i = absurd i
got_at_end b n (Writing w) after reply dirty g h k i = absurd i
got_at_end b n (Syncing s) after reply dirty g h k i = absurd i
got_at_end b n (Moving m) after reply dirty g h k i = absurd i

-- an end that may come is no TASK SET FULL where it is a success
pub end_owed : (capacity c : ℕ) (label : Label) (s : State) (reply : Reply) → OkCases capacity label s (Ended c reply) → succeeds reply ≡ true → Owed s c (deed.Ended reply (names_dirty s reply))
end_owed capacity c label s reply (arriving h) k = absurd (not_same reply task_set_full (both (same_reply reply task_set_full) _ h).0 k refl)
end_owed capacity c label s reply (working h) k =
    owed s c (deed.Ended reply (names_dirty s reply)) (both (works_on label c) _ (both (works_on label c && is_owed label s (Ended c reply)) _ h).0).1

pub reads_get_each_block_once : OfTaskLegalHistories ReadsGetEachBlockOnce
unfolding Read
reads_get_each_block_once capacity waiting turns legal read b n asks success =
    let x = read.command in
    let c : ℕ = x.number in
    let request : Result Request Sense = asked capacity x in
    let end = until_its_end capacity c request x.sent (got_after c) (Read b n) (λ label s e g h. idle label s e c g h)
    (λ s duty g e f nothing. begins_with capacity s (initiator_of s c) duty request b n g e
    (asks_to_read request capacity s (initiator_of s c) duty.sent b n g asks nothing))
    (λ label s e g what plan later by lawful follows so_far. subst (λ (gs : List ℕ). Read b n (Some later) gs) (sym (counts label s e c what g by))
    (read_next b n plan what later g follows so_far))
    (λ d r g. refl) waiting turns read.before read.between read.behind x.initiator x.tag x.attribute x.cdb read.reply [] legal read.whole refl refl in
    let o = end_owed capacity c end.label end.state read.reply end.ok success in
    got_at_end b n o.before o.after read.reply _ (blocks_got c read.between) o.follows success
    (subst (λ (p : Option Plan). Read b n p (blocks_got c read.between)) o.owes end.inv.plan)
