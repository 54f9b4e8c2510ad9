-- A write of any kind that succeeds put each of its blocks.
use Rattle.std.proofs.Common.{◌≡◌, ◌∙◌, ap, sym, subst, refl, ℕ, suc, ◌+◌, ◌-◌, ◌<◌, ◌≤◌, Bool, true, false, not, cond, nat_eq, List, [], ◌∷◌, ◌++◌, arith}
use Rattle.std.specs.Prelude.{◌&&◌, ◌||◌, ◌==◌, fold, unwrap_or, Option, Some, Result, Ok}
use Rattle.std.proofs.lemmas.Bool.{eqb-true}
use Rattle.disk_base.specs.declared.block.Value.TheVariants.{Data, Lost}
use Rattle.disk_base.specs.declared.command.DataOut.{DataOut}
use Rattle.sense_data.specs.declared.sense.Sense.{Sense}
use Rattle.sense_data.specs.declared.reply.Reply.{Reply}
use Rattle.sense_data.specs.Sense.{sense_of}
use Rattle.cdb_reader.specs.declared.plan.Writing as writing
use Rattle.cdb_reader.specs.declared.plan.Plan.{Plan}
use Rattle.cdb_reader.specs.declared.plan.Plan.TheVariants.{Ending, Unread, Answering, Changing, Reading, Writing, Syncing, Moving, Over}
use Rattle.cdb_reader.specs.declared.plan.Deed.{Deed}
use Rattle.cdb_reader.specs.declared.plan.Deed.TheVariants as deed
use Rattle.cdb_reader.specs.Plan.{next, reading_from, writing_from, after_written}
use Rattle.cdb_reader.specs.Replies.{good, unrecovered_read}
use Rattle.cdb_reader.specs.Request.{Request}
use Rattle.cdb_reader.specs.Request as request
use Rattle.block_machine.specs.declared.entry.Who.TheVariants.{Command, Drive}
use Rattle.block_machine.specs.declared.entry.Entry.{Entry}
use Rattle.block_machine.specs.declared.entry.Entry.TheVariants.{Put, Harden, Passed}
use Rattle.block_machine.specs.State.{State, Duty, initiator_of}
use Rattle.block_machine.specs.Plans.{first_plan, plan_unless_refused, refusing}
use Rattle.block_machine.specs.Laws.{OfTaskLegalHistories, Mark, Wrote, Forced, Found, marks_after, marks_of, succeeds}
use Rattle.block_machine.specs.Lives.{Written, puts_after, blocks_sent, AsksToWrite, WritesPutEachBlockOnce}
use Rattle.block_machine.specs.Parts.{asked}
use Rattle.block_machine.proofs.Alongs.{fold_both}
use Rattle.block_machine.proofs.Replies.{when_is, same_succeed, not_same, at_start}
use Rattle.block_machine.proofs.ReadLaw.{end_owed}
use Rattle.block_machine.proofs.WriteSteps.{IsWithin, first_within, owing_within, next_within, last_one, sent_here, PutNext, put_next, harden_next, whole_at_end}
use Rattle.block_machine.proofs.SinceStart.{Runs, from_its_start}
use Rattle.block_machine.proofs.WriteLaw.{marks_by, marks, unmarked}
use Rattle.block_machine.proofs.Booleans.{true_not_false}

-- what was put, of the marks that a command left
put_in : List Written → Mark → List Written
put_in puts (Wrote b block) = puts ++ record { at = b; block = block } ∷ []
put_in puts other = puts

puts_in : List Mark → List Written
puts_in marks = fold put_in [] marks

one_mark : (g : List Mark) (m : Mark) → puts_in (g ++ m ∷ []) ≡ put_in (puts_in g) m
unfolding puts_in
one_mark g m = fold_both put_in [] g (m ∷ [])

mark_if : (t : Bool) (g : List Mark) (m : Mark) → puts_in (cond t (g ++ m ∷ []) g) ≡ cond t (put_in (puts_in g) m) (puts_in g)
mark_if true g m = one_mark g m
mark_if false g m = refl

none_if : (t : Bool) (xs : List Written) → cond t xs xs ≡ xs
none_if true xs = refl
none_if false xs = refl

one_entry : (c : ℕ) (g : List Mark) (e : Entry) → puts_in (marks_after c g e) ≡ puts_after c (puts_in g) e
unfolding put_in
one_entry c g (Put d b v) = mark_if (nat_eq c d) g (Wrote b.0 v)
one_entry c g (Harden (Command d) b) = mark_if (nat_eq c d) g (Forced b.0) ∙ none_if (nat_eq c d) (puts_in g)
one_entry c g (Passed d from to) = mark_if (nat_eq c d) g (Found from.0 to.0) ∙ none_if (nat_eq c d) (puts_in g)
one_entry c g (Harden Drive b) = refl
one_entry c g other = refl

all_entries : (c : ℕ) (g : List Mark) (entries : List Entry) → puts_in (fold (marks_after c) g entries) ≡ fold (puts_after c) (puts_in g) entries
all_entries c g [] = refl
all_entries c g (e ∷ entries) = all_entries c (marks_after c g e) entries ∙ ap (λ (h : List Written). fold (puts_after c) h entries) (one_entry c g e)

-- what was put after a deed
put_by : List Written → Deed → List Written
put_by h (deed.Put b block full) = h ++ record { at = b.0; block = block } ∷ []
put_by h other = h

one_deed : (g : List Mark) (what : Deed) → puts_in (marks_by g what) ≡ put_by (puts_in g) what
unfolding marks_by put_by put_in
one_deed g (deed.Put b block full) = one_mark g (Wrote b.0 block)
one_deed g (deed.Hardened b) = one_mark g (Forced b.0)
one_deed g (deed.Passed from to) = one_mark g (Found from.0 to.0)
one_deed g other = refl

-- the blocks put so far are the first ones of the range, the next included where it is still to be hardened
record PutSoFar (b n : ℕ) (sent : DataOut) (w : writing.Writing) (h : List Written) : Type 0 where
  within : IsWithin b n sent w
  put : w.owes_harden ≡ true → h ≡ blocks_sent b sent (suc (w.at - b))
  so_far : w.owes_harden ≡ false → h ≡ blocks_sent b sent (w.at - b)

-- what was put, by what a write still owes
Puts : ℕ → ℕ → DataOut → Plan → List Written → Type 0
Puts b n sent (Ending x) h = succeeds x ≡ true → h ≡ blocks_sent b sent n
Puts b n sent (Unread a) h = Unit {0}
Puts b n sent (Writing w) h = PutSoFar b n sent w h
Puts b n sent (Reading r) h = h ≡ blocks_sent b sent n
Puts b n sent Over h = Unit {0}
Puts b n sent other h = ⊥

-- a block is put
one_put : (b n a : ℕ) (sent : DataOut) (w : writing.Writing) (block : List ℕ) (full : Bool) (after : Plan) (h : List Written) → PutNext w a block full after → PutSoFar b n sent w h
    → h ++ record { at = a; block = block } ∷ [] ≡ blocks_sent b sent (suc (w.at - b))
one_put b n a sent w block full after h p i =
    let low : b ≤ w.at = i.within.low in
    let is : a ≡ w.at = p.here in
    let here : a ≡ b + (w.at - b) = omega arith in
    let done : List Written = blocks_sent b sent (w.at - b) in
    ap (λ (xs : List Written). xs ++ record { at = a; block = block } ∷ []) (i.so_far p.idle)
    ∙ ap (λ (x : ℕ). done ++ record { at = x; block = block } ∷ []) here
    ∙ ap (λ (x : List ℕ). done ++ record { at = b + (w.at - b); block = x } ∷ []) (sent_here b n sent w block p.same i.within)

-- what is owed after a block
after_block : (last : Bool) (b n : ℕ) (sent : DataOut) (w : writing.Writing) (h : List Written) → (w.verifies && w.at + 1 == w.end) ≡ last → w.at < w.end → IsWithin b n sent w
    → h ≡ blocks_sent b sent (suc (w.at - b))
    → Puts b n sent (cond last (reading_from w.from w.end true w.reports) (Writing (record w { at = w.at + 1; owes_harden = false }))) h
unfolding Puts
after_block true b n sent w h e below i is = is ∙ ap (λ (k : ℕ). blocks_sent b sent k) (last_one b n sent w e i)
after_block false b n sent w h e below i is =
    let low : b ≤ w.at = i.low in
    let more : suc (w.at - b) ≡ w.at + 1 - b = omega arith in
    record { within = next_within b n sent w below i; put = λ k. absurd (cc); so_far = λ k. is ∙ ap (λ (k : ℕ). blocks_sent b sent k) more }

put_more : (through : Bool) (b n : ℕ) (sent : DataOut) (w : writing.Writing) (h : List Written) → w.at < w.end → IsWithin b n sent w → h ≡ blocks_sent b sent (suc (w.at - b))
    → Puts b n sent (cond through (Writing (record w { owes_harden = true })) (after_written w)) h
unfolding Puts
put_more true b n sent w h below i is = record { within = owing_within b n sent w i; put = λ k. is; so_far = λ k. absurd (cc) }
put_more false b n sent w h below i is = after_block (w.verifies && w.at + 1 == w.end) b n sent w h refl below i is

-- each deed of a write keeps that
puts_next : (b n : ℕ) (sent : DataOut) (plan : Plan) (what : Deed) (after : Plan) (h : List Written) → next plan what ≡ Some after → Puts b n sent plan h
    → Puts b n sent after (put_by h what)
unfolding Puts put_by
puts_next b n sent (Ending x) (deed.Ended reply dirty) after h k i = subst (λ (p : Plan). Puts b n sent p h) (when_is _ _ _ k).1 tt
puts_next b n sent (Unread a) (deed.Ended reply dirty) after h k i = subst (λ (p : Plan). Puts b n sent p h) (when_is _ _ _ k).1 tt
puts_next b n sent (Reading r) (deed.Ended reply dirty) after h k i = subst (λ (p : Plan). Puts b n sent p h) (when_is _ _ _ k).1 tt
puts_next b n sent (Writing w) (deed.Ended reply dirty) after h k i = subst (λ (p : Plan). Puts b n sent p h) (when_is _ _ _ k).1 tt
puts_next b n sent (Reading r) (deed.Got a Lost dirty) after h k i = subst (λ (p : Plan). Puts b n sent p h) (when_is _ _ _ k).1 tt
puts_next b n sent (Reading r) (deed.Got a (Data v) dirty) after h k i = subst (λ (p : Plan). Puts b n sent p h) (when_is _ _ _ k).1 i
puts_next b n sent (Reading r) (deed.Hardened a) after h k i = subst (λ (p : Plan). Puts b n sent p h) (when_is _ _ _ k).1 i
puts_next b n sent (Writing w) (deed.Put a block full) after h k i =
    let p = put_next w a block full after k in
    subst (λ (p : Plan). Puts b n sent p (h ++ record { at = a.0; block = block } ∷ [])) p.leaves
    (put_more (w.through || full) b n sent w _ p.below i.within (one_put b n a.0 sent w block full after h p i))
puts_next b n sent (Writing w) (deed.Hardened a) after h k i =
    let p = harden_next w a after k in
    subst (λ (p : Plan). Puts b n sent p h) p.leaves
    (after_block (w.verifies && w.at + 1 == w.end) b n sent w h refl p.below i.within (i.put p.owing))
puts_next b n sent (Answering bytes reply) what after h k i = absurd i
puts_next b n sent Changing what after h k i = absurd i
puts_next b n sent (Syncing s) what after h k i = absurd i
puts_next b n sent (Moving m) what after h k i = absurd i
puts_next b n sent plan what after h k i = absurd (cc)

-- what a write owes at its start fits nothing put
starts_writing : (corrupt empty through verifies reports : Bool) (b n : ℕ) (sent : DataOut) → nat_eq n 0 ≡ empty
    → Puts b n sent (cond corrupt (refusing (sense_of 3 0x31 0x00)) (unwrap_or (cond empty (Some (Ending good)) (Some (writing_from b n sent through verifies reports))) Over)) []
unfolding Puts
starts_writing true empty through verifies reports b n sent e = λ h. absurd (cc)
starts_writing false true through verifies reports b n sent e = λ h. ap (λ (k : ℕ). blocks_sent b sent k) (sym (eqb-true n 0 e))
starts_writing false false through verifies reports b n sent e =
    let none : b - b ≡ 0 = omega arith in
    record {
      within = first_within b n sent _ refl refl refl refl;
      put = λ h. absurd (cc);
      so_far = λ h. ap (λ (k : ℕ). blocks_sent b sent k) (sym none);
    }

begins_with : (capacity : ℕ) (s : State) (i : ℕ) (duty : Duty) (asks : Result Request Sense) (b n : ℕ) (sent : DataOut) → duty.asks ≡ asks
    → Puts b n sent (plan_unless_refused capacity s i duty.sent asks) [] → Puts b n sent (first_plan capacity s i duty) []
unfolding Puts
begins_with capacity s i duty asks b n sent e h =
    at_start (λ (plan : Plan). Puts b n sent plan []) (λ sense f k. absurd (true_not_false k f)) capacity s i duty asks e h

asks_to_write : (asks : Result Request Sense) (capacity : ℕ) (s : State) (i : ℕ) (sent : DataOut) (b n : ℕ) → AsksToWrite asks b n
    → Puts b n sent (plan_unless_refused capacity s i sent asks) []
asks_to_write (Ok (request.Write from count fua)) capacity s i sent b n h =
    rw (h.0, h.1) (starts_writing (s.corrupt && true) (nat_eq n 0) (not s.settings.wce || fua) false s.settings.per b n sent refl)
asks_to_write (Ok (request.WriteAndVerify from count)) capacity s i sent b n h =
    rw (h.0, h.1) (starts_writing (s.corrupt && true) (nat_eq n 0) true true s.settings.per b n sent refl)
asks_to_write asks capacity s i sent b n h = absurd h

put_at_end : (b n : ℕ) (sent : DataOut) (plan after : Plan) (reply : Reply) (dirty : Bool) (h : List Written) → next plan (deed.Ended reply dirty) ≡ Some after → succeeds reply ≡ true
    → Puts b n sent plan h → h ≡ blocks_sent b sent n
unfolding Puts
put_at_end b n sent (Ending x) after reply dirty h k success i = i (sym (same_succeed reply x (when_is _ _ _ k).0) ∙ success)
put_at_end b n sent (Unread a) after reply dirty h k success i = absurd (not_same reply (unrecovered_read a) (when_is _ _ _ k).0 success refl)
put_at_end b n sent (Reading r) after reply dirty h k success i = i
put_at_end b n sent (Writing w) after reply dirty h k success i =
    let whole = whole_at_end b n sent w after reply dirty k success i.within in
    i.so_far whole.0 ∙ ap (λ (m : ℕ). blocks_sent b sent m) whole.1
put_at_end b n sent Over after reply dirty h k success i = absurd (cc)
put_at_end b n sent (Answering bytes answer) after reply dirty h k success i = absurd i
put_at_end b n sent Changing after reply dirty h k success i = absurd i
put_at_end b n sent (Syncing s) after reply dirty h k success i = absurd i
put_at_end b n sent (Moving m) after reply dirty h k success i = absurd i

-- the same of the marks that a write left
Marked : ℕ → ℕ → DataOut → Plan → List Mark → Type 0
Marked b n sent plan g = Puts b n sent plan (puts_in g)

pub writes_put_each_block_once : OfTaskLegalHistories WritesPutEachBlockOnce
unfolding Marked puts_in
writes_put_each_block_once capacity waiting turns legal write b n asks success =
    let x = write.command in
    let c : ℕ = x.number in
    let request : Result Request Sense = asked capacity x in
    let end = from_its_start capacity c request x.sent (marks_after c) (Marked b n x.sent) (λ label s e g h. unmarked label s e c g h)
    (λ label s e g what plan later by lawful follows so_far. subst (λ (m : List Mark). Marked b n x.sent later m) (sym (marks label s e c what g by))
    (subst (λ (h : List Written). Puts b n x.sent later h) (sym (one_deed g what)) (puts_next b n x.sent plan what later (puts_in g) follows so_far)))
    (λ d r g. refl) waiting turns write.before write.queued write.during write.behind x.initiator x.tag x.attribute x.cdb write.reply [] legal write.whole refl
    (λ s duty settings e f. begins_with capacity s (initiator_of s c) duty request b n x.sent e
    (subst (λ (d : DataOut). Puts b n x.sent (plan_unless_refused capacity s (initiator_of s c) d request) []) (sym f)
    (asks_to_write request capacity s (initiator_of s c) x.sent b n asks))) in
    let o = end_owed capacity c end.0.label end.0.state write.reply end.0.ok success in
    sym (all_entries c [] write.during)
    ∙ put_at_end b n x.sent o.before o.after write.reply _ (puts_in (marks_of c write.during)) o.follows success
    (subst (λ (p : Option Plan). Runs (Marked b n x.sent) p (marks_of c write.during)) o.owes end.0.inv.plan)
