-- A write that goes through and succeeds has put and hardened each of its blocks.
use Rattle.std.proofs.Common.{◌≡◌, ◌∙◌, ap, sym, subst, refl, ℕ, suc, ◌+◌, ◌-◌, ◌<◌, ◌≤◌, Bool, true, false, not, cond, nat_eq, List, [], ◌∷◌, ◌++◌, append_assoc, arith}
use Rattle.std.specs.Prelude.{◌&&◌, ◌||◌, ◌==◌, unwrap_or, Option, Some, None, Result, Ok}
use Rattle.std.specs.List.{list_all}
use Rattle.std.proofs.lemmas.Bool.{eq-eqb, eqb-true}
use Rattle.disk_base.specs.declared.block.Value.TheVariants.{Data, Lost}
use Rattle.disk_base.specs.declared.command.DataOut.{DataOut}
use Rattle.sense_data.specs.declared.sense.Sense.{Sense}
use Rattle.sense_data.specs.declared.reply.Reply.{Reply}
use Rattle.sense_data.specs.Sense.{sense_of}
use Rattle.cdb_reader.specs.declared.plan.Writing as writing
use Rattle.cdb_reader.specs.declared.plan.Plan.{Plan}
use Rattle.cdb_reader.specs.declared.plan.Plan.TheVariants.{Ending, Unread, Answering, Changing, Reading, Writing, Syncing, Moving, Over}
use Rattle.cdb_reader.specs.declared.plan.Deed.{Deed}
use Rattle.cdb_reader.specs.declared.plan.Deed.TheVariants as deed
use Rattle.cdb_reader.specs.Plan.{next, reading_from, writing_from, after_written, block_of}
use Rattle.cdb_reader.specs.Replies.{good, unrecovered_read}
use Rattle.cdb_reader.specs.Request.{Request, ReadDefectData}
use Rattle.cdb_reader.specs.Request as request
use Rattle.block_machine.specs.declared.entry.Who.TheVariants.{Command, Drive}
use Rattle.block_machine.specs.declared.entry.Entry.{Entry}
use Rattle.block_machine.specs.declared.entry.Entry.TheVariants.{Get, Put, Harden, Passed, Page, Ended, Mode}
use Rattle.block_machine.specs.declared.turn.Label.{Label}
use Rattle.block_machine.specs.declared.turn.Label.TheVariants.{Work}
use Rattle.mode_pages.specs.declared.settings.Settings.{Settings}
use Rattle.block_machine.specs.State.{State, Duty, initiator_of}
use Rattle.block_machine.specs.Plans.{first_plan, plan_unless_refused, refusing}
use Rattle.block_machine.specs.DriveOnly.{has_defect_length}
use Rattle.block_machine.specs.Deeds.{done, done_by, page_done}
use Rattle.block_machine.specs.Laws.{OfTaskLegalHistories, Mark, Wrote, Forced, Found, marks_after, marks_of, written_through, is_forced, succeeds, AsksToForce, ForcedWritesAreHardened}
use Rattle.block_machine.specs.Parts.{asked}
use Rattle.block_machine.proofs.Replies.{when_is, same_succeed, not_same, at_start}
use Rattle.block_machine.proofs.ReadLaw.{done_is, end_owed}
use Rattle.block_machine.proofs.WriteSteps.{IsWithin, first_within, owing_within, next_within, last_one, sent_here, PutNext, put_next, harden_next, whole_at_end}
use Rattle.block_machine.proofs.OneCommand.{NotBy}
use Rattle.block_machine.proofs.SinceStart.{Runs, from_its_start}
use Rattle.block_machine.proofs.Booleans.{and_both, both, true_not_false}

-- the marks after a deed
unfoldable pub marks_by : List Mark → Deed → List Mark
marks_by g (deed.Put b block full) = g ++ Wrote b.0 block ∷ []
marks_by g (deed.Hardened b) = g ++ Forced b.0 ∷ []
marks_by g (deed.Passed from to) = g ++ Found from.0 to.0 ∷ []
marks_by g other = g

page_marks : (may : Bool) (c d : ℕ) (bytes : List ℕ) (what : Deed) (g : List Mark) → cond may (done d (deed.Page bytes)) None ≡ Some (record { c = c; what = what }) → g ≡ marks_by g what
unfolding marks_by
page_marks true c d bytes what g h = ap (λ (w : Deed). marks_by g w) (done_is d (deed.Page bytes) c what h).1
page_marks false c d bytes what g h = absurd (cc)

pages_mark : (asks : Result Request Sense) (c d : ℕ) (bytes : List ℕ) (what : Deed) (g : List Mark) → page_done asks d bytes ≡ Some (record { c = c; what = what }) → g ≡ marks_by g what
unfolding marks_by
pages_mark (Ok (ReadDefectData primary grown format allocation)) c d bytes what g h = page_marks (has_defect_length allocation bytes) c d _ what g h
pages_mark other c d bytes what g h = page_marks true c d bytes what g h

-- an entry of the command leaves the mark of its deed
mark_here : (c d : ℕ) (g : List Mark) (m : Mark) → d ≡ c → cond (nat_eq c d) (g ++ m ∷ []) g ≡ g ++ m ∷ []
mark_here c d g m e = ap (λ (t : Bool). cond t (g ++ m ∷ []) g) (eq-eqb c d (sym e))

pub marks : (label : Label) (s : State) (e : Entry) (c : ℕ) (what : Deed) (g : List Mark) → done_by label s e ≡ Some (record { c = c; what = what }) → marks_after c g e ≡ marks_by g what
unfolding marks_by
marks label s (Get d b v) c what g h = ap (λ (w : Deed). marks_by g w) (done_is d _ c what h).1
marks label s (Put d b v) c what g h = let is = done_is d _ c what h in mark_here c d g (Wrote b.0 v) is.0 ∙ ap (λ (w : Deed). marks_by g w) is.1
marks label s (Harden (Command d) b) c what g h = let is = done_is d _ c what h in mark_here c d g (Forced b.0) is.0 ∙ ap (λ (w : Deed). marks_by g w) is.1
marks label s (Passed d from to) c what g h = let is = done_is d _ c what h in mark_here c d g (Found from.0 to.0) is.0 ∙ ap (λ (w : Deed). marks_by g w) is.1
marks label s (Page d bytes) c what g h = pages_mark (s.duties d).asks c d bytes what g h
marks label s (Ended d reply) c what g h = ap (λ (w : Deed). marks_by g w) (done_is d _ c what h).1
marks (Work d) s (Mode settings) c what g h = ap (λ (w : Deed). marks_by g w) (done_is d _ c what h).1
marks label s other c what g h = absurd (cc)

pub unmarked : (label : Label) (s : State) (e : Entry) (c : ℕ) (g : List Mark) → NotBy c (done_by label s e) → marks_after c g e ≡ g
unmarked label s (Put d b v) c g h = ap (λ (t : Bool). cond t (g ++ Wrote b.0 v ∷ []) g) h
unmarked label s (Harden (Command d) b) c g h = ap (λ (t : Bool). cond t (g ++ Forced b.0 ∷ []) g) h
unmarked label s (Passed d from to) c g h = ap (λ (t : Bool). cond t (g ++ Found from.0 to.0 ∷ []) g) h
unmarked label s (Harden Drive b) c g h = refl
unmarked label s other c g h = refl

-- all blocks are written, and then some hardened
record AllWritten (b n : ℕ) (sent : DataOut) (g : List Mark) : Type 0 where
  rest : List Mark
  is : g ≡ written_through b sent n ++ rest
  forced : list_all is_forced rest ≡ true

-- the blocks written so far are the first ones of the range, with or without the put of the next
record WrittenSoFar (b n : ℕ) (sent : DataOut) (w : writing.Writing) (g : List Mark) : Type 0 where
  within : IsWithin b n sent w
  through : w.through ≡ true
  put : w.owes_harden ≡ true → g ≡ written_through b sent (w.at - b) ++ Wrote w.at (block_of sent (w.at - b)) ∷ []
  done_so_far : w.owes_harden ≡ false → g ≡ written_through b sent (w.at - b)

-- what was done, by what a write that goes through still owes
Write : ℕ → ℕ → DataOut → Plan → List Mark → Type 0
Write b n sent (Ending x) g = succeeds x ≡ true → AllWritten b n sent g
Write b n sent (Unread a) g = Unit {0}
Write b n sent (Writing w) g = WrittenSoFar b n sent w g
Write b n sent (Reading r) g = AllWritten b n sent g
Write b n sent Over g = Unit {0}
Write b n sent other g = ⊥

append_nil : {X : Type 0} (xs : List X) → xs ++ [] ≡ xs
append_nil [] = refl
append_nil (x ∷ xs) = ap (λ (ys : List _). x ∷ ys) (append_nil xs)

-- nothing besides
exactly : (b n : ℕ) (sent : DataOut) (g : List Mark) → g ≡ written_through b sent n → AllWritten b n sent g
exactly b n sent g is = record { rest = []; is = is ∙ sym (append_nil _); forced = refl }

-- one more is hardened
all_append : (xs : List Mark) (b : ℕ) → list_all is_forced xs ≡ true → list_all is_forced (xs ++ Forced b ∷ []) ≡ true
all_append [] b h = refl
all_append (x ∷ xs) b h = let now = both (is_forced x) _ h in and_both (is_forced x) _ now.0 (all_append xs b now.1)

harden_more : (b n a : ℕ) (sent : DataOut) (g : List Mark) → AllWritten b n sent g → AllWritten b n sent (g ++ Forced a ∷ [])
harden_more b n a sent g i = record {
  rest = i.rest ++ Forced a ∷ [];
  is = ap (λ (xs : List Mark). xs ++ Forced a ∷ []) i.is ∙ append_assoc (written_through b sent n) i.rest (Forced a ∷ []);
  forced = all_append i.rest a i.forced;
}

-- a block is put
put_more : (b n a : ℕ) (sent : DataOut) (w : writing.Writing) (block : List ℕ) (full : Bool) (after : Plan) (g : List Mark) → PutNext w a block full after → WrittenSoFar b n sent w g
    → WrittenSoFar b n sent (record w { owes_harden = true }) (g ++ Wrote a block ∷ [])
put_more b n a sent w block full after g p i =
    let done : List Mark = written_through b sent (w.at - b) in
    record {
      within = owing_within b n sent w i.within;
      through = i.through;
      put = λ h. ap (λ (xs : List Mark). xs ++ Wrote a block ∷ []) (i.done_so_far p.idle)
          ∙ ap (λ (x : ℕ). done ++ Wrote x block ∷ []) p.here
          ∙ ap (λ (x : List ℕ). done ++ Wrote w.at x ∷ []) (sent_here b n sent w block p.same i.within);
      done_so_far = λ h. absurd (cc);
    }

-- .. and hardened
hardened_marks : (b n a : ℕ) (sent : DataOut) (w : writing.Writing) (g : List Mark) → a ≡ w.at → w.owes_harden ≡ true → WrittenSoFar b n sent w g
    → g ++ Forced a ∷ [] ≡ written_through b sent (suc (w.at - b))
hardened_marks b n a sent w g is owes i =
    let low : b ≤ w.at = i.within.low in
    let here : b + (w.at - b) ≡ w.at = omega arith in
    let done : List Mark = written_through b sent (w.at - b) in
    let block : List ℕ = block_of sent (w.at - b) in
    ap (λ (xs : List Mark). xs ++ Forced a ∷ []) (i.put owes)
    ∙ append_assoc done (Wrote w.at block ∷ []) (Forced a ∷ [])
    ∙ ap (λ (x : ℕ). done ++ Wrote w.at block ∷ Forced x ∷ []) is
    ∙ ap (λ (x : ℕ). done ++ Wrote x block ∷ Forced x ∷ []) (sym here)

harden_last : (last : Bool) (b n a : ℕ) (sent : DataOut) (w : writing.Writing) (g : List Mark) → (w.verifies && w.at + 1 == w.end) ≡ last → a ≡ w.at → w.at < w.end → w.owes_harden ≡ true
    → WrittenSoFar b n sent w g
    → Write b n sent (cond last (reading_from w.from w.end true w.reports) (Writing (record w { at = w.at + 1; owes_harden = false }))) (g ++ Forced a ∷ [])
unfolding Write
harden_last true b n a sent w g e is below owes i =
    exactly b n sent (g ++ Forced a ∷ []) (hardened_marks b n a sent w g is owes i ∙ ap (λ (k : ℕ). written_through b sent k) (last_one b n sent w e i.within))
harden_last false b n a sent w g e is below owes i =
    let low : b ≤ w.at = i.within.low in
    let more : suc (w.at - b) ≡ w.at + 1 - b = omega arith in
    record {
      within = next_within b n sent w below i.within;
      through = i.through;
      put = λ h. absurd (cc);
      done_so_far = λ h. hardened_marks b n a sent w g is owes i ∙ ap (λ (k : ℕ). written_through b sent k) more;
    }

-- each deed of a write that goes through keeps that
write_next : (b n : ℕ) (sent : DataOut) (plan : Plan) (what : Deed) (after : Plan) (g : List Mark) → next plan what ≡ Some after → Write b n sent plan g
    → Write b n sent after (marks_by g what)
unfolding Write marks_by
write_next b n sent (Ending x) (deed.Ended reply dirty) after g h i = subst (λ (p : Plan). Write b n sent p g) (when_is _ _ _ h).1 tt
write_next b n sent (Unread a) (deed.Ended reply dirty) after g h i = subst (λ (p : Plan). Write b n sent p g) (when_is _ _ _ h).1 tt
write_next b n sent (Reading r) (deed.Ended reply dirty) after g h i = subst (λ (p : Plan). Write b n sent p g) (when_is _ _ _ h).1 tt
write_next b n sent (Writing w) (deed.Ended reply dirty) after g h i = subst (λ (p : Plan). Write b n sent p g) (when_is _ _ _ h).1 tt
write_next b n sent (Reading r) (deed.Got a Lost dirty) after g h i = subst (λ (p : Plan). Write b n sent p g) (when_is _ _ _ h).1 tt
write_next b n sent (Reading r) (deed.Got a (Data v) dirty) after g h i = subst (λ (p : Plan). Write b n sent p g) (when_is _ _ _ h).1 i
write_next b n sent (Reading r) (deed.Hardened a) after g h i =
    subst (λ (p : Plan). Write b n sent p (g ++ Forced a.0 ∷ [])) (when_is _ _ _ h).1 (harden_more b n a.0 sent g i)
write_next b n sent (Writing w) (deed.Put a block full) after g h i =
    let p = put_next w a block full after h in
    let through : cond (w.through || full) (Writing (record w { owes_harden = true })) (after_written w) ≡ Writing (record w { owes_harden = true }) =
    ap (λ (t : Bool). cond (t || full) (Writing (record w { owes_harden = true })) (after_written w)) i.through in
    subst (λ (p : Plan). Write b n sent p (g ++ Wrote a.0 block ∷ [])) (sym through ∙ p.leaves) (put_more b n a.0 sent w block full after g p i)
write_next b n sent (Writing w) (deed.Hardened a) after g h i =
    let p = harden_next w a after h in
    subst (λ (p : Plan). Write b n sent p (g ++ Forced a.0 ∷ [])) p.leaves
    (harden_last (w.verifies && w.at + 1 == w.end) b n a.0 sent w g refl p.here p.below p.owing i)
write_next b n sent (Answering bytes reply) what after g h i = absurd i
write_next b n sent Changing what after g h i = absurd i
write_next b n sent (Syncing s) what after g h i = absurd i
write_next b n sent (Moving m) what after g h i = absurd i
write_next b n sent plan what after g h i = absurd (cc)

-- what such a write owes at its start fits nothing done
starts_writing : (corrupt empty verifies reports : Bool) (b n : ℕ) (sent : DataOut) (g : List Mark) (through : Bool) → nat_eq n 0 ≡ empty → through ≡ true → g ≡ []
    → Write b n sent (cond corrupt (refusing (sense_of 3 0x31 0x00)) (unwrap_or (cond empty (Some (Ending good)) (Some (writing_from b n sent through verifies reports))) Over)) g
unfolding Write
starts_writing true empty verifies reports b n sent g through e f is = λ h. absurd (cc)
starts_writing false true verifies reports b n sent g through e f is = λ h. exactly b n sent g (is ∙ ap (λ (k : ℕ). written_through b sent k) (sym (eqb-true n 0 e)))
starts_writing false false verifies reports b n sent g through e f is =
    let none : b - b ≡ 0 = omega arith in
    record {
      within = first_within b n sent _ refl refl refl refl;
      through = f;
      put = λ h. absurd (cc);
      done_so_far = λ h. is ∙ ap (λ (k : ℕ). written_through b sent k) (sym none);
    }

begins_with : (capacity : ℕ) (s : State) (i : ℕ) (duty : Duty) (asks : Result Request Sense) (b n : ℕ) (sent : DataOut) (g : List Mark) → duty.asks ≡ asks
    → Write b n sent (plan_unless_refused capacity s i duty.sent asks) g → Write b n sent (first_plan capacity s i duty) g
unfolding Write
begins_with capacity s i duty asks b n sent g e h =
    at_start (λ (plan : Plan). Write b n sent plan g) (λ sense f k. absurd (true_not_false k f)) capacity s i duty asks e h

asks_to_force : (asks : Result Request Sense) (capacity : ℕ) (s : State) (i : ℕ) (sent : DataOut) (b n : ℕ) (g : List Mark) → AsksToForce asks s.settings b n → g ≡ []
    → Write b n sent (plan_unless_refused capacity s i sent asks) g
asks_to_force (Ok (request.Write from count fua)) capacity s i sent b n g h is =
    rw (h.0, h.1) (starts_writing (s.corrupt && true) (nat_eq n 0) false s.settings.per b n sent g (not s.settings.wce || fua) refl h.2 is)
asks_to_force (Ok (request.WriteAndVerify from count)) capacity s i sent b n g h is =
    rw (h.0, h.1) (starts_writing (s.corrupt && true) (nat_eq n 0) true s.settings.per b n sent g true refl refl is)
asks_to_force asks capacity s i sent b n g h is = absurd h

written_at_end : (b n : ℕ) (sent : DataOut) (plan after : Plan) (reply : Reply) (dirty : Bool) (g : List Mark) → next plan (deed.Ended reply dirty) ≡ Some after → succeeds reply ≡ true
    → Write b n sent plan g → AllWritten b n sent g
unfolding Write
written_at_end b n sent (Ending x) after reply dirty g h k i = i (sym (same_succeed reply x (when_is _ _ _ h).0) ∙ k)
written_at_end b n sent (Unread a) after reply dirty g h k i = absurd (not_same reply (unrecovered_read a) (when_is _ _ _ h).0 k refl)
written_at_end b n sent (Reading r) after reply dirty g h k i = i
written_at_end b n sent (Writing w) after reply dirty g h k i =
    let whole = whole_at_end b n sent w after reply dirty h k i.within in
    exactly b n sent g (i.done_so_far whole.0 ∙ ap (λ (m : ℕ). written_through b sent m) whole.1)
written_at_end b n sent Over after reply dirty g h k i = absurd (cc)
written_at_end b n sent (Answering bytes answer) after reply dirty g h k i = absurd i
written_at_end b n sent Changing after reply dirty g h k i = absurd i
written_at_end b n sent (Syncing s) after reply dirty g h k i = absurd i
written_at_end b n sent (Moving m) after reply dirty g h k i = absurd i

pub forced_writes_are_hardened : OfTaskLegalHistories ForcedWritesAreHardened
unfolding Write
forced_writes_are_hardened capacity waiting turns legal write b n asks success =
    let x = write.command in
    let c : ℕ = x.number in
    let request : Result Request Sense = asked capacity x in
    let end = from_its_start capacity c request x.sent (marks_after c) (Write b n x.sent) (λ label s e g h. unmarked label s e c g h)
    (λ label s e g what plan later by lawful follows so_far. subst (λ (m : List Mark). Write b n x.sent later m) (sym (marks label s e c what g by))
    (write_next b n x.sent plan what later g follows so_far))
    (λ d r g. refl) waiting turns write.before write.queued write.during write.behind x.initiator x.tag x.attribute x.cdb write.reply [] legal write.whole refl
    (λ s duty settings e f. begins_with capacity s (initiator_of s c) duty request b n x.sent [] e
    (subst (λ (d : DataOut). Write b n x.sent (plan_unless_refused capacity s (initiator_of s c) d request) []) (sym f)
    (asks_to_force request capacity s (initiator_of s c) x.sent b n [] (subst (λ (m : Settings). AsksToForce request m b n) (sym settings) asks) refl))) in
    let o = end_owed capacity c end.0.label end.0.state write.reply end.0.ok success in
    let all = written_at_end b n x.sent o.before o.after write.reply _ (marks_of c write.during) o.follows success
    (subst (λ (p : Option Plan). Runs (Write b n x.sent) p (marks_of c write.during)) o.owes end.0.inv.plan) in
    (all.rest, end.1 ∙ all.is, all.forced)
