-- An end with UNRECOVERED READ ERROR follows a bad get in its turn.
use Rattle.std.proofs.Common.{◌≡◌, ◌∙◌, ap, sym, subst, refl, ℕ, ◌+◌, Bool, true, false, cond, nat_eq, nat_lt, List, arith, [], ◌∷◌, ◌++◌}
use Rattle.std.specs.Prelude.{◌&&◌, ◌||◌, ◌==◌, not, Option, Some, None, Result, Ok, fold}
use Rattle.std.specs.Option.{option_map_or, option_eq, option_and_then, is_some}
use Rattle.std.proofs.lemmas.Bool.{eq-eqb, eqb-true, eqb-false, ne_eqb}
use Rattle.disk_base.specs.declared.block.Value.TheVariants.{Data, Lost}
use Rattle.sense_data.specs.declared.sense.Sense.{Sense}
use Rattle.sense_data.specs.declared.reply.Reply.{Reply}
use Rattle.sense_data.specs.Sense.{sense_of}
use Rattle.cdb_reader.specs.declared.plan.Writing as writing
use Rattle.cdb_reader.specs.declared.plan.Plan.{Plan}
use Rattle.cdb_reader.specs.declared.plan.Plan.TheVariants.{Ending, Unread, Answering, Changing, Reading, Writing, Syncing, Moving, Over}
use Rattle.cdb_reader.specs.declared.plan.Deed.{Deed}
use Rattle.cdb_reader.specs.declared.plan.Deed.TheVariants as deed
use Rattle.cdb_reader.specs.Plan.{next, reading_from, after_written, after_move, blocks_left}
use Rattle.cdb_reader.specs.Replies.{good, unrecovered_read, medium_error, same_sense, same_reply, is_write_error, is_recovered, no_spare}
use Rattle.cdb_reader.specs.Request.{Request, ReadDefectData}
use Rattle.block_machine.specs.declared.entry.Who.TheVariants.{Command, Drive}
use Rattle.block_machine.specs.declared.entry.Entry.{Entry}
use Rattle.block_machine.specs.declared.entry.Entry.TheVariants.{Get, Put, Harden, Passed, Page, Ended, Mode, Arrived, Started, Aborted, Cut}
use Rattle.block_machine.specs.declared.turn.Label.{Label}
use Rattle.block_machine.specs.declared.turn.Label.TheVariants.{Work, Arrive, Job, Scan, Destage, World}
use Rattle.block_machine.specs.State.{State, Duty, initiator_of, is_full, owed_by, state_at_start}
use Rattle.block_machine.specs.Plans.{first_plan}
use Rattle.block_machine.specs.DriveOnly.{has_defect_length}
use Rattle.block_machine.specs.Deeds.{done, done_by, page_done, names_dirty, Done, owed_after}
use Rattle.block_machine.specs.Entries.{is_owed, works_on}
use Rattle.block_machine.specs.Turns.{task_set_full, owes_nothing_now, is_settled, entries_lawful, tasks_lawful, turn_after}
use Rattle.block_machine.specs.Laws.{OfTaskLegalHistories, left_out}
use Rattle.block_machine.proofs.Replies.{when_is}
use Rattle.block_machine.proofs.ReadLaw.{done_is}
use Rattle.block_machine.proofs.OneCommand.{NotBy, OkCases, arriving, working, Owed, owed, ok_cases}
use Rattle.block_machine.proofs.Booleans.{both, true_not_false, and_both}
use Rattle.history_laws.specs.Unread.{bad_after, last_bad, UnreadEndsFollowBadGets}
use Rattle.std.specs.List.{list_any}
use Rattle.disk_base.specs.Along.{all_along}
use Rattle.disk_base.specs.declared.address.Lba.{Lba}
use Rattle.task_set.specs.declared.member.Member.{Member}
use Rattle.task_set.specs.Members.{member_of, without, numbers}
use Rattle.cdb_reader.specs.declared.plan.Moving as moving
use Rattle.block_machine.specs.declared.turn.Turn.{Turn}
use Rattle.block_machine.specs.Steps.{entry_after, entries_after, begun, duties_done, task_arrived}
use Rattle.block_machine.proofs.Alongs.{along_first, along_second}
use Rattle.block_machine.proofs.Stepwise.{step_after, step_ok, entry_ok, does_all, steps_ok}
use Rattle.block_machine.proofs.Counting.{has, has_less, has_more, numbers_without, numbers_started, numbers_append, owes_in}
use Rattle.history_laws.proofs.Refusals.{refusal_tame, tells_unread, is_unread, tame, read_tame, is_calm, first_calm}

sense_alike : (s t : Sense) → same_sense s t ≡ true → is_unread s ≡ is_unread t
sense_alike s t h =
    let four = both _ (s.ascq == t.ascq) h in
    let asc = both _ (s.asc == t.asc) four.0 in
    let specific = both _ (s.specific == t.specific) asc.0 in
    let key = both (s.key == t.key) _ specific.0 in
    ap (λ (n : ℕ). n == 3 && s.asc == 0x11) (eqb-true s.key t.key key.0) ∙ ap (λ (n : ℕ). t.key == 3 && n == 0x11) (eqb-true s.asc t.asc asc.1)

senses_alike : (x y : Option Sense) → option_eq same_sense x y ≡ true → option_map_or is_unread x false ≡ option_map_or is_unread y false
senses_alike None None h = refl
senses_alike (Some s) (Some t) h = sense_alike s t h
senses_alike None (Some t) h = absurd (cc)
senses_alike (Some s) None h = absurd (cc)

not_told : (r s : Reply) → same_reply r s ≡ true → tells_unread r ≡ true → tells_unread s ≡ false → ⊥
not_told r s h k f = true_not_false (sym (senses_alike r.sense s.sense (both (r.status == s.status) _ h).1) ∙ k) f

-- the block that the sense data name
number_is : (o : Option ℕ) (n : ℕ) → option_eq nat_eq o (Some n) ≡ true → o ≡ Some n
number_is None n h = absurd (cc)
number_is (Some m) n h = ap (λ (k : ℕ). Some k) (eqb-true m n h)

named_at : (s t : Sense) (b : ℕ) → t.information ≡ Some b → same_sense s t ≡ true → s.information ≡ Some b
named_at s t b e h =
    let four = both _ (s.ascq == t.ascq) h in
    let asc = both _ (s.asc == t.asc) four.0 in
    let specific = both _ (s.specific == t.specific) asc.0 in
    let key = both (s.key == t.key) _ specific.0 in
    number_is s.information b (ap (λ (o : Option ℕ). option_eq nat_eq s.information o) (sym e) ∙ key.1)

one_block : (o : Option Sense) (a b : ℕ) → option_eq same_sense o (unrecovered_read a).sense ≡ true → option_eq same_sense o (unrecovered_read b).sense ≡ true → Some a ≡ Some b
one_block None a b h k = absurd (cc)
one_block (Some s) a b h k =
    sym (named_at s (record (sense_of 3 0x11 0x00) { information = Some a }) a refl h) ∙ named_at s (record (sense_of 3 0x11 0x00) { information = Some b }) b refl k

either : (x y : Bool) → (x || y) ≡ true → (x ≡ true → ⊥) → (y ≡ true → ⊥) → ⊥
either true y h f g = f refl
either false y h f g = g h

-- neither RECOVERED ERROR nor WRITE ERROR tells of such a read
recovered_sense : (o : Option Sense) → option_map_or (λ s. s.key == 1) o false ≡ true → option_map_or is_unread o false ≡ true → ⊥
recovered_sense None h k = absurd (cc)
recovered_sense (Some s) h k =
    let one : s.key ≡ 1 = eqb-true s.key 1 h in
    let three : s.key ≡ 3 = eqb-true s.key 3 (both (s.key == 3) _ k).0 in
    absurd (omega arith)

write_error_not : (b : ℕ) (reply : Reply) → is_write_error b reply ≡ true → tells_unread reply ≡ true → ⊥
write_error_not b reply h k =
    either (same_reply reply (medium_error 0x0C 0x00 b)) (same_reply reply (medium_error 0x0C 0x02 b)) h
    (λ e. not_told reply (medium_error 0x0C 0x00 b) e k refl) (λ e. not_told reply (medium_error 0x0C 0x02 b) e k refl)

-- NO DEFECT SPARE LOCATION AVAILABLE doesn't
spare_not : (blocks : List Lba) (reply : Reply) → list_any (λ block. same_reply reply (no_spare block.0)) blocks ≡ true → tells_unread reply ≡ true → ⊥
spare_not [] reply h k = absurd (cc)
spare_not (block ∷ blocks) reply h k =
    either (same_reply reply (no_spare block.0)) (list_any (λ block. same_reply reply (no_spare block.0)) blocks) h
    (λ e. not_told reply (no_spare block.0) e k refl) (λ e. spare_not blocks reply e k)

-- what a command still owes, beside the block that it got bad in this turn
Bad : Option Plan → Option ℕ → Type 0
Bad None g = Unit {0}
Bad (Some (Ending x)) g = tells_unread x ≡ false
Bad (Some (Answering bytes x)) g = tells_unread x ≡ false
Bad (Some (Unread a)) g = g ≡ Some a
Bad (Some other) g = Unit {0}

not_true : (t : Bool) → not t ≡ true → t ≡ false
not_true false h = refl
not_true true h = absurd (cc)

-- a plan that is calm fits whatever was got
calm_fits : (plan : Plan) (g : Option ℕ) → is_calm plan ≡ true → Bad (Some plan) g
unfolding Bad
calm_fits (Ending x) g h = not_true (tells_unread x) h
calm_fits (Answering bytes x) g h = not_true (tells_unread x) h
calm_fits (Unread a) g h = absurd (cc)
calm_fits other g h = tt

calm_owed : Option Plan → Bool
calm_owed None = true
calm_owed (Some plan) = is_calm plan

owed_fits : (o : Option Plan) (g : Option ℕ) → calm_owed o ≡ true → Bad o g
unfolding Bad calm_owed
owed_fits None g h = tt
owed_fits (Some plan) g h = calm_fits plan g h

-- .. and one that fits where nothing was got bad is calm
is_not : (t : Bool) → t ≡ false → not t ≡ true
is_not t h = ap not h

fits_calm : (o : Option Plan) → Bad o None → calm_owed o ≡ true
unfolding Bad calm_owed
fits_calm None i = refl
fits_calm (Some (Ending x)) i = is_not (tells_unread x) i
fits_calm (Some (Answering bytes x)) i = is_not (tells_unread x) i
fits_calm (Some (Unread a)) i = absurd (cc)
fits_calm (Some other) i = refl

-- the same after a deed
bad_by : Option ℕ → Deed → Option ℕ
bad_by g (deed.Got a Lost dirty) = Some a.0
bad_by g (deed.Got a (Data v) dirty) = None
bad_by g (deed.Put b v full) = None
bad_by g (deed.Hardened b) = None
bad_by g (deed.Passed from to) = None
bad_by g other = g

either_plan : (t : Bool) (p q : Plan) (g : Option ℕ) → Bad (Some p) g → Bad (Some q) g → Bad (Some (cond t p q)) g
either_plan true p q g h k = h
either_plan false p q g h k = k

written : (w : writing.Writing) (g : Option ℕ) → Bad (Some (after_written w)) g
unfolding Bad
written w g = either_plan (w.verifies && w.at + 1 == w.end) (reading_from w.from w.end true w.reports) (Writing (record w { at = w.at + 1; owes_harden = false })) g tt tt

moved_fits : (m : moving.Moving) (o : Option ℕ) (after : Plan) (g : Option ℕ) → after_move m o ≡ Some after → Bad (Some after) g
unfolding Bad
moved_fits m None after g h = absurd (cc)
moved_fits m (Some i) after g h = let is : Moving (record m { hardened = m.hardened + i + 1 }) ≡ after = cc in subst (λ (p : Plan). Bad (Some p) g) is tt

bad_next : (plan : Plan) (what : Deed) (after : Plan) (g : Option ℕ) → next plan what ≡ Some after → Bad (Some plan) g → Bad (Some after) (bad_by g what)
unfolding Bad bad_by
bad_next (Ending x) (deed.Ended reply dirty) after g h i = subst (λ (p : Plan). Bad (Some p) g) (when_is _ _ _ h).1 tt
bad_next (Unread a) (deed.Ended reply dirty) after g h i = subst (λ (p : Plan). Bad (Some p) g) (when_is _ _ _ h).1 tt
bad_next (Reading r) (deed.Ended reply dirty) after g h i = subst (λ (p : Plan). Bad (Some p) g) (when_is _ _ _ h).1 tt
bad_next (Reading r) (deed.Got a Lost dirty) after g h i =
    let may = when_is _ _ _ h in
    let first = both (a.0 == r.at && nat_lt r.at r.end) _ may.0 in
    subst (λ (p : Plan). Bad (Some p) (Some a.0)) may.1 (ap (λ (n : ℕ). Some n) (eqb-true a.0 r.at (both (a.0 == r.at) (nat_lt r.at r.end) first.0).0))
bad_next (Reading r) (deed.Got a (Data v) dirty) after g h i = subst (λ (p : Plan). Bad (Some p) None) (when_is _ _ _ h).1 tt
bad_next (Reading r) (deed.Hardened a) after g h i = subst (λ (p : Plan). Bad (Some p) None) (when_is _ _ _ h).1 tt
bad_next (Writing w) (deed.Put b block full) after g h i =
    subst (λ (p : Plan). Bad (Some p) None) (when_is _ _ _ h).1
    (either_plan (w.through || full) (Writing (record w { owes_harden = true })) (after_written w) None tt (written w None))
bad_next (Writing w) (deed.Hardened b) after g h i = subst (λ (p : Plan). Bad (Some p) None) (when_is _ _ _ h).1 (written w None)
bad_next (Writing w) (deed.Ended reply dirty) after g h i = subst (λ (p : Plan). Bad (Some p) g) (when_is _ _ _ h).1 tt
bad_next (Answering bytes reply) (deed.Page given) after g h i = subst (λ (p : Plan). Bad (Some p) g) (when_is _ _ _ h).1 i
bad_next (Answering bytes reply) (deed.Ended given dirty) after g h i = absurd (cc)
bad_next Changing deed.Mode after g h i = let is : Ending good ≡ after = cc in subst (λ (p : Plan). Bad (Some p) g) is refl
bad_next Changing (deed.Ended given dirty) after g h i = absurd (cc)
bad_next (Syncing s) (deed.Passed from to) after g h i = subst (λ (p : Plan). Bad (Some p) None) (when_is _ _ _ h).1 tt
bad_next (Syncing s) (deed.Hardened b) after g h i = subst (λ (p : Plan). Bad (Some p) None) (when_is _ _ _ h).1 tt
bad_next (Syncing s) (deed.Ended reply dirty) after g h i = subst (λ (p : Plan). Bad (Some p) g) (when_is _ _ _ h).1 tt
bad_next (Moving m) (deed.Hardened b) after g h i = moved_fits m _ after None h
bad_next (Moving m) (deed.Ended reply dirty) after g h i = subst (λ (p : Plan). Bad (Some p) g) (when_is _ _ _ h).1 tt
bad_next plan what after g h i = absurd (cc)

-- what is told of an entry is what is told of its deed
page_counts : (may : Bool) (c d : ℕ) (bytes : List ℕ) (what : Deed) (g : Option ℕ) → cond may (done d (deed.Page bytes)) None ≡ Some (record { c = c; what = what }) → g ≡ bad_by g what
unfolding bad_by
page_counts true c d bytes what g h = ap (λ (w : Deed). bad_by g w) (done_is d (deed.Page bytes) c what h).1
page_counts false c d bytes what g h = absurd (cc)

pages_count : (asks : Result Request Sense) (c d : ℕ) (bytes : List ℕ) (what : Deed) (g : Option ℕ) → page_done asks d bytes ≡ Some (record { c = c; what = what }) → g ≡ bad_by g what
unfolding bad_by
pages_count (Ok (ReadDefectData primary grown format allocation)) c d bytes what g h = page_counts (has_defect_length allocation bytes) c d _ what g h
pages_count other c d bytes what g h = page_counts true c d bytes what g h

own : (d c : ℕ) (x : Deed) (what : Deed) (g bad : Option ℕ) → bad ≡ bad_by g x → done d x ≡ Some (record { c = c; what = what }) → cond (c == d) bad g ≡ bad_by g what
own d c x what g bad e h =
    let is = done_is d x c what h in
    ap (λ (t : Bool). cond t bad g) (eq-eqb c d (sym is.0)) ∙ e ∙ ap (λ (w : Deed). bad_by g w) is.1

counts : (label : Label) (s : State) (e : Entry) (c : ℕ) (what : Deed) (g : Option ℕ) → done_by label s e ≡ Some (record { c = c; what = what }) → bad_after c g e ≡ bad_by g what
unfolding bad_by
counts label s (Get d b (Data v)) c what g h = own d c _ what g None refl h
counts label s (Get d b Lost) c what g h = own d c _ what g (Some b.0) refl h
counts label s (Put d b v) c what g h = own d c _ what g None refl h
counts label s (Harden (Command d) b) c what g h = own d c _ what g None refl h
counts label s (Passed d from to) c what g h = own d c _ what g None refl h
counts label s (Page d bytes) c what g h = pages_count (s.duties d).asks c d bytes what g h
counts label s (Ended d reply) c what g h = ap (λ (w : Deed). bad_by g w) (done_is d _ c what h).1
counts (Work d) s (Mode settings) c what g h = ap (λ (w : Deed). bad_by g w) (done_is d _ c what h).1
counts label s other c what g h = absurd (cc)

idle : (label : Label) (s : State) (e : Entry) (c : ℕ) (g : Option ℕ) → NotBy c (done_by label s e) → bad_after c g e ≡ g
idle label s (Get d b (Data v)) c g h = ap (λ (t : Bool). cond t None g) h
idle label s (Get d b Lost) c g h = ap (λ (t : Bool). cond t (Some b.0) g) h
idle label s (Put d b v) c g h = ap (λ (t : Bool). cond t None g) h
idle label s (Harden (Command d) b) c g h = ap (λ (t : Bool). cond t None g) h
idle label s (Passed d from to) c g h = ap (λ (t : Bool). cond t None g) h
idle label s other c g h = refl

-- the end that tells of such a read is that of a plan with a bad get
bad_at_end : (plan after : Plan) (reply : Reply) (dirty : Bool) (g : Option ℕ) (b : ℕ) → next plan (deed.Ended reply dirty) ≡ Some after → same_reply reply (unrecovered_read b) ≡ true
    → tells_unread reply ≡ true → Bad (Some plan) g → g ≡ Some b
unfolding Bad
bad_at_end (Ending x) after reply dirty g b h same k i = absurd (not_told reply x (when_is _ _ _ h).0 k i)
bad_at_end (Unread a) after reply dirty g b h same k i =
    i ∙ one_block reply.sense a b (both (reply.status == 0x02) _ (when_is _ _ _ h).0).1 (both (reply.status == 0x02) _ same).1
bad_at_end (Reading r) after reply dirty g b h same k i =
    absurd (either (r.at == r.end && (same_reply reply good || r.reports && is_recovered reply)) (nat_lt r.at r.end && r.through && dirty && is_write_error r.at reply) (when_is _ _ _ h).0
    (λ p. either (same_reply reply good) (r.reports && is_recovered reply) (both (r.at == r.end) _ p).1
    (λ e. not_told reply good e k refl)
    (λ e. recovered_sense reply.sense (both (reply.status == 0x02) _ (both r.reports _ e).1).1 k))
    (λ p. write_error_not r.at reply (both _ (is_write_error r.at reply) p).1 k))
bad_at_end (Writing w) after reply dirty g b h same k i =
    absurd (either (w.at == w.end && same_reply reply good) (nat_lt w.at w.end && is_write_error w.at reply) (both (not w.owes_harden) _ (when_is _ _ _ h).0).1
    (λ p. not_told reply good (both (w.at == w.end) _ p).1 k refl)
    (λ p. write_error_not w.at reply (both (nat_lt w.at w.end) _ p).1 k))
bad_at_end (Syncing s) after reply dirty g b h same k i =
    absurd (either (s.at == s.end && same_reply reply good) (nat_lt s.at s.end && dirty && is_write_error s.at reply) (when_is _ _ _ h).0
    (λ p. not_told reply good (both (s.at == s.end) _ p).1 k refl)
    (λ p. write_error_not s.at reply (both (nat_lt s.at s.end && dirty) _ p).1 k))
bad_at_end (Moving m) after reply dirty g b h same k i =
    absurd (either (same_reply reply good) (list_any (λ block. same_reply reply (no_spare block.0)) (blocks_left m)) (when_is _ _ _ h).0
    (λ p. not_told reply good p k refl) (λ p. spare_not (blocks_left m) reply p k))
bad_at_end Over after reply dirty g b h same k i = absurd (cc)
bad_at_end (Answering bytes answer) after reply dirty g b h same k i = absurd (cc)
bad_at_end Changing after reply dirty g b h same k i = absurd (cc)

end_owed : (capacity c : ℕ) (label : Label) (s : State) (reply : Reply) → OkCases capacity label s (Ended c reply) → tells_unread reply ≡ true → Owed s c (deed.Ended reply (names_dirty s reply))
end_owed capacity c label s reply (arriving h) k = absurd (not_told reply task_set_full (both (same_reply reply task_set_full) _ h).0 k refl)
end_owed capacity c label s reply (working h) k =
    owed s c (deed.Ended reply (names_dirty s reply)) (both (works_on label c) _ (both (works_on label c && is_owed label s (Ended c reply)) _ h).0).1

-- what is known of a command within a turn: what it owes, while it is in, fits what it got bad; and why it is refused tells of no block
record Within (c : ℕ) (s : State) (g : Option ℕ) : Type 0 where
  owes : has c (numbers s.set) ≡ true → Bad (s.duties c).owes g
  asks : tame (s.duties c).asks ≡ true

-- .. and between turns
record Between (c : ℕ) (s : State) : Type 0 where
  owes : has c (numbers s.set) ≡ true → calm_owed (s.duties c).owes ≡ true
  asks : tame (s.duties c).asks ≡ true

-- a change of one command, seen at another or the same
changed : (t : Bool) (new old : Duty) (g : Option ℕ) → (t ≡ true → Bad new.owes g) → (t ≡ false → Bad old.owes g) → Bad (cond t new old).owes g
changed true new old g h k = h refl
changed false new old g h k = k refl

still_tame : (t : Bool) (new old : Duty) → (t ≡ true → tame new.asks ≡ true) → tame old.asks ≡ true → tame (cond t new old).asks ≡ true
still_tame true new old h k = h refl
still_tame false new old h k = k

-- a deed of a command that is in
after_fits : (o : Option Plan) (plan : Plan) (what : Deed) (g : Option ℕ) → next plan what ≡ o → Bad (Some plan) g → Bad o (bad_by g what)
unfolding Bad
after_fits None plan what g e i = tt
after_fits (Some after) plan what g e i = bad_next plan what after g e i

deed_fits : (m : Option Member) (o : Option Plan) (what : Deed) (g : Option ℕ) → Bad o g
    → Bad (option_and_then (λ plan. next plan what) (option_and_then (λ m. o) m)) (bad_by g what)
unfolding Bad
deed_fits None o what g i = tt
deed_fits (Some m) None what g i = tt
deed_fits (Some m) (Some plan) what g i = after_fits (next plan what) plan what g refl i

own_kept : (c : ℕ) (label : Label) (s : State) (e : Entry) (g : Option ℕ) (d : Done) → nat_eq c d.c ≡ true → done_by label s e ≡ Some d → Bad (s.duties c).owes g
    → Bad (owed_after s d) (bad_after c g e)
own_kept c label s e g d t is i =
    let same : d ≡ record { c = c; what = d.what } = ap (λ (n : ℕ). record { c = n; what = d.what }) (sym (eqb-true c d.c t)) in
    subst (λ (x : Option ℕ). Bad (owed_after s d) x) (sym (counts label s e c d.what g (is ∙ ap (λ (x : Done). Some x) same)))
    (subst (λ (x : Done). Bad (owed_after s x) (bad_by g d.what)) (sym same) (deed_fits (member_of s.set c) (s.duties c).owes d.what g i))

other_kept : (o : Option Done) (c : ℕ) (label : Label) (s : State) (e : Entry) (g : Option ℕ) → done_by label s e ≡ o → NotBy c o → Bad (s.duties c).owes g → Bad (s.duties c).owes (bad_after c g e)
other_kept o c label s e g is other i =
    subst (λ (x : Option ℕ). Bad (s.duties c).owes x) (sym (idle label s e c g (subst (λ (x : Option Done). NotBy c x) (sym is) other))) i

deed_kept : (o : Option Done) (c : ℕ) (label : Label) (s : State) (e : Entry) (g : Option ℕ) → done_by label s e ≡ o → Bad (s.duties c).owes g → Bad (duties_done s o c).owes (bad_after c g e)
deed_kept None c label s e g is i = other_kept None c label s e g is tt i
deed_kept (Some d) c label s e g is i =
    changed (nat_eq c d.c) (record (s.duties d.c) { owes = owed_after s d }) (s.duties c) (bad_after c g e)
    (λ t. own_kept c label s e g d t is i) (λ t. other_kept (Some d) c label s e g is t i)

deed_tame : (o : Option Done) (c : ℕ) (s : State) → tame (s.duties c).asks ≡ true → tame (duties_done s o c).asks ≡ true
deed_tame None c s h = h
deed_tame (Some d) c s h =
    still_tame (nat_eq c d.c) (record (s.duties d.c) { owes = owed_after s d }) (s.duties c)
    (λ t. ap (λ (n : ℕ). tame (s.duties n).asks) (sym (eqb-true c d.c t)) ∙ h) h

-- an entry that starts no command, and with which none comes
plain : (capacity c : ℕ) (label : Label) (s : State) (e : Entry) (g : Option ℕ) → (entry_after capacity label s e).duties ≡ duties_done s (done_by label s e)
    → (has c (numbers (entry_after capacity label s e).set) ≡ true → has c (numbers s.set) ≡ true) → Within c s g → Within c (entry_after capacity label s e) (bad_after c g e)
plain capacity c label s e g duties fewer i = record {
  owes = λ here. subst (λ (f : ℕ → Duty). Bad (f c).owes (bad_after c g e)) (sym duties) (deed_kept (done_by label s e) c label s e g refl (i.owes (fewer here)));
  asks = ap (λ (f : ℕ → Duty). tame (f c).asks) duties ∙ deed_tame (done_by label s e) c s i.asks;
}

-- one that is in behind a start, an end or an arrival was in before, unless it arrived
by_cases : (x y : Bool) → (y ≡ false → x ≡ false) → x ≡ true → y ≡ true
by_cases x true f h = refl
by_cases x false f h = absurd (true_not_false h (f refl))

left_before : (c d : ℕ) (set : List Member) → has c (numbers (without set d)) ≡ true → has c (numbers set) ≡ true
left_before c d set h =
    by_cases (has c (left_out d (numbers set))) (has c (numbers set)) (λ e. has_less d c (numbers set) e) (sym (ap (λ (ns : List ℕ). has c ns) (numbers_without d set)) ∙ h)

come_before : (full : Bool) (c : ℕ) (set : List Member) (m : Member) → nat_eq m.task.c c ≡ false → has c (numbers (cond full set (set ++ m ∷ []))) ≡ true → has c (numbers set) ≡ true
come_before true c set m e h = h
come_before false c set m e h =
    by_cases (has c (numbers set ++ m.task.c ∷ [])) (has c (numbers set)) (λ f. has_more c (numbers set) m.task.c f e)
    (sym (ap (λ (ns : List ℕ). has c ns) (numbers_append set m)) ∙ h)

entry_kept : (capacity c : ℕ) (label : Label) (s : State) (e : Entry) (g : Option ℕ) → Within c s g → Within c (entry_after capacity label s e) (bad_after c g e)
unfolding Bad has
entry_kept capacity c label s (Arrived d i t a cdb sent) g i0 = record {
  owes = λ here. changed (nat_eq c d) _ (s.duties c) g (λ e. tt)
      (λ e. i0.owes (come_before (is_full s) c s.set (record { task = task_arrived capacity d i t a cdb sent; started = false }) (ne_eqb d c (λ same. eqb-false c d e (sym same))) here));
  asks = still_tame (nat_eq c d) _ (s.duties c) (λ e. read_tame cdb sent capacity) i0.asks;
}
entry_kept capacity c label s (Started d) g i = record {
  owes = λ here. changed (nat_eq c d) _ (s.duties c) g
      (λ e. calm_fits (first_plan capacity s (initiator_of s d) (s.duties d)) g
      (first_calm capacity s (initiator_of s d) (s.duties d) (ap (λ (n : ℕ). tame (s.duties n).asks) (sym (eqb-true c d e)) ∙ i.asks)))
      (λ e. i.owes (ap (λ (ns : List ℕ). has c ns) (sym (numbers_started d s.set)) ∙ here));
  asks = still_tame (nat_eq c d) _ (s.duties c) (λ e. ap (λ (n : ℕ). tame (s.duties n).asks) (sym (eqb-true c d e)) ∙ i.asks) i.asks;
}
entry_kept capacity c label s (Ended d reply) g i = plain capacity c label s (Ended d reply) g refl (left_before c d s.set) i
entry_kept capacity c label s (Aborted d) g i = plain capacity c label s (Aborted d) g refl (left_before c d s.set) i
entry_kept capacity c label s Cut g i = plain capacity c label s Cut g refl (λ here. absurd (cc)) i
entry_kept capacity c label s other g i = plain capacity c label s other g refl (λ here. here) i

entries_kept : (capacity c : ℕ) (label : Label) (s : State) (entries : List Entry) (g : Option ℕ) → Within c s g → Within c (entries_after capacity label s entries) (fold (bad_after c) g entries)
entries_kept capacity c label s [] g i = i
entries_kept capacity c label s (e ∷ entries) g i = entries_kept capacity c label (entry_after capacity label s e) entries (bad_after c g e) (entry_kept capacity c label s e g i)

-- a turn that begins
same_owed : (t : Bool) (new old : Duty) → (t ≡ true → new.owes ≡ old.owes) → (cond t new old).owes ≡ old.owes
same_owed true new old h = h refl
same_owed false new old h = refl

begun_kept : (c : ℕ) (label : Label) (s : State) → Between c s → Within c (begun s label) None
begun_kept c (Work d) s i = record {
  owes = λ here. owed_fits _ None
      (ap calm_owed (same_owed (nat_eq c d) (record (s.duties d) { dirty_then = s.dirty }) (s.duties c) (λ e. ap (λ (n : ℕ). (s.duties n).owes) (sym (eqb-true c d e)))) ∙ i.owes here);
  asks = still_tame (nat_eq c d) (record (s.duties d) { dirty_then = s.dirty }) (s.duties c) (λ e. ap (λ (n : ℕ). tame (s.duties n).asks) (sym (eqb-true c d e)) ∙ i.asks) i.asks;
}
begun_kept c (Arrive j) s i = record { owes = λ here. owed_fits (s.duties c).owes None (i.owes here); asks = i.asks }
begun_kept c (Job j) s i = record { owes = λ here. owed_fits (s.duties c).owes None (i.owes here); asks = i.asks }
begun_kept c Scan s i = record { owes = λ here. owed_fits (s.duties c).owes None (i.owes here); asks = i.asks }
begun_kept c Destage s i = record { owes = λ here. owed_fits (s.duties c).owes None (i.owes here); asks = i.asks }
begun_kept c (World w) s i = record { owes = λ here. owed_fits (s.duties c).owes None (i.owes here); asks = i.asks }

-- the entries of a turn that may come, one by one
turn_ok : (capacity : ℕ) (s : State) (turn : Turn) → tasks_lawful capacity s turn ≡ true
    → all_along (step_after capacity) (step_ok capacity) (begun s turn.label) (does_all turn.label turn.entries) ≡ true
turn_ok capacity s turn h =
    along_first (step_after capacity) (step_ok capacity) (begun s turn.label) (does_all turn.label turn.entries) []
    (steps_ok capacity s (turn ∷ []) (and_both (tasks_lawful capacity s turn) true h refl))

-- in a turn that isn't one of work on a command it gets nothing
got_none : (t : Bool) (d c b : ℕ) (label : Label) → nat_eq c d ≡ t → works_on label d ≡ true → works_on label c ≡ false → cond t (Some b) None ≡ None
got_none true d c b label e h k = absurd (true_not_false h (ap (λ (n : ℕ). works_on label n) (sym (eqb-true c d e)) ∙ k))
got_none false d c b label e h k = refl

same_either : (t : Bool) (g : Option ℕ) → cond t g g ≡ g
same_either true g = refl
same_either false g = refl

none_got : (capacity c : ℕ) (label : Label) (s : State) (e : Entry) → OkCases capacity label s e → works_on label c ≡ false → bad_after c None e ≡ None
none_got capacity c label s (Get d b Lost) (working h) k = got_none (nat_eq c d) d c b.0 label refl (both (works_on label d) _ h).0 k
none_got capacity c label s (Get d b Lost) (arriving h) k = absurd (cc)
none_got capacity c label s (Get d b (Data v)) h k = same_either (nat_eq c d) None
none_got capacity c label s (Put d b v) h k = same_either (nat_eq c d) None
none_got capacity c label s (Harden (Command d) b) h k = same_either (nat_eq c d) None
none_got capacity c label s (Harden Drive b) h k = refl
none_got capacity c label s (Passed d from to) h k = same_either (nat_eq c d) None
none_got capacity c label s other h k = refl

none_in_all : (capacity c : ℕ) (label : Label) (s : State) (entries : List Entry) → works_on label c ≡ false
    → all_along (step_after capacity) (step_ok capacity) s (does_all label entries) ≡ true → fold (bad_after c) None entries ≡ None
none_in_all capacity c label s [] k h = refl
none_in_all capacity c label s (e ∷ entries) k h =
    let now = both (entry_ok capacity label s e) _ h in
    ap (λ (g : Option ℕ). fold (bad_after c) g entries) (none_got capacity c label s e (ok_cases capacity label s e now.0) k)
    ∙ none_in_all capacity c label (entry_after capacity label s e) entries k now.1

-- a command that is in owes what is known of it
is_owed_by : (o : Option Member) (p : Option Plan) → is_some o ≡ true → option_and_then (λ m. p) o ≡ p
is_owed_by None p h = absurd (cc)
is_owed_by (Some m) p h = refl

found_one : (t : Bool) (c : ℕ) (m : Member) (o : Option Member) (set : List Member) → (t || has c (numbers set)) ≡ true → (has c (numbers set) ≡ true → is_some o ≡ true) → is_some (cond t (Some m) o) ≡ true
found_one true c m o set h f = refl
found_one false c m o set h f = f h

found : (c : ℕ) (set : List Member) → has c (numbers set) ≡ true → is_some (member_of set c) ≡ true
unfolding has
found c [] h = absurd (cc)
found c (m ∷ set) h = found_one (m.task.c == c) c m (member_of set c) set h (found c set)

-- what is settled is calm
settled_calm : (o : Option Plan) → owes_nothing_now o ≡ true → calm_owed o ≡ true
unfolding calm_owed
settled_calm None h = refl
settled_calm (Some (Ending reply)) h = absurd (cc)
settled_calm (Some (Unread b)) h = absurd (cc)
settled_calm (Some (Answering bytes reply)) h = absurd (cc)
settled_calm (Some Changing) h = absurd (cc)
settled_calm (Some other) h = refl

settled : (capacity c : ℕ) (label : Label) (s : State) (entries : List Entry) → works_on label c ≡ true → entries_lawful capacity label s entries ≡ true
    → owes_nothing_now (owed_by (entries_after capacity label s entries) c) ≡ true
settled capacity c (Work d) s entries w h =
    ap (λ (n : ℕ). owes_nothing_now (owed_by (entries_after capacity (Work d) s entries) n)) (sym (eqb-true d c w)) ∙ (both _ (is_settled (Work d) (entries_after capacity (Work d) s entries)) h).1
settled capacity c other s entries w h = absurd (cc)

-- a turn leaves that
turn_left : (t : Bool) (capacity c : ℕ) (s : State) (turn : Turn) → works_on turn.label c ≡ t → tasks_lawful capacity s turn ≡ true → Between c s
    → has c (numbers (turn_after capacity s turn).set) ≡ true → calm_owed ((turn_after capacity s turn).duties c).owes ≡ true
turn_left true capacity c s turn w h i here =
    let u : State = turn_after capacity s turn in
    ap calm_owed (sym (is_owed_by (member_of u.set c) (u.duties c).owes (found c u.set here)))
    ∙ settled_calm (owed_by u c) (settled capacity c turn.label (begun s turn.label) turn.entries w h)
turn_left false capacity c s turn w h i here =
    let u : State = turn_after capacity s turn in
    let then = entries_kept capacity c turn.label (begun s turn.label) turn.entries None (begun_kept c turn.label s i) in
    fits_calm (u.duties c).owes
    (subst (λ (g : Option ℕ). Bad (u.duties c).owes g) (none_in_all capacity c turn.label (begun s turn.label) turn.entries w (turn_ok capacity s turn h)) (then.owes here))

turns_left : (capacity c : ℕ) (s : State) (turns : List Turn) → all_along (turn_after capacity) (tasks_lawful capacity) s turns ≡ true → Between c s
    → Between c (fold (turn_after capacity) s turns)
turns_left capacity c s [] h i = i
turns_left capacity c s (turn ∷ turns) h i =
    let now = both (tasks_lawful capacity s turn) _ h in
    let then = entries_kept capacity c turn.label (begun s turn.label) turn.entries None (begun_kept c turn.label s i) in
    turns_left capacity c (turn_after capacity s turn) turns now.1
    (record { owes = λ here. turn_left (works_on turn.label c) capacity c s turn refl now.0 i here; asks = then.asks })

-- where an entry of a turn may come
ok_at : (capacity : ℕ) (label : Label) (s : State) (earlier later : List Entry) (e : Entry)
    → all_along (step_after capacity) (step_ok capacity) s (does_all label (earlier ++ e ∷ later)) ≡ true
    → entry_ok capacity label (entries_after capacity label s earlier) e ≡ true
ok_at capacity label s [] later e h = (both (entry_ok capacity label s e) _ h).0
ok_at capacity label s (x ∷ earlier) later e h = ok_at capacity label (entry_after capacity label s x) earlier later e (both (entry_ok capacity label s x) _ h).1

-- the command at its end is in
end_in : (capacity c : ℕ) (label : Label) (s : State) (reply : Reply) → OkCases capacity label s (Ended c reply) → tells_unread reply ≡ true → has c (numbers s.set) ≡ true
end_in capacity c label s reply (arriving h) k = absurd (not_told reply task_set_full (both (same_reply reply task_set_full) _ h).0 k refl)
end_in capacity c label s reply (working h) k =
    owes_in (member_of s.set c) s c _ refl (both (works_on label c) _ (both (works_on label c && is_owed label s (Ended c reply)) _ h).0).1

pub unread_ends_follow_bad_gets : OfTaskLegalHistories UnreadEndsFollowBadGets
unfolding has
unread_ends_follow_bad_gets capacity waiting turns legal end b same =
    let c : ℕ = end.number in
    let reply : Reply = end.reply in
    let start : State = state_at_start waiting in
    let told : tells_unread reply ≡ true = senses_alike reply.sense (unrecovered_read b).sense (both (reply.status == 0x02) _ same).1 in
    let all : all_along (turn_after capacity) (tasks_lawful capacity) start (end.before ++ end.turn ∷ end.behind) ≡ true =
    ap (λ (ts : List Turn). all_along (turn_after capacity) (tasks_lawful capacity) start ts) (sym end.among) ∙ legal in
    let s : State = fold (turn_after capacity) start end.before in
    let now = (both (tasks_lawful capacity s end.turn) _ (along_second (turn_after capacity) (tasks_lawful capacity) start end.before (end.turn ∷ end.behind) all)).0 in
    let i : Between c s =
    turns_left capacity c start end.before (along_first (turn_after capacity) (tasks_lawful capacity) start end.before (end.turn ∷ end.behind) all)
    (record { owes = λ here. absurd (cc); asks = refusal_tame _ (sense_of 5 0x20 0x00) refl }) in
    let label : Label = end.turn.label in
    let u : State = begun s label in
    let v : State = entries_after capacity label u end.earlier in
    let then : Within c v (last_bad c end.earlier) = entries_kept capacity c label u end.earlier None (begun_kept c label s i) in
    let ok = ok_cases capacity label v (Ended c reply) (ok_at capacity label u end.earlier end.later (Ended c reply)
    (ap (λ (es : List Entry). all_along (step_after capacity) (step_ok capacity) u (does_all label es)) (sym end.within) ∙ turn_ok capacity s end.turn now)) in
    let o = end_owed capacity c label v reply ok told in
    bad_at_end o.before o.after reply _ (last_bad c end.earlier) b o.follows same told
    (subst (λ (p : Option Plan). Bad p (last_bad c end.earlier)) o.owes (then.owes (end_in capacity c label v reply ok told)))
