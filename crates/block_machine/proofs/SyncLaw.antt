-- A sync that succeeds hardened each block of its range, or found it hardened.
use Rattle.std.proofs.Common.{◌≡◌, ◌∙◌, ap, sym, subst, refl, ℕ, zero, suc, ◌+◌, ◌-◌, ◌<◌, ◌≤◌, Bool, true, false, not, cond, nat_eq, nat_lt, nat_le, List, [], ◌∷◌, ◌++◌, append_assoc, arith}
use Rattle.std.specs.Prelude.{◌&&◌, ◌||◌, ◌==◌, fold, unwrap_or, Option, Some, None, Result, Ok}
use Rattle.std.specs.List.{list_all, list_any, range_with_len}
use Rattle.std.specs.Option.{option_map_or}
use Rattle.std.proofs.lemmas.Bool.{eq-eqb, eqb-true, eqb-false, ltb-true, ltb-false, lt-ltb, le-leb, leb-true}
use Rattle.disk_base.specs.declared.command.DataOut.{DataOut}
use Rattle.sense_data.specs.declared.sense.Sense.{Sense}
use Rattle.sense_data.specs.declared.reply.Reply.{Reply}
use Rattle.sense_data.specs.Sense.{sense_of}
use Rattle.sense_data.specs.Attentions.{Waiting}
use Rattle.cdb_reader.specs.declared.plan.Syncing as syncing
use Rattle.cdb_reader.specs.declared.plan.Plan.{Plan}
use Rattle.cdb_reader.specs.declared.plan.Plan.TheVariants.{Ending, Unread, Answering, Changing, Reading, Writing, Syncing, Moving, Over}
use Rattle.cdb_reader.specs.declared.plan.Deed.{Deed}
use Rattle.cdb_reader.specs.declared.plan.Deed.TheVariants as deed
use Rattle.cdb_reader.specs.Plan.{next}
use Rattle.cdb_reader.specs.Replies.{good, same_reply, is_write_error}
use Rattle.cdb_reader.specs.Request.{Request}
use Rattle.cdb_reader.specs.Request as request
use Rattle.disk_base.specs.declared.block.Value.{Value}
use Rattle.block_machine.specs.declared.array.BlockState.{BlockState}
use Rattle.block_machine.specs.declared.entry.Who.TheVariants.{Command, Drive}
use Rattle.block_machine.specs.declared.entry.Entry.{Entry}
use Rattle.block_machine.specs.declared.entry.Entry.TheVariants.{Started, Put, Harden, Passed, Ended}
use Rattle.block_machine.specs.declared.turn.Turn.{Turn}
use Rattle.block_machine.specs.Blocks.{Blocks, blocks_at_start, blocks_after, block_lawful, is_dirty, newest, hardened_with, after_harden}
use Rattle.block_machine.specs.Turns.{turn_after, tasks_lawful, blocks_lawful}
use Rattle.block_machine.specs.History.{entries_of}
use Rattle.block_machine.specs.State.{State, Duty, initiator_of, state_at_start}
use Rattle.block_machine.specs.Plans.{first_plan, plan_unless_refused, refusing}
use Rattle.block_machine.specs.Parts.{Life, arrival, asked}
use Rattle.block_machine.specs.Laws.{IsLegal, Mark, Wrote, Forced, Found, marks_after, marks_of, succeeds}
use Rattle.block_machine.specs.Lives.{AsksToSync}
use Rattle.block_machine.proofs.Alongs.{along_left, along_second, fold_both}
use Rattle.block_machine.proofs.OneBlock.{one_after}
use Rattle.block_machine.proofs.BlockLaws.{dirty_newest}
use Rattle.block_machine.proofs.Projection.{legal_blocks}
use Rattle.block_machine.proofs.Replies.{when_is, same_succeed, at_start}
use Rattle.block_machine.proofs.ReadLaw.{write_error_fails, end_owed}
use Rattle.block_machine.proofs.WriteLaw.{marks, marks_by, unmarked}
use Rattle.block_machine.proofs.SinceStart.{Runs, from_its_start}
use Rattle.block_machine.proofs.Booleans.{and_both, both, not_is, or_assoc, or_right, true_not_false}

-- a mark says that a block was hardened, or found hardened
abbrev covers : ℕ → Mark → Bool
covers x (Wrote b block) = false
covers x (Forced b) = b == x
covers x (Found from to) = nat_le from x && nat_lt x to

one_of : (t u v : Bool) → (t || u) ≡ true → (u ≡ true → v ≡ true) → (t || v) ≡ true
one_of true u v h k = refl
one_of false u v h k = k h

any_left : (x : ℕ) (xs ys : List Mark) → list_any (covers x) xs ≡ true → list_any (covers x) (xs ++ ys) ≡ true
any_left x [] ys h = absurd (cc)
any_left x (m ∷ xs) ys h = one_of (covers x m) (list_any (covers x) xs) (list_any (covers x) (xs ++ ys)) h (any_left x xs ys)

any_last : (x : ℕ) (xs : List Mark) (m : Mark) → covers x m ≡ true → list_any (covers x) (xs ++ m ∷ []) ≡ true
any_last x [] m h = ap (λ (t : Bool). t || false) h
any_last x (y ∷ xs) m h = or_right (covers x y) _ (any_last x xs m h)

not_below : (x n : ℕ) → nat_lt x n ≡ false → n ≤ x
not_below x n e = ltb-false x n e

-- the blocks from one to below another are covered
Covered : ℕ → ℕ → List Mark → Type 0
Covered from to g = (x : ℕ) → from ≤ x → x < to → list_any (covers x) g ≡ true

record SyncedSoFar (b n : ℕ) (s : syncing.Syncing) (g : List Mark) : Type 0 where
  ends : s.end ≡ b + n
  covered : Covered b s.at g

-- what was done, by what a sync still owes
Sync : ℕ → ℕ → Plan → List Mark → Type 0
Sync b n (Ending x) g = succeeds x ≡ true → Covered b (b + n) g
Sync b n (Syncing s) g = SyncedSoFar b n s g
Sync b n Over g = Unit {0}
Sync b n other g = ⊥

-- a place before the mark, or in it
below : (t : Bool) (x from at to : ℕ) (g : List Mark) (m : Mark) → nat_lt x at ≡ t → ((x : ℕ) → at ≤ x → x < to → covers x m ≡ true) → Covered from at g
    → from ≤ x → x < to → list_any (covers x) (g ++ m ∷ []) ≡ true
unfolding Covered
below true x from at to g m e h k low high = any_left x g (m ∷ []) (k x low (ltb-true x at e))
below false x from at to g m e h k low high = any_last x g m (h x (not_below x at e) high)

-- one mark more
covered_more : (from at to : ℕ) (g : List Mark) (m : Mark) → ((x : ℕ) → at ≤ x → x < to → covers x m ≡ true) → Covered from at g → Covered from to (g ++ m ∷ [])
unfolding Covered
covered_more from at to g m h k = λ x low high. below (nat_lt x at) x from at to g m refl h k low high

sync_next : (b n : ℕ) (plan : Plan) (what : Deed) (after : Plan) (g : List Mark) → next plan what ≡ Some after → Sync b n plan g → Sync b n after (marks_by g what)
unfolding Sync marks_by
sync_next b n (Ending x) (deed.Ended reply dirty) after g h i = subst (λ (p : Plan). Sync b n p g) (when_is _ _ _ h).1 tt
sync_next b n (Syncing s) (deed.Ended reply dirty) after g h i = subst (λ (p : Plan). Sync b n p g) (when_is _ _ _ h).1 tt
sync_next b n (Syncing s) (deed.Passed from to) after g h i =
    let may = when_is _ _ _ h in
    let at : from.0 ≡ s.at = eqb-true from.0 s.at (both (from.0 == s.at) _ (both (from.0 == s.at && nat_lt s.at to.0) _ may.0).0).0 in
    subst (λ (p : Plan). Sync b n p (g ++ Found from.0 to.0 ∷ [])) may.1 (record {
      ends = i.ends;
      covered = covered_more b s.at to.0 g (Found from.0 to.0)
          (λ x low high. and_both (nat_le from.0 x) (nat_lt x to.0) (le-leb from.0 x (omega arith)) (lt-ltb x to.0 high)) i.covered;
    })
sync_next b n (Syncing s) (deed.Hardened a) after g h i =
    let may = when_is _ _ _ h in
    let at : a.0 ≡ s.at = eqb-true a.0 s.at (both (a.0 == s.at) _ may.0).0 in
    subst (λ (p : Plan). Sync b n p (g ++ Forced a.0 ∷ [])) may.1 (record {
      ends = i.ends;
      covered = covered_more b s.at (s.at + 1) g (Forced a.0) (λ x low high. eq-eqb a.0 x (omega arith)) i.covered;
    })
sync_next b n (Unread a) what after g h i = absurd i
sync_next b n (Reading r) what after g h i = absurd i
sync_next b n (Writing w) what after g h i = absurd i
sync_next b n (Answering bytes reply) what after g h i = absurd i
sync_next b n Changing what after g h i = absurd i
sync_next b n (Moving m) what after g h i = absurd i
sync_next b n plan what after g h i = absurd (cc)

starts_syncing : (corrupt empty : Bool) (b n : ℕ) (g : List Mark) → nat_eq n 0 ≡ empty
    → Sync b n (cond corrupt (refusing (sense_of 3 0x31 0x00)) (unwrap_or (cond empty (Some (Ending good)) (Some (Syncing (record { at = b; end = b + n })))) Over)) g
unfolding Sync Covered
starts_syncing true empty b n g e = λ h. absurd (cc)
starts_syncing false true b n g e = λ h x low high. let none : n ≡ 0 = eqb-true n 0 e in absurd (omega arith)
starts_syncing false false b n g e = record { ends = refl; covered = λ x low high. absurd (omega arith) }

begins_with : (capacity : ℕ) (s : State) (i : ℕ) (duty : Duty) (asks : Result Request Sense) (b n : ℕ) (g : List Mark) → duty.asks ≡ asks
    → Sync b n (plan_unless_refused capacity s i duty.sent asks) g → Sync b n (first_plan capacity s i duty) g
unfolding Sync
begins_with capacity s i duty asks b n g e h =
    at_start (λ (plan : Plan). Sync b n plan g) (λ sense f k. absurd (true_not_false k f)) capacity s i duty asks e h

-- a sync of so many blocks from one on
Syncs : Result Request Sense → ℕ → ℕ → Type 0
Syncs (Ok (request.SynchronizeCache from count)) b n = (from ≡ b) × (count ≡ n)
Syncs other b n = ⊥

range_synced : (asks : Result Request Sense) (x : ℕ) → AsksToSync asks x → (b n : ℕ) × Syncs asks b n × (b ≤ x) × (x < b + n)
unfolding Syncs
range_synced (Ok (request.SynchronizeCache from count)) x h = (from, count, (refl, refl), h.0, h.1)
range_synced asks x h = absurd h

asks_to_sync : (asks : Result Request Sense) (capacity : ℕ) (s : State) (i : ℕ) (sent : DataOut) (b n : ℕ) (g : List Mark) → Syncs asks b n
    → Sync b n (plan_unless_refused capacity s i sent asks) g
unfolding Syncs
asks_to_sync (Ok (request.SynchronizeCache from count)) capacity s i sent b n g h = rw (h.0, h.1) (starts_syncing (s.corrupt && true) (nat_eq n 0) b n g refl)
asks_to_sync asks capacity s i sent b n g h = absurd h

syncing_over : (t : Bool) (s : syncing.Syncing) (reply : Reply) (dirty : Bool) → (s.at == s.end && same_reply reply good) ≡ t
    → (t || (nat_lt s.at s.end && dirty && is_write_error s.at reply)) ≡ true → succeeds reply ≡ true → s.at ≡ s.end
syncing_over true s reply dirty e h k = eqb-true s.at s.end (both (s.at == s.end) _ e).0
syncing_over false s reply dirty e h k = absurd (write_error_fails s.at reply (both (nat_lt s.at s.end && dirty) _ h).1 k)

synced_at_end : (b n : ℕ) (plan after : Plan) (reply : Reply) (dirty : Bool) (g : List Mark) → next plan (deed.Ended reply dirty) ≡ Some after → succeeds reply ≡ true
    → Sync b n plan g → Covered b (b + n) g
unfolding Sync
synced_at_end b n (Ending x) after reply dirty g h k i = i (sym (same_succeed reply x (when_is _ _ _ h).0) ∙ k)
synced_at_end b n (Syncing s) after reply dirty g h k i =
    let over : s.at ≡ s.end = syncing_over _ s reply dirty refl (when_is _ _ _ h).0 k in
    subst (λ (to : ℕ). Covered b to g) (over ∙ i.ends) i.covered
synced_at_end b n Over after reply dirty g h k i = absurd (cc)
synced_at_end b n (Unread a) after reply dirty g h k i = absurd i
synced_at_end b n (Reading r) after reply dirty g h k i = absurd i
synced_at_end b n (Writing w) after reply dirty g h k i = absurd i
synced_at_end b n (Answering bytes answer) after reply dirty g h k i = absurd i
synced_at_end b n Changing after reply dirty g h k i = absurd i
synced_at_end b n (Moving m) after reply dirty g h k i = absurd i

-- an entry says that a block is hardened now
hardens : ℕ → Entry → Bool
hardens x (Harden who a) = a.0 == x
hardens x (Passed d from to) = nat_le from.0 x && nat_lt x to.0
hardens x other = false

-- entries parted at one that says so
record HardenedAt (x : ℕ) (entries : List Entry) : Type 0 where
  part : List Entry
  e : Entry
  rest : List Entry
  whole : entries ≡ part ++ e ∷ rest
  is : hardens x e ≡ true

or_none : (x : Bool) → (x || false) ≡ (false || x)
or_none true = refl
or_none false = refl

any_append : (x : ℕ) (g : List Mark) (m : Mark) → list_any (covers x) (g ++ m ∷ []) ≡ (list_any (covers x) g || covers x m)
any_append x [] m = or_none (covers x m)
any_append x (y ∷ g) m = ap (λ (t : Bool). covers x y || t) (any_append x g m) ∙ or_assoc (covers x y) (list_any (covers x) g) (covers x m)

-- a mark that covers what wasn't covered
mark_new : (t : Bool) (x : ℕ) (g : List Mark) (m : Mark) → list_any (covers x) (cond t (g ++ m ∷ []) g) ≡ true → list_any (covers x) g ≡ false → covers x m ≡ true
mark_new true x g m h k = ap (λ (u : Bool). u || covers x m) (sym k) ∙ sym (any_append x g m) ∙ h
mark_new false x g m h k = absurd (true_not_false h k)

entry_new : (c x : ℕ) (g : List Mark) (e : Entry) → list_any (covers x) (marks_after c g e) ≡ true → list_any (covers x) g ≡ false → hardens x e ≡ true
unfolding hardens
entry_new c x g (Put d b v) h k = mark_new (nat_eq c d) x g (Wrote b.0 v) h k
entry_new c x g (Harden (Command d) b) h k = mark_new (nat_eq c d) x g (Forced b.0) h k
entry_new c x g (Passed d from to) h k = mark_new (nat_eq c d) x g (Found from.0 to.0) h k
entry_new c x g (Harden Drive b) h k = absurd (true_not_false h k)
entry_new c x g other h k = absurd (true_not_false h k)

-- what is covered in the end was so by an entry
covered_by : (t : Bool) (c x : ℕ) (g : List Mark) (e : Entry) (entries : List Entry) → list_any (covers x) (marks_after c g e) ≡ t → list_any (covers x) g ≡ false
    → (list_any (covers x) (marks_after c g e) ≡ false → HardenedAt x entries) → HardenedAt x (e ∷ entries)
covered_by true c x g e entries h k f = record { part = []; e = e; rest = entries; whole = refl; is = entry_new c x g e h k }
covered_by false c x g e entries h k f =
    let later = f h in
    record { part = e ∷ later.part; e = later.e; rest = later.rest; whole = ap (λ (es : List Entry). e ∷ es) later.whole; is = later.is }

covered_at : (c x : ℕ) (g : List Mark) (entries : List Entry) → list_any (covers x) (fold (marks_after c) g entries) ≡ true → list_any (covers x) g ≡ false → HardenedAt x entries
covered_at c x g [] h k = absurd (true_not_false h k)
covered_at c x g (e ∷ entries) h k = covered_by _ c x g e entries refl k (λ f. covered_at c x (marks_after c g e) entries h f)

range_one : (t : Bool) (p : ℕ → Bool) (n a x : ℕ) → nat_eq a x ≡ t → p a ≡ true → (a + 1 ≤ x → p x ≡ true) → a ≤ x → p x ≡ true
range_one true p n a x e h f low = ap p (sym (eqb-true a x e)) ∙ h
range_one false p n a x e h f low = let ne = eqb-false a x e in f (omega arith)

-- what holds of a range of numbers holds of each
range_all : (p : ℕ → Bool) (n a x : ℕ) → list_all p (range_with_len a n) ≡ true → a ≤ x → x < a + n → p x ≡ true
range_all p zero a x h low high = absurd (omega arith)
range_all p (suc n) a x h low high =
    let now = both (p a) _ h in
    range_one (nat_eq a x) p n a x refl now.0 (λ more. range_all p n (a + 1) x now.1 more (omega arith)) low

-- a dirty block that is hardened isn't dirty
hardened_now : (o : Option Value) (s : BlockState) → newest s ≡ o → is_dirty s ≡ true → is_dirty (option_map_or hardened_with o s) ≡ false
hardened_now None s e h = absurd (dirty_newest s h e)
hardened_now (Some v) s e h = refl

-- at such an entry there is a moment at which the block isn't dirty
record CleanAt (x : ℕ) (blocks : Blocks) (e : Entry) (rest : List Entry) : Type 0 where
  now : List Entry
  later : List Entry
  whole : e ∷ rest ≡ now ++ later
  clean : is_dirty (fold blocks_after blocks now x) ≡ false

clean_at : (capacity x : ℕ) (blocks : Blocks) (e : Entry) (rest : List Entry) → block_lawful capacity blocks e ≡ true → hardens x e ≡ true → CleanAt x blocks e rest
unfolding hardens
clean_at capacity x blocks (Passed d from to) rest h k =
    let within = both (nat_le from.0 x) _ k in
    let low : from.0 ≤ x = leb-true from.0 x within.0 in
    let high : x < to.0 = ltb-true x to.0 within.1 in
    record {
      now = [];
      later = Passed d from to ∷ rest;
      whole = refl;
      clean = not_is _ (range_all (λ b. not (is_dirty (blocks b))) (to.0 - from.0) from.0 x (both (nat_le to.0 capacity) _ h).1 low (omega arith));
    }
clean_at capacity x blocks (Harden who a) rest h k =
    let at : a.0 ≡ x = eqb-true a.0 x k in
    let dirty : is_dirty (blocks x) ≡ true = ap (λ (n : ℕ). is_dirty (blocks n)) (sym at) ∙ (both (nat_lt a.0 capacity) _ h).1 in
    let there : blocks_after blocks (Harden who a) x ≡ after_harden (blocks x) =
    one_after x blocks (Harden who a) ∙ ap (λ (t : Bool). cond t (after_harden (blocks x)) (blocks x)) (eq-eqb x a.0 (sym at)) in
    record {
      now = Harden who a ∷ [];
      later = rest;
      whole = refl;
      clean = ap is_dirty there ∙ hardened_now (newest (blocks x)) (blocks x) refl dirty;
    }
clean_at capacity x blocks other rest h k = absurd (cc)

-- entries in the order of a law, and in that of a moment among them
in_order : (first queued part rest after : List Entry) (arrival start e end : Entry)
    → first ++ arrival ∷ (queued ++ start ∷ ((part ++ e ∷ rest) ++ end ∷ after)) ≡ (first ++ arrival ∷ (queued ++ start ∷ part)) ++ e ∷ (rest ++ end ∷ after)
in_order first queued part rest after arrival start e end = simp append_assoc

still_before : (first queued part now : List Entry) (arrival start : Entry)
    → first ++ arrival ∷ (queued ++ start ∷ (part ++ now)) ≡ (first ++ arrival ∷ (queued ++ start ∷ part)) ++ now
still_before first queued part now arrival start = simp append_assoc

-- a moment since its start at which a block wasn't dirty
pub record CleanDuring (turns : List Turn) (sync : Life turns) (x : ℕ) : Type 0 where
  pub part : List Entry
  pub rest : List Entry
  pub whole : sync.during ≡ part ++ rest
  pub clean : is_dirty (fold blocks_after blocks_at_start (sync.before ++ arrival sync.command ∷ (sync.queued ++ Started sync.command.number ∷ part)) x) ≡ false

pub syncs_find_each_block_hardened : (capacity : ℕ) (waiting : Waiting) (turns : List Turn) → IsLegal capacity waiting turns → (sync : Life turns) (x : ℕ)
    → AsksToSync (asked capacity sync.command) x → succeeds sync.reply ≡ true → CleanDuring turns sync x
unfolding Sync Covered
syncs_find_each_block_hardened capacity waiting turns legal sync x asks success =
    let start : State = state_at_start waiting in
    let command = sync.command in
    let c : ℕ = command.number in
    let comes : Entry = arrival command in
    let ends : Entry = Ended c sync.reply in
    let request : Result Request Sense = asked capacity command in
    let range = range_synced request x asks in
    let b : ℕ = range.0 in
    let n : ℕ = range.1 in
    let task_legal = along_left (turn_after capacity) (tasks_lawful capacity) (λ s turn. blocks_lawful capacity s.blocks turn.entries) start turns legal in
    let end = from_its_start capacity c request command.sent (marks_after c) (Sync b n) (λ label s e g h. unmarked label s e c g h)
    (λ label s e g what plan later by lawful follows so_far. subst (λ (m : List Mark). Sync b n later m) (sym (marks label s e c what g by))
    (sync_next b n plan what later g follows so_far))
    (λ d r g. refl) waiting turns sync.before sync.queued sync.during sync.behind command.initiator command.tag command.attribute command.cdb sync.reply [] task_legal sync.whole refl
    (λ s duty settings e f. begins_with capacity s (initiator_of s c) duty request b n [] e
    (asks_to_sync request capacity s (initiator_of s c) duty.sent b n [] range.2)) in
    let o = end_owed capacity c end.0.label end.0.state sync.reply end.0.ok success in
    let all = synced_at_end b n o.before o.after sync.reply _ (marks_of c sync.during) o.follows success
    (subst (λ (p : Option Plan). Runs (Sync b n) p (marks_of c sync.during)) o.owes end.0.inv.plan) in
    let m = covered_at c x [] sync.during (all x range.3 range.4) refl in
    let before : List Entry = sync.before ++ comes ∷ (sync.queued ++ Started c ∷ m.part) in
    let behind : List Entry = m.rest ++ ends ∷ sync.behind in
    let order : entries_of turns ≡ before ++ m.e ∷ behind =
    sync.whole ∙ ap (λ (es : List Entry). sync.before ++ comes ∷ (sync.queued ++ Started c ∷ (es ++ ends ∷ sync.behind))) m.whole
    ∙ in_order sync.before sync.queued m.part m.rest sync.behind comes (Started c) m.e ends in
    let lawful : blocks_lawful capacity blocks_at_start (before ++ m.e ∷ behind) ≡ true =
    ap (λ (es : List Entry). blocks_lawful capacity blocks_at_start es) (sym order) ∙ legal_blocks capacity start turns legal in
    let here = (both (block_lawful capacity (fold blocks_after blocks_at_start before) m.e) _
    (along_second blocks_after (block_lawful capacity) blocks_at_start before (m.e ∷ behind) lawful)).0 in
    let k = clean_at capacity x (fold blocks_after blocks_at_start before) m.e m.rest here m.is in
    let moment : fold blocks_after blocks_at_start (sync.before ++ comes ∷ (sync.queued ++ Started c ∷ (m.part ++ k.now))) ≡ fold blocks_after (fold blocks_after blocks_at_start before) k.now =
    ap (λ (es : List Entry). fold blocks_after blocks_at_start es) (still_before sync.before sync.queued m.part k.now comes (Started c))
    ∙ fold_both blocks_after blocks_at_start before k.now in
    record {
      part = m.part ++ k.now;
      rest = k.later;
      whole = m.whole ∙ ap (λ (es : List Entry). m.part ++ es) k.whole ∙ sym (append_assoc m.part k.now k.later);
      clean = ap (λ (blocks : Blocks). is_dirty (blocks x)) moment ∙ k.clean;
    }
