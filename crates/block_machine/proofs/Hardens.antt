-- What was put is hardened by a sync, and by a write that goes through; and then it stands.
use Rattle.std.proofs.Common.{◌≡◌, ◌∙◌, ap, sym, refl, ℕ, zero, suc, ◌+◌, Bool, true, false, not, cond, nat_eq, List, [], ◌∷◌, ◌++◌, append_assoc}
use Rattle.std.specs.Prelude.{◌&&◌, fold}
use Rattle.std.specs.List.{list_all}
use Rattle.std.proofs.lemmas.Bool.{eq-eqb, eqb-true}
use Rattle.disk_base.specs.Along.{all_along}
use Rattle.disk_base.specs.declared.address.Lba.{Lba}
use Rattle.disk_base.specs.declared.block.Value.TheVariants.{Data}
use Rattle.disk_base.specs.declared.command.DataOut.{DataOut}
use Rattle.sense_data.specs.declared.reply.Reply.{Reply}
use Rattle.sense_data.specs.Attentions.{Waiting}
use Rattle.cdb_reader.specs.Plan.{block_of}
use Rattle.block_machine.specs.declared.entry.Who.{Who}
use Rattle.block_machine.specs.declared.entry.Who.TheVariants.{Command, Drive}
use Rattle.block_machine.specs.declared.entry.Entry.{Entry}
use Rattle.block_machine.specs.declared.entry.Entry.TheVariants.{Arrived, Started, Get, Put, Harden, Passed, GiveUp, Ended, Aborted, Cut}
use Rattle.block_machine.specs.declared.turn.Turn.{Turn}
use Rattle.block_machine.specs.Blocks.{blocks_at_start, zeros, hardened_with, is_dirty}
use Rattle.block_machine.specs.State.{state_at_start}
use Rattle.block_machine.specs.Turns.{turn_after, tasks_lawful, blocks_lawful}
use Rattle.block_machine.specs.History.{task_legal_from, entries_of}
use Rattle.block_machine.specs.Parts.{Life, arrival, before_start, since_arrival, GetOf, PutOf, HardenOf}
use Rattle.block_machine.specs.Laws.{OfLegalHistories, IsLegal, renews, is_cut, newest_after, last_put, Mark, Wrote, Forced, Found, marks_after, marks_of, written_through, is_forced}
use Rattle.block_machine.specs.KeptValues.{pending_after, is_pending}
use Rattle.block_machine.specs.Lives.{RenewalOf, SyncsHardenWhatWasPut, ForcedWritesStand, SyncedValuesStand}
use Rattle.block_machine.specs.Stages.{Stage, Coming, Queued, AtWork, Gone, is_coming, cut_off, stage_after, fits_stage}
use Rattle.block_machine.proofs.Alongs.{fold_both, along_left, along_second}
use Rattle.block_machine.proofs.BlockLaws.{hardened_values_stay}
use Rattle.block_machine.proofs.KeptValues.{newest_stays, pending_along, one_block}
use Rattle.block_machine.proofs.Ends.{gone_for_good}
use Rattle.block_machine.proofs.StageLaw.{entries_fit_their_stage}
use Rattle.block_machine.proofs.SyncLaw.{syncs_find_each_block_hardened}
use Rattle.block_machine.proofs.WriteLaw.{forced_writes_are_hardened}
use Rattle.block_machine.proofs.Booleans.{and_assoc, and_both, both}

-- a test of all along both parts
all_both : (q : Entry → Bool) (xs ys : List Entry) → list_all q (xs ++ ys) ≡ (list_all q xs && list_all q ys)
all_both q [] ys = refl
all_both q (x ∷ xs) ys = ap (λ (t : Bool). q x && t) (all_both q xs ys) ∙ sym (and_assoc (q x) (list_all q xs) (list_all q ys))

all_parts : (q : Entry → Bool) (xs ys : List Entry) → list_all q (xs ++ ys) ≡ true → (list_all q xs ≡ true) × (list_all q ys ≡ true)
all_parts q xs ys h = both (list_all q xs) (list_all q ys) (sym (all_both q xs ys) ∙ h)

all_of_both : (q : Entry → Bool) (xs ys : List Entry) → list_all q xs ≡ true → list_all q ys ≡ true → list_all q (xs ++ ys) ≡ true
all_of_both q xs ys h k = all_both q xs ys ∙ and_both (list_all q xs) (list_all q ys) h k

-- a command that came isn't still to come
came_if : (t : Bool) (new stage : Stage) → is_coming new ≡ false → is_coming stage ≡ false → is_coming (cond t new stage) ≡ false
came_if true new stage h k = h
came_if false new stage h k = k

came_cut : (stage : Stage) → is_coming stage ≡ false → cut_off stage ≡ Gone
came_cut Coming h = absurd (cc)
came_cut Queued h = refl
came_cut AtWork h = refl
came_cut Gone h = refl

came_stays : (c : ℕ) (stage : Stage) (e : Entry) → is_coming stage ≡ false → is_coming (stage_after c stage e) ≡ false
came_stays c stage (Arrived d i t a cdb sent) h = came_if (nat_eq c d) Queued stage refl h
came_stays c stage (Started d) h = came_if (nat_eq c d) AtWork stage refl h
came_stays c stage (Ended d reply) h = came_if (nat_eq c d) Gone stage refl h
came_stays c stage (Aborted d) h = came_if (nat_eq c d) Gone stage refl h
came_stays c stage Cut h = ap is_coming (came_cut stage h)
came_stays c stage other h = h

-- between its arrival and its end the power stays on
not_cut_off : (t : Bool) (c : ℕ) (reply : Reply) (stage : Stage) (e : Entry) (entries behind : List Entry) → is_cut e ≡ t → is_coming stage ≡ false
    → all_along (stage_after c) (fits_stage c) (stage_after c stage e) (entries ++ Ended c reply ∷ behind) ≡ true → not (is_cut e) ≡ true
not_cut_off false c reply stage e entries behind is came h = ap not is
not_cut_off true c reply stage Cut entries behind is came h =
    absurd (gone_for_good c reply entries behind (ap (λ (x : Stage). all_along (stage_after c) (fits_stage c) x (entries ++ Ended c reply ∷ behind)) (sym (came_cut stage came)) ∙ h))
not_cut_off true c reply stage other entries behind is came h = absurd (cc)

power_stays : (c : ℕ) (reply : Reply) (stage : Stage) (entries behind : List Entry) → is_coming stage ≡ false
    → all_along (stage_after c) (fits_stage c) stage (entries ++ Ended c reply ∷ behind) ≡ true → list_all (λ e. not (is_cut e)) entries ≡ true
power_stays c reply stage [] behind came h = refl
power_stays c reply stage (e ∷ entries) behind came h =
    let now = both (fits_stage c stage e) _ h in
    and_both (not (is_cut e)) _ (not_cut_off (is_cut e) c reply stage e entries behind refl came now.1)
    (power_stays c reply (stage_after c stage e) entries behind (came_stays c stage e came) now.1)

-- a command's work is done without a power cut
in_order : (first queued rest : List Entry) (came start : Entry) → first ++ came ∷ (queued ++ start ∷ rest) ≡ (first ++ came ∷ queued) ++ start ∷ rest
in_order first queued rest came start = simp append_assoc

pub power_while_at_work : (capacity : ℕ) (waiting : Waiting) (turns : List Turn) → task_legal_from capacity (state_at_start waiting) turns ≡ true → (life : Life turns)
    → list_all (λ e. not (is_cut e)) life.during ≡ true
power_while_at_work capacity waiting turns legal life =
    let c : ℕ = life.command.number in
    let rest : List Entry = life.during ++ Ended c life.reply ∷ life.behind in
    let order : entries_of turns ≡ before_start life ++ Started c ∷ rest = life.whole ∙ in_order life.before life.queued rest (arrival life.command) (Started c) in
    let all : all_along (stage_after c) (fits_stage c) Coming (before_start life ++ Started c ∷ rest) ≡ true =
    ap (λ (es : List Entry). all_along (stage_after c) (fits_stage c) Coming es) (sym order) ∙ entries_fit_their_stage capacity waiting turns legal c in
    let stage : Stage = fold (stage_after c) Coming (before_start life) in
    let h = both (fits_stage c stage (Started c)) _ (along_second (stage_after c) (fits_stage c) Coming (before_start life) (Started c ∷ rest) all) in
    let started : stage_after c stage (Started c) ≡ AtWork = ap (λ (t : Bool). cond t AtWork stage) (eq-eqb c c refl) in
    power_stays c life.reply AtWork life.during life.behind refl (ap (λ (x : Stage). all_along (stage_after c) (fits_stage c) x rest) (sym started) ∙ h.1)

one_earlier : (a : Lba) (e : Entry) (entries : List Entry) → HardenOf a entries → HardenOf a (e ∷ entries)
one_earlier a e entries i = record { who = i.who; before = e ∷ i.before; behind = i.behind; whole = ap (λ (es : List Entry). e ∷ es) i.whole }

same_lba : (a b : Lba) → a.0 ≡ b.0 → a ≡ b
same_lba a b e = ap (λ (n : ℕ). record { 0 = n }) e

harden_here : (t : Bool) (a b : Lba) (who : Who) (entries : List Entry) → nat_eq a.0 b.0 ≡ t → (cond t false true ≡ true → HardenOf a entries) → HardenOf a (Harden who b ∷ entries)
harden_here true a b who entries e f =
    record { who = who; before = []; behind = entries; whole = ap (λ (x : Lba). Harden who x ∷ entries) (sym (same_lba a b (eqb-true a.0 b.0 e))) }
harden_here false a b who entries e f = one_earlier a (Harden who b) entries (f refl)

true_if : (t : Bool) → cond t true true ≡ true
true_if true = refl
true_if false = refl

-- what was pending and isn't any more was hardened, where the power stayed on
hardened_since : (a : Lba) (entries : List Entry) → fold (pending_after a.0) true entries ≡ false → list_all (λ e. not (is_cut e)) entries ≡ true → HardenOf a entries
hardened_since a [] h k = absurd (cc)
hardened_since a (Put c b v ∷ entries) h k =
    one_earlier a (Put c b v) entries (hardened_since a entries (ap (λ (p : Bool). fold (pending_after a.0) p entries) (sym (true_if (nat_eq a.0 b.0))) ∙ h) k)
hardened_since a (GiveUp b ∷ entries) h k =
    one_earlier a (GiveUp b) entries (hardened_since a entries (ap (λ (p : Bool). fold (pending_after a.0) p entries) (sym (true_if (nat_eq a.0 b.0))) ∙ h) k)
hardened_since a (Harden who b ∷ entries) h k =
    harden_here (nat_eq a.0 b.0) a b who entries refl (λ e. hardened_since a entries (ap (λ (p : Bool). fold (pending_after a.0) p entries) (sym e) ∙ h) k)
hardened_since a (Cut ∷ entries) h k = absurd (cc)
hardened_since a (e ∷ entries) h k = one_earlier a e entries (hardened_since a entries h (both (not (is_cut e)) _ k).1)

-- something is pending after an entry that renews the block
renewal_pends : (b : ℕ) (pending : Bool) (e : Entry) → renews b e ≡ true → pending_after b pending e ≡ true
renewal_pends b pending (Put c a v) h = ap (λ (t : Bool). cond t true pending) h
renewal_pends b pending (GiveUp a) h = ap (λ (t : Bool). cond t true pending) h
renewal_pends b pending other h = absurd (cc)

-- entries from a renewal on
from_put : (before since rest : List Entry) (put start : Entry) → (before ++ put ∷ since) ++ start ∷ rest ≡ before ++ put ∷ (since ++ start ∷ rest)
from_put before since rest put start = simp append_assoc

further : (since part rest : List Entry) (start : Entry) → since ++ start ∷ (part ++ rest) ≡ (since ++ start ∷ part) ++ rest
further since part rest start = simp append_assoc

further_harden : (part rest more : List Entry) (harden : Entry) → (part ++ harden ∷ rest) ++ more ≡ part ++ harden ∷ (rest ++ more)
further_harden part rest more harden = simp append_assoc

pub syncs_harden_what_was_put : OfLegalHistories SyncsHardenWhatWasPut
syncs_harden_what_was_put capacity waiting turns legal a sync renewal asks success no_cut =
    let x = sync.command in
    let start : Entry = Started x.number in
    let e : Entry = renewal.entry in
    let before : List Entry = renewal.before in
    let since : List Entry = renewal.behind in
    let task_legal = along_left (turn_after capacity) (tasks_lawful capacity) (λ s turn. blocks_lawful capacity s.blocks turn.entries) (state_at_start waiting) turns legal in
    let m = syncs_find_each_block_hardened capacity waiting turns legal sync a.0 asks success in
    let until : List Entry = sync.before ++ arrival x ∷ (sync.queued ++ start ∷ m.part) in
    let order : until ≡ before ++ e ∷ (since ++ start ∷ m.part) =
    in_order sync.before sync.queued m.part (arrival x) start ∙ ap (λ (es : List Entry). es ++ start ∷ m.part) renewal.whole ∙ from_put before since m.part e start in
    let clean : is_pending a.0 until ≡ false =
    sym (pending_along a.0 (hardened_with zeros) until) ∙ ap is_dirty (sym (one_block a.0 blocks_at_start until)) ∙ m.clean in
    let then : fold (pending_after a.0) true (since ++ start ∷ m.part) ≡ false =
    ap (λ (p : Bool). fold (pending_after a.0) p (since ++ start ∷ m.part)) (sym (renewal_pends a.0 (is_pending a.0 before) e renewal.renewing))
    ∙ sym (fold_both (pending_after a.0) false before (e ∷ (since ++ start ∷ m.part)))
    ∙ ap (λ (es : List Entry). is_pending a.0 es) (sym order) ∙ clean in
    let on : list_all (λ e. not (is_cut e)) m.part ≡ true =
    (all_parts (λ e. not (is_cut e)) m.part m.rest (ap (λ (es : List Entry). list_all (λ e. not (is_cut e)) es) (sym m.whole) ∙ power_while_at_work capacity waiting turns task_legal sync)).0 in
    let h = hardened_since a (since ++ start ∷ m.part) then (all_of_both (λ e. not (is_cut e)) since (start ∷ m.part) no_cut on) in
    record {
      who = h.who;
      before = h.before;
      behind = h.behind ++ m.rest;
      whole = ap (λ (es : List Entry). since ++ start ∷ es) m.whole ∙ further since m.part m.rest start ∙ ap (λ (es : List Entry). es ++ m.rest) h.whole
          ∙ further_harden h.before h.behind m.rest (Harden h.who a);
    }

-- a value that was put and hardened stands
last_is : (before since : List Entry) (c : ℕ) (a : Lba) (v : List ℕ) → list_all (λ e. not (renews a.0 e)) since ≡ true → last_put a.0 (before ++ Put c a v ∷ since) ≡ Data v
last_is before since c a v none =
    fold_both (newest_after a.0) zeros before (Put c a v ∷ since)
    ∙ ap (λ (t : Bool). fold (newest_after a.0) (cond t (Data v) (last_put a.0 before)) since) (eq-eqb a.0 a.0 refl)
    ∙ newest_stays a.0 (Data v) since none

-- .. until a later get, where nothing newer came
stands : (capacity : ℕ) (waiting : Waiting) (turns : List Turn) → IsLegal capacity waiting turns → (a : Lba) (get : GetOf a (entries_of turns)) (harden : HardenOf a get.before) (put : PutOf a harden.before)
    → list_all (λ e. not (renews a.0 e)) put.behind ≡ true → list_all (λ e. not (renews a.0 e)) harden.behind ≡ true → get.block ≡ put.block
stands capacity waiting turns legal a get harden put none later =
    let same : Data get.block ≡ Data put.block =
    sym (hardened_values_stay capacity waiting turns legal a get harden later)
    ∙ ap (λ (es : List Entry). last_put a.0 es) put.whole ∙ last_is put.before put.behind put.writer a put.block none in
    cc

to_the_get : (before stretch between rest : List Entry) (put end get : Entry)
    → before ++ put ∷ (stretch ++ end ∷ (between ++ get ∷ rest)) ≡ (before ++ put ∷ (stretch ++ end ∷ between)) ++ get ∷ rest
to_the_get before stretch between rest put end get = simp append_assoc

to_the_harden : (before part over between : List Entry) (put harden end : Entry)
    → before ++ put ∷ ((part ++ harden ∷ over) ++ end ∷ between) ≡ (before ++ put ∷ part) ++ harden ∷ (over ++ end ∷ between)
to_the_harden before part over between put harden end = simp append_assoc

-- a put, a harden behind it in the same stretch, and a later read
harden_between : (capacity : ℕ) (waiting : Waiting) (turns : List Turn) → IsLegal capacity waiting turns → (before stretch between rest : List Entry) (c d : ℕ) (end : Entry)
    (a : Lba) (v w : List ℕ) (harden : HardenOf a stretch)
    → entries_of turns ≡ before ++ Put c a v ∷ (stretch ++ end ∷ (between ++ Get d a (Data w) ∷ rest))
    → list_all (λ e. not (renews a.0 e)) stretch ≡ true → not (renews a.0 end) ≡ true → list_all (λ e. not (renews a.0 e)) between ≡ true → w ≡ v
harden_between capacity waiting turns legal before stretch between rest c d end a v w harden is none ending later =
    let q = λ (e : Entry). not (renews a.0 e) in
    let put : Entry = Put c a v in
    let here : Entry = Harden harden.who a in
    let get : Entry = Get d a (Data w) in
    let split = all_parts q harden.before (here ∷ harden.behind) (ap (λ (es : List Entry). list_all q es) (sym harden.whole) ∙ none) in
    stands capacity waiting turns legal a
    (record { reader = d; block = w; before = before ++ put ∷ (stretch ++ end ∷ between); behind = rest; whole = is ∙ to_the_get before stretch between rest put end get })
    (record {
      who = harden.who;
      before = before ++ put ∷ harden.before;
      behind = harden.behind ++ end ∷ between;
      whole = ap (λ (es : List Entry). before ++ put ∷ (es ++ end ∷ between)) harden.whole ∙ to_the_harden before harden.before harden.behind between put here end;
    })
    (record { writer = c; block = v; before = before; behind = harden.before; whole = refl })
    split.0 (all_of_both q harden.behind (end ∷ between) split.1 (and_both (q end) _ ending later))

whole_from_put : (before since during more : List Entry) (put start : Entry) → (before ++ put ∷ since) ++ start ∷ (during ++ more) ≡ before ++ put ∷ ((since ++ start ∷ during) ++ more)
whole_from_put before since during more put start = simp append_assoc

-- a put of a block renews it
abbrev put_renews : (a : Lba) (entries : List Entry) → PutOf a entries → RenewalOf a entries
put_renews a entries put = record { entry = Put put.writer a put.block; renewing = eq-eqb a.0 a.0 refl; before = put.before; behind = put.behind; whole = put.whole }

pub synced_values_stand : OfLegalHistories SyncedValuesStand
synced_values_stand capacity waiting turns legal a sync put get asks success no_cut none_since none_during none_between =
    let x = sync.command in
    let start : Entry = Started x.number in
    let end : Entry = Ended x.number sync.reply in
    let wrote : Entry = Put put.writer a put.block in
    let got : Entry = Get get.reader a (Data get.block) in
    let q = λ (e : Entry). not (renews a.0 e) in
    let stretch : List Entry = put.behind ++ start ∷ sync.during in
    let harden : HardenOf a stretch = syncs_harden_what_was_put capacity waiting turns legal a sync (put_renews a (before_start sync) put) asks success no_cut in
    let order : entries_of turns ≡ put.before ++ wrote ∷ (stretch ++ end ∷ (get.before ++ got ∷ get.behind)) =
    sync.whole ∙ in_order sync.before sync.queued (sync.during ++ end ∷ sync.behind) (arrival x) start
    ∙ ap (λ (es : List Entry). es ++ start ∷ (sync.during ++ end ∷ sync.behind)) put.whole
    ∙ ap (λ (es : List Entry). (put.before ++ wrote ∷ put.behind) ++ start ∷ (sync.during ++ end ∷ es)) get.whole
    ∙ whole_from_put put.before put.behind sync.during (end ∷ (get.before ++ got ∷ get.behind)) wrote start in
    harden_between capacity waiting turns legal put.before stretch get.before get.behind put.writer get.reader end a put.block get.block harden order
    (all_of_both q put.behind (start ∷ sync.during) none_since none_during) refl none_between

-- whether a block was put by marks and not yet forced
open_after : ℕ → Bool → Mark → Bool
open_after x unforced (Wrote b block) = cond (nat_eq b x) true unforced
open_after x unforced (Forced b) = cond (nat_eq b x) false unforced
open_after x unforced (Found from to) = unforced

closed_again : (t : Bool) → cond t false (cond t true false) ≡ false
closed_again true = refl
closed_again false = refl

closed_if : (t : Bool) → cond t false false ≡ false
closed_if true = refl
closed_if false = refl

closed_through : (x b k : ℕ) (sent : DataOut) → fold (open_after x) false (written_through b sent k) ≡ false
unfolding open_after
closed_through x b zero sent = refl
closed_through x b (suc k) sent =
    fold_both (open_after x) false (written_through b sent k) (Wrote (b + k) (block_of sent k) ∷ Forced (b + k) ∷ [])
    ∙ ap (λ (p : Bool). cond (nat_eq (b + k) x) false (cond (nat_eq (b + k) x) true p)) (closed_through x b k sent) ∙ closed_again (nat_eq (b + k) x)

closed_rest : (x : ℕ) (marks : List Mark) → list_all is_forced marks ≡ true → fold (open_after x) false marks ≡ false
unfolding open_after
closed_rest x [] h = refl
closed_rest x (Forced b ∷ marks) h = ap (λ (p : Bool). fold (open_after x) p marks) (closed_if (nat_eq b x)) ∙ closed_rest x marks h
closed_rest x (mark ∷ marks) h = absurd (cc)

-- the same of entries of a command
opens : ℕ → ℕ → Bool → Entry → Bool
opens c x unforced (Put d b v) = cond (nat_eq c d) (cond (nat_eq b.0 x) true unforced) unforced
opens c x unforced (Harden (Command d) b) = cond (nat_eq c d) (cond (nat_eq b.0 x) false unforced) unforced
opens c x unforced other = unforced

opens_if : (t : Bool) (x : ℕ) (g : List Mark) (m : Mark) → fold (open_after x) false (cond t (g ++ m ∷ []) g) ≡ cond t (open_after x (fold (open_after x) false g) m) (fold (open_after x) false g)
opens_if true x g m = fold_both (open_after x) false g (m ∷ [])
opens_if false x g m = refl

same_if : (t p : Bool) → cond t p p ≡ p
same_if true p = refl
same_if false p = refl

opens_one : (c x : ℕ) (g : List Mark) (e : Entry) → fold (open_after x) false (marks_after c g e) ≡ opens c x (fold (open_after x) false g) e
unfolding opens open_after
opens_one c x g (Put d b v) = opens_if (nat_eq c d) x g (Wrote b.0 v)
opens_one c x g (Harden (Command d) b) = opens_if (nat_eq c d) x g (Forced b.0)
opens_one c x g (Passed d from to) = opens_if (nat_eq c d) x g (Found from.0 to.0) ∙ same_if (nat_eq c d) _
opens_one c x g (Harden Drive b) = refl
opens_one c x g other = refl

opens_all : (c x : ℕ) (g : List Mark) (entries : List Entry) → fold (open_after x) false (fold (marks_after c) g entries) ≡ fold (opens c x) (fold (open_after x) false g) entries
opens_all c x g [] = refl
opens_all c x g (e ∷ entries) = opens_all c x (marks_after c g e) entries ∙ ap (λ (p : Bool). fold (opens c x) p entries) (opens_one c x g e)

-- what was put and is not unforced any more was hardened by the command
forced_here : (t u : Bool) (c d : ℕ) (a b : Lba) (entries : List Entry) → nat_eq b.0 a.0 ≡ u → (cond t (cond u false true) true ≡ true → HardenOf a entries)
    → HardenOf a (Harden (Command d) b ∷ entries)
forced_here true true c d a b entries e f =
    record { who = Command d; before = []; behind = entries; whole = ap (λ (x : Lba). Harden (Command d) x ∷ entries) (same_lba b a (eqb-true b.0 a.0 e)) }
forced_here true false c d a b entries e f = one_earlier a (Harden (Command d) b) entries (f refl)
forced_here false u c d a b entries e f = one_earlier a (Harden (Command d) b) entries (f refl)

still_open : (t u : Bool) → cond t (cond u true true) true ≡ true
still_open true true = refl
still_open true false = refl
still_open false u = refl

forced_since : (c : ℕ) (a : Lba) (entries : List Entry) → fold (opens c a.0) true entries ≡ false → HardenOf a entries
unfolding opens
forced_since c a [] h = absurd (cc)
forced_since c a (Put d b v ∷ entries) h =
    one_earlier a (Put d b v) entries (forced_since c a entries (ap (λ (p : Bool). fold (opens c a.0) p entries) (sym (still_open (nat_eq c d) (nat_eq b.0 a.0))) ∙ h))
forced_since c a (Harden (Command d) b ∷ entries) h =
    forced_here (nat_eq c d) (nat_eq b.0 a.0) c d a b entries refl (λ e. forced_since c a entries (ap (λ (p : Bool). fold (opens c a.0) p entries) (sym e) ∙ h))
forced_since c a (Harden Drive b ∷ entries) h = one_earlier a (Harden Drive b) entries (forced_since c a entries h)
forced_since c a (e ∷ entries) h = one_earlier a e entries (forced_since c a entries h)

-- a put of the command opens its block
put_opens : (c d : ℕ) (a : Lba) (v : List ℕ) (unforced : Bool) → d ≡ c → opens c a.0 unforced (Put d a v) ≡ true
unfolding opens
put_opens c d a v unforced own =
    ap (λ (t : Bool). cond t (cond (nat_eq a.0 a.0) true unforced) unforced) (eq-eqb c d (sym own)) ∙ ap (λ (t : Bool). cond t true unforced) (eq-eqb a.0 a.0 refl)

at_put : (queued part since : List Entry) (start put : Entry) → queued ++ start ∷ (part ++ put ∷ since) ≡ (queued ++ start ∷ part) ++ put ∷ since
at_put queued part since start put = simp append_assoc

whole_at_put : (first queued part since more : List Entry) (came start put : Entry)
    → first ++ came ∷ (queued ++ start ∷ ((part ++ put ∷ since) ++ more)) ≡ (first ++ came ∷ (queued ++ start ∷ part)) ++ put ∷ (since ++ more)
whole_at_put first queued part since more came start put = simp append_assoc

pub forced_writes_stand : OfLegalHistories ForcedWritesStand
forced_writes_stand capacity waiting turns legal a write put get from count asks success own none_since none_between =
    let x = write.command in
    let c : ℕ = x.number in
    let start : Entry = Started c in
    let end : Entry = Ended c write.reply in
    let wrote : Entry = Put put.writer a put.block in
    let got : Entry = Get get.reader a (Data get.block) in
    let since : List Entry = put.behind in
    let task_legal = along_left (turn_after capacity) (tasks_lawful capacity) (λ s turn. blocks_lawful capacity s.blocks turn.entries) (state_at_start waiting) turns legal in
    let m = forced_writes_are_hardened capacity waiting turns task_legal write from count asks success in
    let closed : fold (open_after a.0) false (marks_of c (since_arrival write)) ≡ false =
    ap (λ (g : List Mark). fold (open_after a.0) false g) m.1 ∙ fold_both (open_after a.0) false (written_through from x.sent count) m.0
    ∙ ap (λ (p : Bool). fold (open_after a.0) p m.0) (closed_through a.0 from count x.sent) ∙ closed_rest a.0 m.0 m.2 in
    let earlier : List Entry = write.queued ++ start ∷ put.before in
    let order : since_arrival write ≡ earlier ++ wrote ∷ since =
    ap (λ (es : List Entry). write.queued ++ start ∷ es) put.whole ∙ at_put write.queued put.before since start wrote in
    let then : fold (opens c a.0) true since ≡ false =
    ap (λ (p : Bool). fold (opens c a.0) p since) (sym (put_opens c put.writer a put.block (fold (opens c a.0) false earlier) own))
    ∙ sym (fold_both (opens c a.0) false earlier (wrote ∷ since))
    ∙ ap (λ (es : List Entry). fold (opens c a.0) false es) (sym order) ∙ sym (opens_all c a.0 [] (since_arrival write)) ∙ closed in
    let whole : entries_of turns ≡ (write.before ++ arrival x ∷ earlier) ++ wrote ∷ (since ++ end ∷ (get.before ++ got ∷ get.behind)) =
    write.whole ∙ ap (λ (es : List Entry). write.before ++ arrival x ∷ (write.queued ++ start ∷ (es ++ end ∷ write.behind))) put.whole
    ∙ ap (λ (es : List Entry). write.before ++ arrival x ∷ (write.queued ++ start ∷ ((put.before ++ wrote ∷ since) ++ end ∷ es))) get.whole
    ∙ whole_at_put write.before write.queued put.before since (end ∷ (get.before ++ got ∷ get.behind)) (arrival x) start wrote in
    harden_between capacity waiting turns legal (write.before ++ arrival x ∷ earlier) since get.before get.behind put.writer get.reader end a put.block get.block
    (forced_since c a since then) whole none_since refl none_between
