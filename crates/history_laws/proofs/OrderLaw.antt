-- Each start comes in the order of task attributes.
use Rattle.std.proofs.Common.{◌≡◌, ◌∙◌, ap, sym, refl, ℕ, ◌+◌, Bool, true, false, not, cond, nat_eq, List, [], ◌∷◌, ◌++◌, map}
use Rattle.std.specs.Prelude.{◌&&◌, ◌||◌, ◌==◌, fold, filter, find, Option, Some}
use Rattle.std.specs.List.{list_any}
use Rattle.std.specs.Option.{option_map, option_map_or, is_none}
use Rattle.std.proofs.lemmas.Bool.{eq-eqb, eqb-true}
use Rattle.disk_base.specs.Along.{all_along}
use Rattle.disk_base.specs.declared.address.Tag.{Tag}
use Rattle.disk_base.specs.declared.command.Attribute.{Attribute}
use Rattle.disk_base.specs.declared.command.Attribute.TheVariants.{Simple, Ordered, Head}
use Rattle.disk_base.specs.declared.command.DataOut.{DataOut}
use Rattle.task_set.specs.declared.member.Member.{Member}
use Rattle.task_set.specs.declared.task.Task.{Task}
use Rattle.task_set.specs.MayStart.{forbids, forbids_by}
use Rattle.task_set.specs.Members.{with_started, without, numbers, is_named, first_forbidding}
use Rattle.block_machine.specs.declared.entry.Entry.{Entry}
use Rattle.block_machine.specs.declared.entry.Entry.TheVariants.{Arrived, Started, Get, Put, Harden, Passed, GiveUp, Page, Ended, Aborted, Asked, Mode, Scanned, Logged, Cut, PoweredOn, Tick, Blank, Fresh}
use Rattle.block_machine.specs.declared.turn.Label.{Label}
use Rattle.block_machine.specs.declared.turn.Label.TheVariants.{Arrive, Work, Job, Scan, Destage, World}
use Rattle.block_machine.specs.declared.turn.Turn.{Turn}
use Rattle.block_machine.specs.State.{State, is_full, state_at_start}
use Rattle.block_machine.specs.Steps.{entry_after, entries_after, begun, task_arrived}
use Rattle.block_machine.specs.Entries.{entry_lawful, works_on}
use Rattle.block_machine.specs.Turns.{named_by, are_aborted, is_answered, arrival_lawful, work_lawful, starts_alone, entries_lawful, tasks_lawful, turn_after}
use Rattle.block_machine.specs.History.{task_legal_from, entries_of}
use Rattle.block_machine.specs.Laws.{OfTaskLegalHistories}
use Rattle.block_machine.proofs.Alongs.{along_both}
use Rattle.block_machine.proofs.Booleans.{and_both, both, neither}
use Rattle.history_laws.specs.Order.{Inside, others, inside_after, keeps_back, is_free, starts_in_order, TasksStartInOrder}

-- what the entries tell of a command of the task set
abbrev told_of : Member → Inside
told_of m = record { c = m.task.c; attribute = m.task.attribute }

abbrev all_told : List Member → List Inside
all_told set = map told_of set

told_if : (t : Bool) (m : Member) (rest : List Member) → all_told (cond t (m ∷ rest) rest) ≡ cond t (told_of m ∷ all_told rest) (all_told rest)
told_if true m rest = refl
told_if false m rest = refl

told_without : (c : ℕ) (set : List Member) → all_told (without set c) ≡ others c (all_told set)
told_without c [] = refl
told_without c (m ∷ set) =
    told_if (not (m.task.c == c)) m (without set c)
    ∙ ap (λ (xs : List Inside). cond (not (m.task.c == c)) (told_of m ∷ xs) xs) (told_without c set)

told_start : (t : Bool) (m : Member) → told_of (cond t (record m { started = true }) m) ≡ told_of m
told_start true m = refl
told_start false m = refl

told_started : (c : ℕ) (set : List Member) → all_told (with_started set c) ≡ all_told set
told_started c [] = refl
told_started c (m ∷ set) =
    ap (λ (x : Inside). x ∷ all_told (with_started set c)) (told_start (m.task.c == c) m)
    ∙ ap (λ (xs : List Inside). told_of m ∷ xs) (told_started c set)

told_append : (set : List Member) (m : Member) → all_told (set ++ m ∷ []) ≡ all_told set ++ told_of m ∷ []
told_append [] m = refl
told_append (n ∷ set) m = ap (λ (xs : List Inside). told_of n ∷ xs) (told_append set m)

-- a command that finds no room leaves the others as they were
without_last_one : (t : Bool) (x : Inside) (xs : List Inside) → t ≡ true → cond (not t) (x ∷ xs) xs ≡ xs
without_last_one true x xs e = refl
without_last_one false x xs e = absurd (cc)

without_last : (c : ℕ) (x : Inside) (xs : List Inside) → nat_eq x.c c ≡ true → others c (xs ++ x ∷ []) ≡ others c xs
without_last c x [] e = without_last_one (x.c == c) x [] e
without_last c x (y ∷ xs) e = ap (λ (ys : List Inside). cond (not (y.c == c)) (y ∷ ys) ys) (without_last c x xs e)

-- what doesn't forbid a start by its attribute doesn't keep the command back
apart : (a b : Attribute) (other task : Task) → forbids_by a b other task ≡ false
    → keeps_back (record { c = other.c; attribute = b }) (record { c = task.c; attribute = a }) ≡ false
apart Head b other task h = refl
apart Simple Head other task h = h
apart Ordered Head other task h = h
apart Ordered Simple other task h = h
apart Ordered Ordered other task h = h
apart Simple Ordered other task h = h
apart Simple Simple other task h = refl

free_one : (t : Bool) (m : Member) (o : Option Member) (x y : Bool) → is_none (option_map (λ (n : Member). n.task.c) (cond t (Some m) o)) ≡ true → (t ≡ false → x ≡ false)
    → (is_none (option_map (λ (n : Member). n.task.c) o) ≡ true → y ≡ false) → (x || y) ≡ false
free_one true m o x y h f g = absurd (cc)
free_one false m o x y h f g = neither x y (f refl) (g h)

free : (set : List Member) (task : Task) → is_none (first_forbidding set task) ≡ true
    → list_any (λ other. keeps_back other (record { c = task.c; attribute = task.attribute })) (all_told set) ≡ false
free [] task h = refl
free (m ∷ set) task h =
    free_one (forbids m.task task) m (find (λ n. forbids n.task task) set) (keeps_back (told_of m) (record { c = task.c; attribute = task.attribute })) _ h
    (apart task.attribute m.task.attribute m.task task) (free set task)

-- a command that may start is found among those that are in, and is free
found_one : (t : Bool) (set : List Member) (m : Member) (o : Option Member) (p : Option Inside)
    → option_map_or (λ m. not m.started && is_none (first_forbidding set m.task)) (cond t (Some m) o) false ≡ true
    → (option_map_or (λ m. not m.started && is_none (first_forbidding set m.task)) o false ≡ true → option_map_or (is_free (all_told set)) p false ≡ true)
    → option_map_or (is_free (all_told set)) (cond t (Some (told_of m)) p) false ≡ true
found_one true set m o p h f = ap not (free set m.task (both (not m.started) _ h).1)
found_one false set m o p h f = f h

found : (c : ℕ) (set part : List Member) → option_map_or (λ m. not m.started && is_none (first_forbidding set m.task)) (find (λ m. m.task.c == c) part) false ≡ true
    → option_map_or (is_free (all_told set)) (find (λ x. x.c == c) (all_told part)) false ≡ true
found c set [] h = absurd (cc)
found c set (m ∷ part) h = found_one (m.task.c == c) set m (find (λ n. n.task.c == c) part) (find (λ x. x.c == c) (all_told part)) h (found c set part)

-- an entry of a turn that isn't an arrival
record OneInOrder (s u : State) (e : Entry) : Type 0 where
  ok : starts_in_order (all_told s.set) e ≡ true
  at : all_told u.set ≡ inside_after (all_told s.set) e

one_in_order : (capacity : ℕ) (label : Label) (s : State) (e : Entry) → entry_lawful capacity label s e ≡ true → OneInOrder s (entry_after capacity label s e) e
one_in_order capacity label s (Started c) h = record { ok = found c s.set s.set (both (works_on label c) _ h).1; at = told_started c s.set }
one_in_order capacity label s (Ended c reply) h = record { ok = refl; at = told_without c s.set }
one_in_order capacity label s Cut h = record { ok = refl; at = refl }
one_in_order capacity label s (Arrived c i t a cdb sent) h = absurd (cc)
one_in_order capacity label s (Asked i what) h = absurd (cc)
one_in_order capacity label s (Aborted c) h = absurd (cc)
one_in_order capacity label s (Get c b v) h = record { ok = refl; at = refl }
one_in_order capacity label s (Put c b v) h = record { ok = refl; at = refl }
one_in_order capacity label s (Harden who b) h = record { ok = refl; at = refl }
one_in_order capacity label s (Passed c from to) h = record { ok = refl; at = refl }
one_in_order capacity label s (Page c bytes) h = record { ok = refl; at = refl }
one_in_order capacity label s (Blank c) h = record { ok = refl; at = refl }
one_in_order capacity label s (Fresh c) h = record { ok = refl; at = refl }
one_in_order capacity label s (Mode settings) h = record { ok = refl; at = refl }
one_in_order capacity label s (GiveUp b) h = record { ok = refl; at = refl }
one_in_order capacity label s (Scanned b what) h = record { ok = refl; at = refl }
one_in_order capacity label s (Logged finding) h = record { ok = refl; at = refl }
one_in_order capacity label s (PoweredOn outcome) h = record { ok = refl; at = refl }
one_in_order capacity label s (Tick minutes) h = record { ok = refl; at = refl }

-- entries, one after another
record InOrder (inside : List Inside) (u : State) (entries : List Entry) : Type 0 where
  ok : all_along inside_after starts_in_order inside entries ≡ true
  at : all_told u.set ≡ fold inside_after inside entries

works_in_order : (capacity : ℕ) (label : Label) (s : State) (entries : List Entry) (inside : List Inside) → all_along (entry_after capacity label) (entry_lawful capacity label) s entries ≡ true
    → all_told s.set ≡ inside → InOrder inside (entries_after capacity label s entries) entries
works_in_order capacity label s [] inside h i = record { ok = refl; at = i }
works_in_order capacity label s (e ∷ entries) inside h i =
    let now = both (entry_lawful capacity label s e) _ h in
    let one = one_in_order capacity label s e now.0 in
    let rest = works_in_order capacity label (entry_after capacity label s e) entries (inside_after inside e) now.1
    (one.at ∙ ap (λ (xs : List Inside). inside_after xs e) i) in
    record { ok = and_both (starts_in_order inside e) _ (ap (λ (xs : List Inside). starts_in_order xs e) (sym i) ∙ one.ok) rest.ok; at = rest.at }

-- commands that a function ends
aborts_in_order : (capacity i : ℕ) (s : State) (cs : List ℕ) (entries : List Entry) (inside : List Inside) → are_aborted cs entries ≡ true
    → all_told s.set ≡ inside → InOrder inside (entries_after capacity (Arrive i) s entries) entries
aborts_in_order capacity i s [] [] inside h at = record { ok = refl; at = at }
aborts_in_order capacity i s (k ∷ cs) (Aborted n ∷ entries) inside h at =
    let now = both (k == n) _ h in
    let rest = aborts_in_order capacity i (entry_after capacity (Arrive i) s (Aborted n)) cs entries (others n inside) now.1
    (told_without n s.set ∙ ap (λ (xs : List Inside). others n xs) at) in
    record { ok = rest.ok; at = rest.at }
aborts_in_order capacity i s cs entries inside h at = absurd (cc)

-- a command that comes, and finds room or not
comes_in : (capacity i d : ℕ) (s : State) (full : Bool) (entries : List Entry) (inside : List Inside) (j : ℕ) (tag : Tag) (a : Attribute) (cdb : List ℕ) (sent : DataOut)
    → is_full s ≡ full → is_answered full d entries ≡ true → all_told s.set ≡ inside
    → InOrder inside (entries_after capacity (Arrive i) s (Arrived d j tag a cdb sent ∷ entries)) (Arrived d j tag a cdb sent ∷ entries)
comes_in capacity i d s false [] inside j tag a cdb sent e h at =
    let m : Member = record { task = task_arrived capacity d j tag a cdb sent; started = false } in
    record {
      ok = refl;
      at = ap (λ (t : Bool). all_told (cond t s.set (s.set ++ m ∷ []))) e ∙ told_append s.set m ∙ ap (λ (xs : List Inside). xs ++ told_of m ∷ []) at;
    }
comes_in capacity i d s true (Ended n reply ∷ []) inside j tag a cdb sent e h at =
    let m : Member = record { task = task_arrived capacity d j tag a cdb sent; started = false } in
    let same : n ≡ d = eqb-true n d (both (n == d) _ h).0 in
    record {
      ok = refl;
      at = ap (λ (t : Bool). all_told (without (cond t s.set (s.set ++ m ∷ [])) n)) e ∙ told_without n s.set ∙ ap (λ (xs : List Inside). others n xs) at
          ∙ sym (without_last n (told_of m) inside (eq-eqb d n (sym same)));
    }
comes_in capacity i d s full entries inside j tag a cdb sent e h at = absurd (cc)

arrivals_in_order : (capacity i : ℕ) (s : State) (entries : List Entry) (inside : List Inside) → arrival_lawful s i entries ≡ true
    → all_told s.set ≡ inside → InOrder inside (entries_after capacity (Arrive i) s entries) entries
arrivals_in_order capacity i s (Arrived d j tag a cdb sent ∷ entries) inside h at =
    comes_in capacity i d s (is_full s) entries inside j tag a cdb sent refl (both (j == i && d == s.arrived + 1) _ h).1 at
arrivals_in_order capacity i s (Asked j what ∷ entries) inside h at =
    let rest = aborts_in_order capacity i (entry_after capacity (Arrive i) s (Asked j what)) (numbers (filter (is_named (named_by i what)) s.set)) entries inside (both (j == i) _ h).1 at in
    record { ok = rest.ok; at = rest.at }
arrivals_in_order capacity i s entries inside h at = absurd (cc)

working_in_order : (capacity : ℕ) (label : Label) (s : State) (entries : List Entry) (inside : List Inside) → work_lawful capacity label s entries ≡ true
    → all_told s.set ≡ inside → InOrder inside (entries_after capacity label s entries) entries
working_in_order capacity label s entries inside h at =
    works_in_order capacity label s entries inside (both (starts_alone entries) _ (both (starts_alone entries && all_along (entry_after capacity label) (entry_lawful capacity label) s entries) _ h).0).1 at

label_in_order : (capacity : ℕ) (label : Label) (s : State) (entries : List Entry) (inside : List Inside) → entries_lawful capacity label s entries ≡ true
    → all_told s.set ≡ inside → InOrder inside (entries_after capacity label s entries) entries
label_in_order capacity (Arrive i) s entries inside h at = arrivals_in_order capacity i s entries inside h at
label_in_order capacity (Work c) s entries inside h at = working_in_order capacity (Work c) s entries inside h at
label_in_order capacity (Job j) s entries inside h at = working_in_order capacity (Job j) s entries inside h at
label_in_order capacity Scan s entries inside h at = working_in_order capacity Scan s entries inside h at
label_in_order capacity Destage s entries inside h at = working_in_order capacity Destage s entries inside h at
label_in_order capacity (World w) s entries inside h at = working_in_order capacity (World w) s entries inside h at

begun_told : (label : Label) (s : State) → all_told (begun s label).set ≡ all_told s.set
begun_told (Work c) s = refl
begun_told (Arrive i) s = refl
begun_told (Job j) s = refl
begun_told Scan s = refl
begun_told Destage s = refl
begun_told (World w) s = refl

turns_in_order : (capacity : ℕ) (s : State) (turns : List Turn) (inside : List Inside) → task_legal_from capacity s turns ≡ true → all_told s.set ≡ inside
    → all_along inside_after starts_in_order inside (entries_of turns) ≡ true
turns_in_order capacity s [] inside h at = refl
turns_in_order capacity s (turn ∷ turns) inside h at =
    let now = both (tasks_lawful capacity s turn) _ h in
    let here = label_in_order capacity turn.label (begun s turn.label) turn.entries inside now.0 (begun_told turn.label s ∙ at) in
    let later = turns_in_order capacity (turn_after capacity s turn) turns (fold inside_after inside turn.entries) now.1 here.at in
    along_both inside_after starts_in_order inside turn.entries (entries_of turns)
    ∙ and_both (all_along inside_after starts_in_order inside turn.entries) _ here.ok later

pub tasks_start_in_order : OfTaskLegalHistories TasksStartInOrder
tasks_start_in_order capacity waiting turns legal = turns_in_order capacity (state_at_start waiting) turns [] legal refl
