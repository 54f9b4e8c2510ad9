-- A history as single steps: turns begin, and entries come.
use Rattle.std.proofs.Common.{◌≡◌, ◌∙◌, ap, refl, ℕ, Bool, true, false, cond, List, [], ◌∷◌, ◌++◌}
use Rattle.std.specs.Prelude.{◌&&◌, ◌+◌, ◌==◌, fold, None}
use Rattle.std.specs.Option.{is_none}
use Rattle.std.proofs.lemmas.Bool.{eq-eqb, eqb-true}
use Rattle.disk_base.specs.Along.{all_along}
use Rattle.cdb_reader.specs.Replies.{same_reply}
use Rattle.block_machine.specs.declared.entry.Entry.{Entry}
use Rattle.block_machine.specs.declared.entry.Entry.TheVariants.{Arrived, Ended, Aborted, Asked}
use Rattle.block_machine.specs.declared.turn.Label.{Label}
use Rattle.block_machine.specs.declared.turn.Label.TheVariants.{Arrive, Work, Job, Scan, Destage, World}
use Rattle.block_machine.specs.declared.turn.Turn.{Turn}
use Rattle.disk_base.specs.At.{put_at}
use Rattle.block_machine.specs.State.{State, Duty, is_full}
use Rattle.block_machine.specs.Steps.{entry_after, entries_after, begun}
use Rattle.block_machine.specs.Entries.{entry_lawful}
use Rattle.block_machine.specs.Turns.{task_set_full, are_aborted, is_answered, arrival_lawful, starts_alone, entries_lawful, work_lawful, tasks_lawful, turn_after}
use Rattle.block_machine.specs.History.{task_legal_from, entries_of}
use Rattle.block_machine.proofs.Alongs.{along_both}
use Rattle.block_machine.proofs.Booleans.{and_both, both}

pub data Step : Type 0 where
  Begins : (label : Label) → Step
  Does : (label : Label) (e : Entry) → Step

abbrev pub step_after : ℕ → State → Step → State
step_after capacity s (Begins label) = begun s label
step_after capacity s (Does label e) = entry_after capacity label s e

-- what is known of an entry in the turn of an arrival
abbrev pub arrival_ok : State → Entry → Bool
arrival_ok s (Arrived c i t a cdb sent) = c == s.arrived + 1
arrival_ok s (Ended c reply) = same_reply reply task_set_full && is_none (s.duties c).owes
arrival_ok s (Aborted c) = true
arrival_ok s (Asked i what) = true
arrival_ok s other = false

-- and of an entry in any turn
abbrev pub entry_ok : ℕ → Label → State → Entry → Bool
entry_ok capacity (Arrive i) s e = arrival_ok s e
entry_ok capacity label s e = entry_lawful capacity label s e

abbrev pub step_ok : ℕ → State → Step → Bool
step_ok capacity s (Begins label) = true
step_ok capacity s (Does label e) = entry_ok capacity label s e

abbrev pub does_all : Label → List Entry → List Step
does_all label [] = []
does_all label (e ∷ entries) = Does label e ∷ does_all label entries

abbrev pub steps_of : List Turn → List Step
steps_of [] = []
steps_of (turn ∷ turns) = Begins turn.label ∷ (does_all turn.label turn.entries ++ steps_of turns)

-- the state after entries, step by step
pub fold_does : (capacity : ℕ) (label : Label) (s : State) (entries : List Entry)
    → fold (step_after capacity) s (does_all label entries) ≡ entries_after capacity label s entries
fold_does capacity label s [] = refl
fold_does capacity label s (e ∷ entries) = fold_does capacity label (entry_after capacity label s e) entries

-- entries of a turn that isn't an arrival
works_ok : (capacity : ℕ) (label : Label) → ((s : State) (e : Entry) → entry_ok capacity label s e ≡ entry_lawful capacity label s e) → (s : State) (entries : List Entry)
    → all_along (entry_after capacity label) (entry_lawful capacity label) s entries ≡ true → all_along (step_after capacity) (step_ok capacity) s (does_all label entries) ≡ true
works_ok capacity label same s [] h = refl
works_ok capacity label same s (e ∷ entries) h =
    let now = both (entry_lawful capacity label s e) _ h in
    and_both (entry_ok capacity label s e) _ (same s e ∙ now.0) (works_ok capacity label same (entry_after capacity label s e) entries now.1)

work_ok : (capacity : ℕ) (label : Label) → ((s : State) (e : Entry) → entry_ok capacity label s e ≡ entry_lawful capacity label s e) → (s : State) (entries : List Entry)
    → work_lawful capacity label s entries ≡ true → all_along (step_after capacity) (step_ok capacity) s (does_all label entries) ≡ true
work_ok capacity label same s entries h =
    works_ok capacity label same s entries (both (starts_alone entries) _ (both (starts_alone entries && all_along (entry_after capacity label) (entry_lawful capacity label) s entries) _ h).0).1

-- commands that a function ends
aborts_ok : (capacity i : ℕ) (s : State) (cs : List ℕ) (entries : List Entry) → are_aborted cs entries ≡ true
    → all_along (step_after capacity) (step_ok capacity) s (does_all (Arrive i) entries) ≡ true
aborts_ok capacity i s [] [] h = refl
aborts_ok capacity i s (c ∷ cs) (Aborted d ∷ entries) h = aborts_ok capacity i (entry_after capacity (Arrive i) s (Aborted d)) cs entries (both (c == d) _ h).1
aborts_ok capacity i s cs entries h = absurd (cc)

-- a command that finds no room
full_ok : (capacity i : ℕ) (s : State) (full : Bool) (c : ℕ) (entries : List Entry) → (s.duties c).owes ≡ None → is_answered full c entries ≡ true
    → all_along (step_after capacity) (step_ok capacity) s (does_all (Arrive i) entries) ≡ true
full_ok capacity i s false c [] e h = refl
full_ok capacity i s true c (Ended d reply ∷ []) e h =
    let now = both (d == c) _ h in
    let none : is_none (s.duties d).owes ≡ true = ap (λ (n : ℕ). is_none (s.duties n).owes) (eqb-true d c now.0) ∙ ap is_none e in
    and_both (same_reply reply task_set_full && is_none (s.duties d).owes) true (and_both (same_reply reply task_set_full) (is_none (s.duties d).owes) now.1 none) refl
full_ok capacity i s full c entries e h = absurd (cc)

-- what is put at a place is there
pub put_there : {V : Type 0} (k : ℕ) (v : V) (f : ℕ → V) → put_at k v f k ≡ v
put_there k v f = ap (λ (t : Bool). cond t v (f k)) (eq-eqb k k refl)

arrival_steps : (capacity i : ℕ) (s : State) (entries : List Entry) → arrival_lawful s i entries ≡ true
    → all_along (step_after capacity) (step_ok capacity) s (does_all (Arrive i) entries) ≡ true
arrival_steps capacity i s (Arrived c j t a cdb sent ∷ entries) h =
    let now = both (j == i && c == s.arrived + 1) _ h in
    let later = entry_after capacity (Arrive i) s (Arrived c j t a cdb sent) in
    let none : (later.duties c).owes ≡ None = ap (λ (d : Duty). d.owes) (put_there c _ s.duties) in
    and_both (c == s.arrived + 1) _ (both (j == i) _ now.0).1 (full_ok capacity i later (is_full s) c entries none now.1)
arrival_steps capacity i s (Asked j what ∷ entries) h =
    aborts_ok capacity i (entry_after capacity (Arrive i) s (Asked j what)) _ entries (both (j == i) _ h).1
arrival_steps capacity i s entries h = absurd (cc)

-- the entries of a turn that may come
entries_ok : (capacity : ℕ) (label : Label) (s : State) (entries : List Entry) → entries_lawful capacity label s entries ≡ true
    → all_along (step_after capacity) (step_ok capacity) s (does_all label entries) ≡ true
entries_ok capacity (Arrive i) s entries h = arrival_steps capacity i s entries h
entries_ok capacity (Work c) s entries h = work_ok capacity (Work c) (λ s e. refl) s entries h
entries_ok capacity (Job j) s entries h = work_ok capacity (Job j) (λ s e. refl) s entries h
entries_ok capacity Scan s entries h = work_ok capacity Scan (λ s e. refl) s entries h
entries_ok capacity Destage s entries h = work_ok capacity Destage (λ s e. refl) s entries h
entries_ok capacity (World w) s entries h = work_ok capacity (World w) (λ s e. refl) s entries h

-- along the steps of turns that may come as far as commands go
pub steps_ok : (capacity : ℕ) (s : State) (turns : List Turn) → task_legal_from capacity s turns ≡ true
    → all_along (step_after capacity) (step_ok capacity) s (steps_of turns) ≡ true
steps_ok capacity s [] h = refl
steps_ok capacity s (turn ∷ turns) h =
    let now = both (tasks_lawful capacity s turn) _ h in
    let here = entries_ok capacity turn.label (begun s turn.label) turn.entries now.0 in
    let later : all_along (step_after capacity) (step_ok capacity) (turn_after capacity s turn) (steps_of turns) ≡ true = steps_ok capacity (turn_after capacity s turn) turns now.1 in
    let moved : all_along (step_after capacity) (step_ok capacity) (fold (step_after capacity) (begun s turn.label) (does_all turn.label turn.entries)) (steps_of turns) ≡ true =
    ap (λ (u : State). all_along (step_after capacity) (step_ok capacity) u (steps_of turns)) (fold_does capacity turn.label (begun s turn.label) turn.entries) ∙ later in
    along_both (step_after capacity) (step_ok capacity) (begun s turn.label) (does_all turn.label turn.entries) (steps_of turns)
    ∙ and_both (all_along (step_after capacity) (step_ok capacity) (begun s turn.label) (does_all turn.label turn.entries)) _ here moved

-- the entries of steps, in order
abbrev pub entries_in : List Step → List Entry
entries_in [] = []
entries_in (Begins label ∷ steps) = entries_in steps
entries_in (Does label e ∷ steps) = e ∷ entries_in steps

entries_of_all : (label : Label) (entries : List Entry) (steps : List Step) → entries_in (does_all label entries ++ steps) ≡ entries ++ entries_in steps
entries_of_all label [] steps = refl
entries_of_all label (e ∷ entries) steps = ap (λ (es : List Entry). e ∷ es) (entries_of_all label entries steps)

pub entries_of_steps : (turns : List Turn) → entries_in (steps_of turns) ≡ entries_of turns
entries_of_steps [] = refl
entries_of_steps (turn ∷ turns) =
    entries_of_all turn.label turn.entries (steps_of turns) ∙ ap (λ (es : List Entry). turn.entries ++ es) (entries_of_steps turns)

-- steps parted at an entry
pub record PartedAt (steps : List Step) (xs : List Entry) (e : Entry) (ys : List Entry) : Type 0 where
  pub before : List Step
  pub label : Label
  pub behind : List Step
  pub whole : steps ≡ before ++ Does label e ∷ behind
  pub first : entries_in before ≡ xs
  pub last : entries_in behind ≡ ys

-- the same with one step more in front
one_more : (step : Step) (steps : List Step) (xs : List Entry) (e : Entry) (ys zs : List Entry) → PartedAt steps xs e ys → ((before : List Step) → entries_in before ≡ xs → entries_in (step ∷ before) ≡ zs)
    → PartedAt (step ∷ steps) zs e ys
one_more step steps xs e ys zs p f = record {
  before = step ∷ p.before;
  label = p.label;
  behind = p.behind;
  whole = ap (λ (ss : List Step). step ∷ ss) p.whole;
  first = f p.before p.first;
  last = p.last;
}

pub parted : (steps : List Step) (xs : List Entry) (e : Entry) (ys : List Entry) → entries_in steps ≡ xs ++ e ∷ ys → PartedAt steps xs e ys
parted [] [] e ys h = absurd (cc)
parted [] (x ∷ xs) e ys h = absurd (cc)
parted (Begins label ∷ steps) xs e ys h = one_more (Begins label) steps xs e ys xs (parted steps xs e ys h) (λ before f. f)
parted (Does label x ∷ steps) [] e ys h = record { before = []; label = label; behind = steps; whole = let is : x ≡ e = cc in ap (λ (y : Entry). Does label y ∷ steps) is; first = refl; last = cc }
parted (Does label x ∷ steps) (y ∷ xs) e ys h =
    let tail : entries_in steps ≡ xs ++ e ∷ ys = cc in
    let is : x ≡ y = cc in
    one_more (Does label x) steps xs e ys (y ∷ xs) (parted steps xs e ys tail) (λ before f. let both : x ∷ entries_in before ≡ y ∷ xs = cc in both)
