-- One turn: its entries may come for the blocks and for the commands.
use Rattle.std.proofs.Common.{◌≡◌, ◌∙◌, ap, sym, refl, subst, ℕ, ◌+◌, Bool, true, false, List, [], ◌∷◌, ◌-◌, ◌<◌, ◌≤◌, length, get_or, take, drop, length-drop, arith}
use Rattle.std.specs.Prelude.{◌==◌, ◌&&◌, All}
use Rattle.std.proofs.lemmas.List.{drop_more, take_all}
use Rattle.std.proofs.lemmas.Bool.{and_parts}
use Rattle.std.proofs.lemmas.List.Elements.{All-nil, All-cons}
use Rattle.task_set.specs.declared.member.Member.{Member}
use Rattle.block_machine.specs.declared.entry.Entry.{Entry}
use Rattle.block_machine.specs.declared.entry.Entry.TheVariants.{Arrived, Asked, Ended, Aborted}
use Rattle.block_machine.specs.declared.turn.Label.{Label}
use Rattle.block_machine.specs.State.{State, is_full}
use Rattle.block_machine.specs.Steps.{begun, entries_after, entry_after}
use Rattle.block_machine.specs.Turns.{are_aborted, arrival_lawful, is_answered, is_settled, starts_alone, work_lawful}
use Rattle.history_replay.specs.declared.kept.Kept.{Kept}
use Rattle.history_replay.specs.Arrival.{with_commands}
use Rattle.history_replay.specs.Kept.{IsOfArrival, Stands, Takes, all_lawful}

none-of : (alone tasks settled : Bool) → tasks ≡ false → (alone && tasks && settled) ≡ false
none-of alone true settled e = absurd (cc)
none-of true false settled e = refl
none-of false false settled e = refl

last-of : (alone tasks settled : Bool) → alone ≡ true → tasks ≡ true → (alone && tasks && settled) ≡ settled
last-of true true settled h e = refl
last-of true false settled h e = absurd (cc)
last-of false tasks settled h e = absurd (cc)

pub work_refused : (capacity : ℕ) (label : Label) (s : State) (entries : List Entry) → all_lawful capacity label (begun s label) entries ≡ false
    → work_lawful capacity label (begun s label) entries ≡ false
work_refused capacity label s entries h = none-of (starts_alone entries) (all_lawful capacity label (begun s label) entries) _ h

pub work_taken : (capacity : ℕ) (label : Label) (s : State) (entries : List Entry) → starts_alone entries ≡ true
    → all_lawful capacity label (begun s label) entries ≡ true
    → work_lawful capacity label (begun s label) entries ≡ is_settled label (entries_after capacity label (begun s label) entries)
work_taken capacity label s entries alone h = last-of (starts_alone entries) (all_lawful capacity label (begun s label) entries) _ alone h

-- what is kept when a turn begins stands for a state at the capacity that it has
pub begun_stands : (n capacity : ℕ) (old new : Kept) (label : Label) → n ≡ capacity
    → ((s : State) → Stands capacity old s → Stands capacity new (begun s label)) → (s : State) × Stands capacity old s → (s : State) × Stands n new s
begun_stands n capacity old new label same begins st =
    (begun st.0 label, let P : ℕ → Type 0 = λ k. Stands k new (begun st.0 label) in subst P (sym same) (begins st.0 st.1))

-- the entries that follow in the turn of an arrival
are-all : (cs : List ℕ) (entries : List Entry) → are_aborted cs entries ≡ true → All IsOfArrival entries
are-all [] [] h = All-nil IsOfArrival
are-all (c ∷ cs) (Aborted d ∷ entries) h = All-cons IsOfArrival (Aborted d) entries tt (are-all cs entries (and_parts (c == d) (are_aborted cs entries) h).1)
are-all cs entries h = absurd (cc)

answered-all : (full : Bool) (c : ℕ) (entries : List Entry) → is_answered full c entries ≡ true → All IsOfArrival entries
answered-all false c [] h = All-nil IsOfArrival
answered-all true c (Ended d reply ∷ []) h = All-cons IsOfArrival (Ended d reply) [] tt (All-nil IsOfArrival)
answered-all full c entries h = absurd (cc)

pub rest_of_arrival : (s : State) (i : ℕ) (e : Entry) (entries : List Entry) → arrival_lawful s i (e ∷ entries) ≡ true → All IsOfArrival entries
rest_of_arrival s i (Arrived c j t a cdb sent) entries h =
    answered-all (is_full s) c entries (and_parts (j == i && c == s.arrived + 1) (is_answered (is_full s) c entries) h).1
rest_of_arrival s i (Asked j what) entries h = are-all _ entries (and_parts (j == i) _ h).1
rest_of_arrival s i other entries h = absurd (cc)

-- arrivals depend on the commands alone
arrival-same : (s : State) (i : ℕ) (entries : List Entry) → arrival_lawful (with_commands s.arrived s.set) i entries ≡ arrival_lawful s i entries
arrival-same s i [] = refl
arrival-same s i (Arrived c j t a cdb sent ∷ entries) = refl
arrival-same s i (Asked j what ∷ entries) = refl
arrival-same s i (other ∷ entries) = refl

pub arrival_may : (capacity : ℕ) (old : Kept) (s : State) (i : ℕ) (entries : List Entry) → Stands capacity old s
    → arrival_lawful (with_commands old.arrived old.set) i entries ≡ arrival_lawful s i entries
arrival_may capacity old s i entries st =
    ap (λ (n : ℕ). arrival_lawful (with_commands n old.set) i entries) st.arrived
    ∙ ap (λ (l : List Member). arrival_lawful (with_commands s.arrived l) i entries) st.set ∙ arrival-same s i entries

-- the first item and the others
pub first_and_rest : (entries : List Entry) (e : Entry) → 1 ≤ length entries → e ≡ get_or entries 0 e
    → entries ≡ e ∷ take (length entries - 1) (drop 1 entries)
first_and_rest entries e some is =
    let less : 0 < length entries = omega arith in
    let all : length (drop 1 entries) ≤ length entries - 1 = omega (arith, length-drop 1 entries) in
    drop_more entries 0 e less ∙ ap (λ (x : Entry). x ∷ drop 1 entries) (sym is)
    ∙ ap (λ (l : List Entry). e ∷ l) (sym (take_all (length entries - 1) (drop 1 entries) all))

-- what is kept after an entry stands for a state at the capacity that it has
pub entry_stands : (n capacity : ℕ) (old new : Kept) (label : Label) (e : Entry) → n ≡ capacity
    → ((s : State) → Stands capacity old s → Stands capacity new (entry_after capacity label s e)) → (s : State) × Stands capacity old s
    → (s : State) × Stands n new s
entry_stands n capacity old new label e same comes st =
    let after = entry_after capacity label st.0 e in
    (after, let P : ℕ → Type 0 = λ k. Stands k new after in subst P (sym same) (comes st.0 st.1))

-- entries that were taken at one capacity are at another that is the same
pub taken_at : (n capacity : ℕ) (label : Label) (entries : List Entry) (old new : Kept) (may : Bool) → n ≡ capacity
    → Takes n (λ s. all_lawful n label s entries) (λ s. entries_after n label s entries) old new may
    → Takes capacity (λ s. all_lawful capacity label s entries) (λ s. entries_after capacity label s entries) old new may
taken_at n capacity label entries old new may same takes =
    let P : ℕ → Type 0 = λ k. Takes k (λ s. all_lawful k label s entries) (λ s. entries_after k label s entries) old new may in subst P same takes
