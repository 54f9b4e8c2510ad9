-- Entries one after another, as long as each may come.
use Rattle.std.proofs.Common.{◌≡◌, ◌∙◌, ap, sym, subst, ℕ, ◌+◌, ◌<◌, ◌≤◌, Bool, true, false, List, length, get_or, drop}
use Rattle.std.proofs.lemmas.List.{drop_all}
use Rattle.block_machine.specs.declared.entry.Entry.{Entry}
use Rattle.block_machine.specs.declared.turn.Label.{Label}
use Rattle.block_machine.specs.Entries.{entry_lawful}
use Rattle.block_machine.specs.State.{State}
use Rattle.block_machine.specs.Steps.{entries_after, entry_after}
use Rattle.history_replay.specs.declared.kept.Kept.{Kept}
use Rattle.history_replay.proofs.Along.{ComesTo, front, item_more, item_refused, items_end}
use Rattle.history_replay.specs.Kept.{Stands, Takes, all_lawful}

-- entries of a turn
abbrev pub EntriesComeTo : ℕ → Label → State → List Entry → State → List Entry → Type 0
EntriesComeTo capacity label = ComesTo (entry_after capacity label) (entry_lawful capacity label)

-- what is kept stands for a state at which the items that are left are left
abbrev pub StandsAt : ℕ → Kept → (State → Type 0) → Type 0
StandsAt capacity kept P = (g : State) × Stands capacity kept g × P g

at-capacity : (n capacity : ℕ) (kept : Kept) → n ≡ capacity → (s : State) × Stands capacity kept s → (s : State) × Stands n kept s
at-capacity n capacity kept same st = (st.0, let P : ℕ → Type 0 = λ k. Stands k kept st.0 in subst P (sym same) st.1)

-- there is a state for it, by the one for which stood what was kept at first
pub still_stands : (capacity : ℕ) (first now : Kept) (left : State → State → Type 0) → now.known.capacity ≡ capacity
    → (s : State) × Stands capacity first s → ((s : State) → Stands capacity first s → StandsAt capacity now (left s))
    → (s : State) × Stands now.known.capacity now s
still_stands capacity first now left same begins stays =
    let at = stays begins.0 begins.1 in
    at-capacity now.known.capacity capacity now same (at.0, at.1)

-- one more entry
pub entries_more : (capacity : ℕ) (first now new : Kept) (label : Label) (entries : List Entry) (k : ℕ) (e : Entry) (may : Bool)
    → now.known.capacity ≡ capacity → k < length entries → e ≡ get_or entries k e → may ≡ true
    → Takes now.known.capacity (λ s. entry_lawful now.known.capacity label s e) (λ s. entry_after now.known.capacity label s e) now new may
    → ((s : State) → Stands capacity first s → StandsAt capacity now (λ g. EntriesComeTo capacity label s entries g (drop k entries)))
    → (s : State) → Stands capacity first s → StandsAt capacity new (λ g. EntriesComeTo capacity label s entries g (drop (k + 1) entries))
entries_more capacity first now new label entries k e may same less is came takes stays s st =
    let P : ℕ → Type 0 = λ n. Takes n (λ s. entry_lawful n label s e) (λ s. entry_after n label s e) now new may in
    let at = stays s st in
    let taken = (subst P same takes) at.0 at.1 in (
      entry_after capacity label at.0 e,
      taken.1 came,
      item_more (entry_after capacity label) (entry_lawful capacity label) s at.0 entries k e less is (sym taken.0 ∙ came) at.2,
    )

-- one that may not come
pub entries_refused : (capacity : ℕ) (first now new : Kept) (label : Label) (entries : List Entry) (k : ℕ) (e : Entry) (may : Bool)
    → now.known.capacity ≡ capacity → k < length entries → e ≡ get_or entries k e → may ≡ false
    → Takes now.known.capacity (λ s. entry_lawful now.known.capacity label s e) (λ s. entry_after now.known.capacity label s e) now new may
    → ((s : State) → Stands capacity first s → StandsAt capacity now (λ g. EntriesComeTo capacity label s entries g (drop k entries)))
    → (s : State) → Stands capacity first s → all_lawful capacity label s entries ≡ false
entries_refused capacity first now new label entries k e may same less is refused takes stays s st =
    let P : ℕ → Type 0 = λ n. Takes n (λ s. entry_lawful n label s e) (λ s. entry_after n label s e) now new may in
    let at = stays s st in
    let taken = (subst P same takes) at.0 at.1 in
    item_refused (entry_after capacity label) (entry_lawful capacity label) s at.0 entries k e less is (sym taken.0 ∙ refused) at.2

-- behind the last
pub entries_end : (capacity : ℕ) (first now : Kept) (label : Label) (entries : List Entry) (k : ℕ) → length entries ≤ k
    → ((s : State) → Stands capacity first s → StandsAt capacity now (λ g. EntriesComeTo capacity label s entries g (drop k entries)))
    → Takes capacity (λ s. all_lawful capacity label s entries) (λ s. entries_after capacity label s entries) first now true
entries_end capacity first now label entries k all stays s st =
    let at = stays s st in
    let end = items_end (entry_after capacity label) (entry_lawful capacity label) s at.0 entries k all at.2 in
    (sym end.0, λ may. let P : State → Type 0 = λ g. Stands capacity now g in subst P (sym end.1) at.1)

-- in the turn of an arrival each end comes
abbrev pub EndsComeTo : ℕ → Label → State → List Entry → State → List Entry → Type 0
EndsComeTo capacity label s ends g rest = entries_after capacity label s ends ≡ entries_after capacity label g rest

-- one more of them
pub ends_more : (capacity : ℕ) (first now new : Kept) (label : Label) (ends : List Entry) (k : ℕ) (e : Entry) → now.known.capacity ≡ capacity
    → k < length ends → e ≡ get_or ends k e
    → ((s : State) → Stands now.known.capacity now s → Stands now.known.capacity new (entry_after now.known.capacity label s e))
    → ((s : State) → Stands capacity first s → StandsAt capacity now (λ g. EndsComeTo capacity label s ends g (drop k ends)))
    → (s : State) → Stands capacity first s → StandsAt capacity new (λ g. EndsComeTo capacity label s ends g (drop (k + 1) ends))
ends_more capacity first now new label ends k e same less is stands stays s st =
    let P : ℕ → Type 0 = λ n. (s : State) → Stands n now s → Stands n new (entry_after n label s e) in
    let at = stays s st in (
      entry_after capacity label at.0 e,
      (subst P same stands) at.0 at.1,
      at.2 ∙ ap (λ l. entries_after capacity label at.0 l) (front ends k e less is),
    )

-- behind the last of them
pub ends_end : (capacity : ℕ) (first now : Kept) (label : Label) (ends : List Entry) (k : ℕ) → length ends ≤ k
    → ((s : State) → Stands capacity first s → StandsAt capacity now (λ g. EndsComeTo capacity label s ends g (drop k ends)))
    → (s : State) → Stands capacity first s → Stands capacity now (entries_after capacity label s ends)
ends_end capacity first now label ends k all stays s st =
    let at = stays s st in
    let end = at.2 ∙ ap (λ l. entries_after capacity label at.0 l) (drop_all k ends all) in
    let P : State → Type 0 = λ g. Stands capacity now g in
    subst P (sym end) at.1
