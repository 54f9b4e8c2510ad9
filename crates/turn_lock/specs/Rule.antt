-- The rule of the lock's table, as plain data, and what each kind of step tells.
use Rattle.std.specs.Prelude.{◌≡◌, ◌≢◌, ◌⊎◌, ℕ, ◌+◌, ◌*◌, ◌%◌, ◌<◌, ◌≤◌, List, [], ◌∷◌, ◌++◌, length, sum_by, take, Option, Some, None, Bool, true, false, if◌then◌else◌}
use mathlib.Core.Option.{some}
use mathlib.Core.List.{IsPrefix}
use lib.ListN.{get_elem?}
use Rattle.atomic_table.specs.Table.{State, Me, Step}
use Rattle.atomic_table.specs.Seated.{TableId}
use Rattle.turn_lock.specs.declared.view.View.{View}
use Rattle.turn_lock.specs.Lists.{OneBegins, times, once}
use Rattle.turn_lock.specs.View.{numbers, newcomer, with_had, settled, merged}

-- the seat is of this table, which has one word and one slot
abbrev pub IsOf : TableId → TableId → Type 0
IsOf table seat = (seat ≡ table) × (table.words ≡ 1) × (table.slots ≡ 1)

-- How what lies in the slot is read: its list, what no turn changes, the total of its book, and when a step led from one list to another
pub record Meaning (H U K : Type 0) : Type 1 where
  pub turns : H → List U
  pub kept : H → K
  pub total : H → ℕ
  pub stepped : K → List U → List U → Type 0

-- the same of a value beside its book, by what is said of the value alone
abbrev pub meaning_of : {H V U K E A : Type 0} → (H → V) → (H → ℕ) → (V → List U) → (V → K) → (K → List U → E → A → List U → Type 0) → Meaning H U K
meaning_of {H} {V} {U} {K} {E} {A} value total turns kept tells = record { turns = λ h. turns (value h); kept = λ h. kept (value h); total = total; stepped = λ k xs ys. (e : E) × (a : A) × tells k xs e a ys }

-- the value stands for the list, and its book has counted the turns since the lock was made
pub record Stands {H U K : Type 0} (m : Meaning H U K) (h : H) (log : List U) (first : ℕ) (kept : K) : Type 0 where
  pub turns_are : m.turns h ≡ log
  pub kept_is : m.kept h ≡ kept
  pub total_is : m.total h + first ≡ length log

-- what each view is to the lock's list
pub record Fits {U K : Type 0} (log : List U) (first : ℕ) (kept : K) (v : View U K) : Type 0 where
  -- what it has seen begins the list
  pub seen : IsPrefix v.seen log
  pub beside : IsPrefix v.beside log
  -- unless it is spent, it keeps the same data, and the same length of the list at the start
  pub same : (k : K) → v.kept ≡ Some k → (k ≡ kept) × (v.first ≡ first)

-- what all views are to the lock's list, where one of them has claimed the turn or none has
pub record AreViews {U K : Type 0} (log : List U) (first : ℕ) (kept : K) (busy : Bool) (holder : ℕ) (views : List (View U K)) : Type 0 where
  -- where the turn is claimed, the holder has had the list
  pub held : busy ≡ true → (v : View U K) × (get_elem? views holder ≡ some v) × (v.had ≡ Some log)
  -- nobody else has a had
  pub had : (j : ℕ) (v : View U K) → get_elem? views j ≡ some v → (v.had ≡ None) ⊎ ((busy ≡ true) × (j ≡ holder) × (v.had ≡ Some log))
  -- what each has seen begins the list
  pub fits : (j : ℕ) (v : View U K) → get_elem? views j ≡ some v → Fits log first kept v
  -- all together count each number above first and up to the number of turns once, and no other
  pub counted : (x : ℕ) → sum_by (λ v. times x (numbers v)) views ≡ once first (length log) x

-- each turn since the list had this length is a step
abbrev pub Path : {U : Type 0} → (List U → List U → Type 0) → ℕ → List U → Type 0
Path stepped first log = (n : ℕ) → first ≤ n → n < length log → stepped (take n log) (take (n + 1) log)

-- The rule of the table
pub record IsInTurn {H U K : Type 0} (m : Meaning H U K) (s : State (Option H) (View U K)) : Type 0 where
  -- the one list of turns, its length when the lock was made, and what no turn changes
  pub log : List U
  pub first : ℕ
  pub kept : K
  -- whether a view has claimed the turn, and which
  pub busy : Bool
  pub holder : ℕ
  -- there is one word, twice the number of turns, and 1 more while the turn is claimed; and one slot
  pub words : s.words ≡ (2 * length log + (if busy then 1 else 0)) ∷ []
  pub deep : length s.homes ≡ 1
  pub from : first ≤ length log
  -- where the word is even, the slot is at home with a value that stands for the list
  pub home : busy ≡ false → (h : H) × (get_elem? s.homes 0 ≡ some (some (Some h))) × Stands m h log first kept
  -- what all passes know
  pub views : AreViews log first kept busy holder s.views
  -- each turn since the lock was made is a step that told
  pub path : Path (m.stepped kept) first log

-- what a claim tells of the value that came
pub record Comes {H U K : Type 0} (m : Meaning H U K) (v : View U K) (h : H) : Type 0 where
  pub seen : IsPrefix v.seen (m.turns h)
  pub kept : (k : K) → v.kept ≡ Some k → m.kept h ≡ k
  pub total : (k : K) → v.kept ≡ Some k → m.total h + v.first ≡ length (m.turns h)
  pub own : (k : K) → v.kept ≡ Some k → (x : ℕ) → times x (numbers v) ≤ once v.first (length (m.turns h)) x
  pub path : (k : K) → v.kept ≡ Some k → Path (m.stepped k) v.first (m.turns h)

module _ {H U K : Type 0} (m : Meaning H U K) where
  -- where the word was even the value came; where it was odd the view was refused, and nothing else
  abbrev pub Claims : (View U K → View U K) → Step (Option H) → Me (Option H) (View U K) → ℕ → Me (Option H) (View U K) → Type 0
  Claims refuse st me n me' = (n % 2 ≡ 0 → (h : H) × (me' ≡ (with_had (m.turns h) me.0, (0, Some h) ∷ me.1)) × Comes m me.0 h) × (n % 2 ≢ 0 → me' ≡ (refuse me.0, me.1))

  -- the value that was in the seat's slot went home
  abbrev pub Releases : Step (Option H) → Me (Option H) (View U K) → ℕ → Me (Option H) (View U K) → Type 0
  Releases st me n me' = (h : H) → me.1 ≡ (0, Some h) ∷ [] → me' ≡ (settled (m.turns h) me.0, [])

  -- of one's own list and the one beside it one begins the other, and no number was counted by both
  abbrev pub Compares : Step (Option H) → Me (Option H) (View U K) → ℕ → Me (Option H) (View U K) → Type 0
  Compares st me n me' = (me' ≡ (merged me.0, me.1)) × OneBegins me.0.seen me.0.beside × ((x : ℕ) → times x (me.0.mine ++ me.0.met) + times x me.0.theirs ≤ 1)

  -- the view of the first pass
  abbrev pub start : H → View U K
  start h = newcomer (Some (m.kept h)) (length (m.turns h)) (m.turns h)
