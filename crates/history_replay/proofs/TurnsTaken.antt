-- Turns one after another, as long as each may come.
use Rattle.std.proofs.Common.{◌≡◌, ◌∙◌, ap, sym, subst, ℕ, ◌+◌, ◌<◌, ◌≤◌, Bool, true, false, List, length, get_or, drop}
use Rattle.std.specs.Prelude.{◌&&◌, IsTrue, Option, Some, None, fold}
use Rattle.std.specs.Option.{option_map, is_none}
use Rattle.disk_base.specs.Along.{first_failing}
use Rattle.block_machine.specs.declared.entry.Entry.{Entry}
use Rattle.block_machine.specs.declared.turn.Turn.{Turn}
use Rattle.block_machine.specs.History.{first_unlawful, legal_from, task_legal_from, turns_after}
use Rattle.block_machine.specs.State.{State}
use Rattle.block_machine.specs.Turns.{blocks_lawful, tasks_lawful, turn_after, turn_lawful}
use Rattle.block_machine.specs.Blocks.{Blocks, blocks_after}
use Rattle.block_machine.specs.declared.array.BlockState.{BlockState}
use Rattle.block_machine.proofs.Projection.{blocks_of_turn}
use Rattle.history_replay.specs.declared.kept.Kept.{Kept}
use Rattle.history_replay.specs.declared.monitor.Monitor.{Monitor}
use Rattle.history_replay.specs.Kept.{Stands, Takes}
use Rattle.history_replay.specs.Monitor.{Follows, Judges}
use Rattle.history_replay.specs.declared.fault.ReplayFault.{ReplayFault}
use Rattle.history_replay.specs.declared.fault.ReplayFault.TheVariants.{Step}
use Rattle.history_replay.specs.Array.{blocks_of}
use Rattle.history_replay.specs.History.{TellsUnlawful}
use Rattle.history_replay.proofs.Along.{ComesTo, FirstComesTo, first_begin, first_more, first_refused, first_end, item_more, item_refused, items_end, none_fails}
use Rattle.history_replay.proofs.Both.{is_none-map}
use Rattle.history_replay.proofs.Taking.{StandsAt}

abbrev pub TurnsComeTo : ℕ → State → List Turn → State → List Turn → ℕ → Type 0
TurnsComeTo capacity = FirstComesTo (turn_after capacity) (turn_lawful capacity)

-- the monitor has followed a history to a state at which the turns that are left are left
abbrev pub FollowsAt : ℕ → Monitor → State → List Turn → List Turn → ℕ → Type 0
FollowsAt capacity monitor s turns rest k = (g : State) × Follows capacity monitor g × TurnsComeTo capacity s turns g rest k

-- before the first
pub history_begins : (capacity : ℕ) (monitor : Monitor) (s : State) (turns : List Turn) → Follows capacity monitor s
    → FollowsAt capacity monitor s turns turns 0
history_begins capacity monitor s turns at = (s, at, first_begin (turn_after capacity) (turn_lawful capacity) s turns)

-- the monitor follows it still
pub history_followed : (capacity : ℕ) (monitor : Monitor) (s : State) (turns rest : List Turn) (k : ℕ)
    → FollowsAt capacity monitor s turns rest k → (capacity : ℕ) × ((s : State) × Follows capacity monitor s)
history_followed capacity monitor s turns rest k at = (capacity, (at.0, at.1))

-- one more turn
pub history_more : (capacity : ℕ) (now new : Monitor) (s : State) (turns : List Turn) (k : ℕ) (t : Turn) (may : Bool)
    → k < length turns → t ≡ get_or turns k t → may ≡ true → Judges t now new may
    → FollowsAt capacity now s turns (drop k turns) k → FollowsAt capacity new s turns (drop (k + 1) turns) (k + 1)
history_more capacity now new s turns k t may less is came judges at =
    let taken = judges capacity at.0 at.1 in (
      turn_after capacity at.0 t,
      taken.1 came,
      first_more (turn_after capacity) (turn_lawful capacity) s at.0 turns k t less is (sym taken.0 ∙ came) at.2,
    )

-- one that may not come
pub history_refused : (capacity : ℕ) (now new : Monitor) (s : State) (turns : List Turn) (k : ℕ) (t : Turn) (may : Bool)
    → k < length turns → t ≡ get_or turns k t → may ≡ false → Judges t now new may
    → FollowsAt capacity now s turns (drop k turns) k → first_unlawful capacity s turns ≡ Some (k + 1)
history_refused capacity now new s turns k t may less is refused judges at =
    let taken = judges capacity at.0 at.1 in
    first_refused (turn_after capacity) (turn_lawful capacity) s at.0 turns k t less is (sym taken.0 ∙ refused) at.2

-- nothing fails of a legal history
pub legal_where_none : (capacity : ℕ) (s : State) (turns : List Turn) (first : Option ℕ) → first_unlawful capacity s turns ≡ first
    → legal_from capacity s turns ≡ is_none first
legal_where_none capacity s turns first e = sym (none_fails (turn_after capacity) (turn_lawful capacity) s turns)
    ∙ sym (is_none-map (λ n. n + 1) (first_failing (turn_after capacity) (turn_lawful capacity) s turns)) ∙ ap is_none e

-- behind the last
pub history_ends : (capacity : ℕ) (now : Monitor) (blocks : List BlockState) (s : State) (turns : List Turn) (k : ℕ) → length turns ≤ k
    → ((capacity : ℕ) (s : State) → Follows capacity now s → length blocks ≡ capacity)
    → ((capacity : ℕ) (s : State) → Follows capacity now s → blocks_of blocks ≡ s.blocks)
    → FollowsAt capacity now s turns (drop k turns) k
    → (length blocks ≡ capacity) × (blocks_of blocks ≡ (turns_after capacity s turns).blocks) × (legal_from capacity s turns ≡ true)
history_ends capacity now blocks s turns k all long are at =
    let end = first_end (turn_after capacity) (turn_lawful capacity) s at.0 turns k all at.2 in (
      long capacity at.0 at.1,
      are capacity at.0 at.1 ∙ ap (λ (g : State). g.blocks) (sym end.1),
      legal_where_none capacity s turns None (ap (λ (o : Option ℕ). option_map (λ n. n + 1) o) end.0),
    )

-- nor is one legal of which a turn may not come
pub not_legal : (capacity : ℕ) (s : State) (turns : List Turn) (fault : ReplayFault) (turn : ℕ) → fault ≡ Step turn
    → TellsUnlawful capacity s turns fault → legal_from capacity s turns ≡ false
not_legal capacity s turns fault turn is tells =
    let P : ReplayFault → Type 0 = λ f. TellsUnlawful capacity s turns f in
    legal_where_none capacity s turns (Some turn) (subst P is tells)

-- a turn for the commands and for the blocks
pub both_refused : (capacity : ℕ) (old new : Kept) (s : State) (t : Turn) (may : Bool) → may ≡ false
    → Takes capacity (λ s. tasks_lawful capacity s t) (λ s. turn_after capacity s t) old new may → Stands capacity old s
    → false ≡ turn_lawful capacity s t
both_refused capacity old new s t may refused takes st =
    ap (λ (b : Bool). b && blocks_lawful capacity s.blocks t.entries) (sym refused ∙ (takes s st).0)

pub both_taken : (capacity n : ℕ) (old new : Kept) (before blocks : List BlockState) (s : State) (t : Turn) (entries : List Entry) (first may : Bool)
    → first ≡ true → n ≡ capacity → entries ≡ t.entries
    → Takes capacity (λ s. tasks_lawful capacity s t) (λ s. turn_after capacity s t) old new first → Stands capacity old s
    → blocks_of before ≡ s.blocks → may ≡ blocks_lawful n (blocks_of before) entries
    → (IsTrue may → blocks_of blocks ≡ fold blocks_after (blocks_of before) entries)
    → (may ≡ turn_lawful capacity s t) × (IsTrue may → Stands capacity new (turn_after capacity s t) × (blocks_of blocks ≡ (turn_after capacity s t).blocks))
both_taken capacity n old new before blocks s t entries first may came long these takes st same is after =
    let taken = takes s st in (
      is ∙ ap (λ (k : ℕ). blocks_lawful k (blocks_of before) entries) long ∙ ap (λ (f : Blocks). blocks_lawful capacity f entries) same
          ∙ ap (λ (l : List Entry). blocks_lawful capacity s.blocks l) these
          ∙ ap (λ (b : Bool). b && blocks_lawful capacity s.blocks t.entries) (sym came ∙ taken.0),
      λ both. (
        taken.1 came,
        after both ∙ ap (λ (f : Blocks). fold blocks_after f entries) same ∙ ap (λ (l : List Entry). fold blocks_after s.blocks l) these
            ∙ sym (blocks_of_turn capacity s t),
      ),
    )

-- turns one after another, as far as commands go
abbrev pub TasksComeTo : ℕ → State → List Turn → State → List Turn → Type 0
TasksComeTo capacity = ComesTo (turn_after capacity) (tasks_lawful capacity)

pub tasks_more : (capacity : ℕ) (now new : Kept) (s : State) (turns : List Turn) (k : ℕ) (t : Turn) (may : Bool) → now.known.capacity ≡ capacity
    → k < length turns → t ≡ get_or turns k t → may ≡ true
    → Takes now.known.capacity (λ s. tasks_lawful now.known.capacity s t) (λ s. turn_after now.known.capacity s t) now new may
    → StandsAt capacity now (λ g. TasksComeTo capacity s turns g (drop k turns))
    → StandsAt capacity new (λ g. TasksComeTo capacity s turns g (drop (k + 1) turns))
tasks_more capacity now new s turns k t may same less is came takes at =
    let P : ℕ → Type 0 = λ n. Takes n (λ s. tasks_lawful n s t) (λ s. turn_after n s t) now new may in
    let taken = (subst P same takes) at.0 at.1 in (
      turn_after capacity at.0 t,
      taken.1 came,
      item_more (turn_after capacity) (tasks_lawful capacity) s at.0 turns k t less is (sym taken.0 ∙ came) at.2,
    )

pub tasks_refused : (capacity : ℕ) (now new : Kept) (s : State) (turns : List Turn) (k : ℕ) (t : Turn) (may : Bool) → now.known.capacity ≡ capacity
    → k < length turns → t ≡ get_or turns k t → may ≡ false
    → Takes now.known.capacity (λ s. tasks_lawful now.known.capacity s t) (λ s. turn_after now.known.capacity s t) now new may
    → StandsAt capacity now (λ g. TasksComeTo capacity s turns g (drop k turns)) → false ≡ task_legal_from capacity s turns
tasks_refused capacity now new s turns k t may same less is refused takes at =
    let P : ℕ → Type 0 = λ n. Takes n (λ s. tasks_lawful n s t) (λ s. turn_after n s t) now new may in
    let taken = (subst P same takes) at.0 at.1 in
    sym (item_refused (turn_after capacity) (tasks_lawful capacity) s at.0 turns k t less is (sym taken.0 ∙ refused) at.2)

pub tasks_end : (capacity : ℕ) (now : Kept) (s : State) (turns : List Turn) (k : ℕ) → length turns ≤ k
    → StandsAt capacity now (λ g. TasksComeTo capacity s turns g (drop k turns)) → true ≡ task_legal_from capacity s turns
tasks_end capacity now s turns k all at = sym (items_end (turn_after capacity) (tasks_lawful capacity) s at.0 turns k all at.2).0

pub tasks_stand : (n capacity : ℕ) (kept : Kept) (P : State → Type 0) → n ≡ capacity → StandsAt capacity kept P → (g : State) × Stands n kept g
tasks_stand n capacity kept P same at = (at.0, let Q : ℕ → Type 0 = λ m. Stands m kept at.0 in subst Q (sym same) at.1)
