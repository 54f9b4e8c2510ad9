-- Entries and turns one after another, as far as the blocks go.
use Rattle.std.proofs.Common.{◌≡◌, ◌∙◌, ap, sym, subst, ℕ, ◌+◌, ◌<◌, ◌≤◌, Bool, true, false, List, length, get_or, drop}
use Rattle.std.specs.Prelude.{fold, Option, Some, None}
use Rattle.std.specs.Option.{option_map}
use Rattle.block_machine.specs.declared.turn.Turn.{Turn}
use Rattle.block_machine.specs.declared.array.BlockState.{BlockState}
use Rattle.block_machine.specs.declared.entry.Entry.{Entry}
use Rattle.block_machine.specs.Blocks.{Blocks, blocks_after, block_lawful}
use Rattle.block_machine.specs.Turns.{blocks_lawful}
use Rattle.history_replay.specs.Array.{blocks_of}
use Rattle.history_replay.specs.Replay.{turn_allowed, after_turn}
use Rattle.history_replay.proofs.Along as along

-- entries from some blocks on come to those that are left from other blocks on
abbrev pub ComesTo : ℕ → Blocks → List Entry → Blocks → List Entry → Type 0
ComesTo capacity = along.ComesTo blocks_after (block_lawful capacity)

-- one more entry that may come
pub one_more : (capacity : ℕ) (f g h : Blocks) (entries : List Entry) (k : ℕ) (e : Entry) → k < length entries → e ≡ get_or entries k e
    → block_lawful capacity g e ≡ true → h ≡ blocks_after g e → ComesTo capacity f entries g (drop k entries)
    → ComesTo capacity f entries h (drop (k + 1) entries)
one_more capacity f g h entries k e less is may after to =
    let P : Blocks → Type 0 = λ x. ComesTo capacity f entries x (drop (k + 1) entries) in
    subst P (sym after) (along.item_more blocks_after (block_lawful capacity) f g entries k e less is may to)

-- one that may not
pub none_more : (capacity : ℕ) (f g : Blocks) (entries : List Entry) (k : ℕ) (e : Entry) → k < length entries → e ≡ get_or entries k e
    → block_lawful capacity g e ≡ false → ComesTo capacity f entries g (drop k entries) → blocks_lawful capacity f entries ≡ false
none_more capacity = along.item_refused blocks_after (block_lawful capacity)

-- what a test of a list's blocks says of the blocks
pub may_here : (n m : ℕ) (xs ys : List BlockState) (e : Entry) (b : Bool) → b ≡ block_lawful (length xs) (blocks_of xs) e → b ≡ true
    → xs ≡ ys → length xs ≡ n → n ≡ m → block_lawful m (blocks_of ys) e ≡ true
may_here n m xs ys e b h t same long as_long =
    ap (λ k. block_lawful k (blocks_of ys) e) (sym (long ∙ as_long))
    ∙ ap (λ (l : List BlockState). block_lawful (length xs) (blocks_of l) e) (sym same) ∙ sym h ∙ t

-- turns from some blocks on come, k of them later, to those that are left from other blocks on
abbrev pub TurnsComeTo : ℕ → Blocks → List Turn → Blocks → List Turn → ℕ → Type 0
TurnsComeTo capacity = along.FirstComesTo after_turn (turn_allowed capacity)

-- before the first turn
pub turns_begin : (capacity : ℕ) (f g : Blocks) (turns : List Turn) → g ≡ f → TurnsComeTo capacity f turns g turns 0
turns_begin capacity f g turns e =
    let P : Blocks → Type 0 = λ x. TurnsComeTo capacity f turns x turns 0 in
    subst P (sym e) (along.first_begin after_turn (turn_allowed capacity) f turns)

-- one more turn that is allowed
pub turn_more : (capacity : ℕ) (f g h : Blocks) (turns : List Turn) (k : ℕ) (t : Turn) → k < length turns → t ≡ get_or turns k t
    → turn_allowed capacity g t ≡ true → h ≡ after_turn g t → TurnsComeTo capacity f turns g (drop k turns) k
    → TurnsComeTo capacity f turns h (drop (k + 1) turns) (k + 1)
turn_more capacity f g h turns k t less is may after to =
    let P : Blocks → Type 0 = λ x. TurnsComeTo capacity f turns x (drop (k + 1) turns) (k + 1) in
    subst P (sym after) (along.first_more after_turn (turn_allowed capacity) f g turns k t less is may to)

-- one that isn't
pub turn_refused : (capacity : ℕ) (f g : Blocks) (turns : List Turn) (k : ℕ) (t : Turn) → k < length turns → t ≡ get_or turns k t
    → turn_allowed capacity g t ≡ false → TurnsComeTo capacity f turns g (drop k turns) k
    → option_map (λ n. n + 1) (along.first_of after_turn (turn_allowed capacity) f turns) ≡ Some (k + 1)
turn_refused capacity = along.first_refused after_turn (turn_allowed capacity)

-- behind the last turn
pub turns_end : (capacity : ℕ) (f g : Blocks) (turns : List Turn) (k : ℕ) → length turns ≤ k → TurnsComeTo capacity f turns g (drop k turns) k
    → (option_map (λ n. n + 1) (along.first_of after_turn (turn_allowed capacity) f turns) ≡ None) × (fold after_turn f turns ≡ g)
turns_end capacity f g turns k all to =
    let end = along.first_end after_turn (turn_allowed capacity) f g turns k all to in
    (ap (λ (o : Option ℕ). option_map (λ n. n + 1) o) end.0, end.1)
