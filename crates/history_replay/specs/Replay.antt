-- Turns one after another, as far as the blocks go.
use Rattle.std.specs.Prelude.{◌≡◌, ◌+◌, ◌&&◌, ℕ, Bool, List, fold, Option, Some}
use Rattle.std.specs.Option.{option_map, is_none}
use Rattle.disk_base.specs.Along.{first_failing}
use Rattle.block_machine.specs.declared.turn.Turn.{Turn}
use Rattle.block_machine.specs.Blocks.{Blocks, blocks_after, blocks_at_start}
use Rattle.block_machine.specs.Turns.{blocks_lawful}
use Rattle.history_replay.specs.declared.fault.ReplayFault.{ReplayFault}
use Rattle.history_replay.specs.declared.fault.ReplayFault.TheVariants.{NoMemory, Step}
use Rattle.block_machine.specs.History.{legal, task_legal, state_after}

-- the blocks allow the entries of a turn
abbrev pub turn_allowed : ℕ → Blocks → Turn → Bool
turn_allowed capacity blocks turn = blocks_lawful capacity blocks turn.entries

-- the blocks after a turn
abbrev pub after_turn : Blocks → Turn → Blocks
after_turn blocks turn = fold blocks_after blocks turn.entries

-- the number, from 1, of the first turn with an entry that the blocks don't allow
abbrev pub first_refused : ℕ → List Turn → Option ℕ
first_refused capacity turns = option_map (λ n. n + 1) (first_failing after_turn (turn_allowed capacity) blocks_at_start turns)

-- a fault names that turn, unless memory was wanting
abbrev pub TellsRefused : ℕ → List Turn → ReplayFault → Type 0
TellsRefused capacity turns NoMemory = Unit {0}
TellsRefused capacity turns (Step turn) = first_refused capacity turns ≡ Some turn

-- the blocks after turns
abbrev pub blocks_left : List Turn → Blocks
blocks_left turns = fold after_turn blocks_at_start turns

-- a law: a history is legal exactly where it is as far as commands go, and the blocks allow each of its entries
abbrev pub LegalHasBoth : Type 0
LegalHasBoth = (capacity : ℕ) (turns : List Turn) → legal capacity turns ≡ (task_legal capacity turns && is_none (first_refused capacity turns))

-- a law: the blocks after a history are those that its entries leave
abbrev pub LegalLeavesTheseBlocks : Type 0
LegalLeavesTheseBlocks = (capacity : ℕ) (turns : List Turn) → (state_after capacity turns).blocks ≡ blocks_left turns
