-- Replaying a whole history.
use Rattle.std.specs.Prelude.{◌≡◌, ℕ, Bool, IsTrue, List, Some}
use Rattle.block_machine.specs.declared.array.BlockState.{BlockState}
use Rattle.block_machine.specs.declared.turn.Turn.{Turn}
use Rattle.block_machine.specs.History.{first_unlawful}
use Rattle.block_machine.specs.State.{State}
use Rattle.history_replay.specs.declared.fault.ReplayFault.{ReplayFault}
use Rattle.history_replay.specs.declared.kept.Kept.{Kept}
use Rattle.history_replay.specs.Array.{blocks_of}
use Rattle.history_replay.specs.Kept.{Stands}
use Rattle.history_replay.specs.declared.fault.ReplayFault.TheVariants.{NoMemory, Step}

-- a fault names the first turn that may not come, from a state on, unless memory was wanting
abbrev pub TellsUnlawful : ℕ → State → List Turn → ReplayFault → Type 0
TellsUnlawful capacity s turns NoMemory = Unit {0}
TellsUnlawful capacity s turns (Step turn) = first_unlawful capacity s turns ≡ Some turn

-- a step of the commands and of the blocks that may come or not: both stand for the state after it, where it may
abbrev pub TakesBoth : ℕ → (State → Bool) → (State → State) → Kept → Kept → List BlockState → List BlockState → Bool → Type 0
TakesBoth capacity lawful after old new before blocks may = (s : State) → Stands capacity old s → blocks_of before ≡ s.blocks
    → (may ≡ lawful s) × (IsTrue may → Stands capacity new (after s) × (blocks_of blocks ≡ (after s).blocks))
