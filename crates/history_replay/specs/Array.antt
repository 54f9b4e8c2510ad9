-- A list of blocks' states as the blocks of a history.
use Rattle.std.specs.Prelude.{ℕ, List, slice_index_or}
use Rattle.block_machine.specs.declared.array.BlockState.{BlockState}
use Rattle.block_machine.specs.Blocks.{Blocks, blocks_at_start}

-- the state of a block of the list; one behind it is as at the start
abbrev pub state_of : List BlockState → ℕ → BlockState
state_of array b = slice_index_or array b (blocks_at_start b)

-- the blocks of a history whose first blocks are those of a list, and the others as at the start
abbrev pub blocks_of : List BlockState → Blocks
blocks_of array = λ b. state_of array b
