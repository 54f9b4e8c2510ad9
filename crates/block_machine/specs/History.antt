-- Legal histories of an array of blocks.
use Rattle.std.specs.Prelude.{ℕ, ◌+◌, Bool, List, flat_map, fold, Option}
use Rattle.std.specs.Option.{option_map}
use Rattle.disk_base.specs.Along.{all_along, first_failing}
use Rattle.block_machine.specs.declared.entry.Entry.{Entry}
use Rattle.block_machine.specs.declared.turn.Turn.{Turn}
use Rattle.block_machine.specs.Attentions.{attentions_at_start}
use Rattle.block_machine.specs.State.{State, state_at_start}
use Rattle.block_machine.specs.Turns.{turn_after, turn_lawful, tasks_lawful}

-- turns may come one after another, from a state on
abbrev pub legal_from : ℕ → State → List Turn → Bool
legal_from capacity s turns = all_along (turn_after capacity) (turn_lawful capacity) s turns

-- they may as far as commands go, without the rules for blocks
abbrev pub task_legal_from : ℕ → State → List Turn → Bool
task_legal_from capacity s turns = all_along (turn_after capacity) (tasks_lawful capacity) s turns

-- turns are a history that an array of so many blocks may have
abbrev pub legal : ℕ → List Turn → Bool
legal capacity turns = legal_from capacity (state_at_start attentions_at_start) turns

-- they are one as far as commands go, without the rules for blocks
abbrev pub task_legal : ℕ → List Turn → Bool
task_legal capacity turns = task_legal_from capacity (state_at_start attentions_at_start) turns

-- the state that turns leave, from another on
abbrev pub turns_after : ℕ → State → List Turn → State
turns_after capacity s turns = fold (turn_after capacity) s turns

-- the state that a history leaves
abbrev pub state_after : ℕ → List Turn → State
state_after capacity turns = turns_after capacity (state_at_start attentions_at_start) turns

-- the number, from 1, of the first turn that may not come
abbrev pub first_unlawful : ℕ → State → List Turn → Option ℕ
first_unlawful capacity s turns = option_map (λ n. n + 1) (first_failing (turn_after capacity) (turn_lawful capacity) s turns)

-- all entries of turns, in order
abbrev pub entries_of : List Turn → List Entry
entries_of turns = flat_map (λ turn. turn.entries) turns
