-- What an entry is for its command, as far as that depends on the blocks and on the command.
use Rattle.std.specs.Prelude.{ℕ, ◌==◌, if◌then◌else◌, List, [], ◌∷◌, Option, Result}
use Rattle.std.specs.List.{list_any}
use Rattle.std.specs.Option.{option_and_then}
use Rattle.disk_base.specs.declared.block.Value.TheVariants.{Lost}
use Rattle.sense_data.specs.declared.sense.Sense.{Sense}
use Rattle.sense_data.specs.Attentions.{none_waiting}
use Rattle.cdb_reader.specs.declared.plan.Plan.{Plan}
use Rattle.cdb_reader.specs.Plan.{next}
use Rattle.cdb_reader.specs.Request.{Request}
use Rattle.block_machine.specs.Blocks.{Blocks}
use Rattle.block_machine.specs.Deeds as deeds
use Rattle.block_machine.specs.State.{State, no_duty, state_at_start}
use Rattle.history_replay.specs.declared.deed.Done.{Done}

-- a state with these blocks, each of whose commands asks for this, and began its last turn of work with these blocks dirty
abbrev pub working_state : Blocks → Result Request Sense → List ℕ → State
working_state blocks asks dirty =
    record (state_at_start none_waiting) { duties = λ c. record no_duty { asks = asks; dirty_then = dirty }; blocks = blocks }

-- blocks of which those of some addresses are dirty
abbrev pub marked_blocks : List ℕ → Blocks
marked_blocks dirty = λ b. record { base = []; newer = if list_any (λ a. a == b) dirty then Lost ∷ [] else [] }

-- the command and what it did
abbrev pub done_of : Done → deeds.Done
done_of d = record { c = d.c; what = d.what }

-- what is left of what a command owes, where what it did may come
abbrev pub left_of : Option Plan → deeds.Done → Option Plan
left_of owes d = option_and_then (λ plan. next plan d.what) owes
