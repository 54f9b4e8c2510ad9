-- What the turn of an arrival depends on, as a state.
use Rattle.std.specs.Prelude.{ℕ, ◌<◌, ◌==◌, Bool, false, List, All}
use Rattle.sense_data.specs.Attentions.{none_waiting}
use Rattle.task_set.specs.declared.member.Member.{Member}
use Rattle.block_machine.specs.declared.entry.Entry.{Entry}
use Rattle.block_machine.specs.declared.entry.Entry.TheVariants.{Aborted, Arrived}
use Rattle.block_machine.specs.State.{State, state_at_start}

-- a state to which so many commands came, with these in it
abbrev pub with_commands : ℕ → List Member → State
with_commands arrived set = record (state_at_start none_waiting) { arrived = arrived; set = set }

-- the entry ends the command of this number by a function
abbrev pub aborts : ℕ → Entry → Bool
aborts c (Aborted d) = c == d
aborts c other = false

-- a command that comes has a greater number than each that is in
abbrev pub ComesLast : List Member → Entry → Type 0
ComesLast set (Arrived c i t a cdb sent) = All (λ m. m.task.c < c) set
ComesLast set other = Unit {0}
