-- The phase in hand: what waits for `go`.
use Rattle.std.specs.Prelude.{◌==◌, ◌&&◌, Bool, true, false, List, [], ◌∷◌, ◌++◌}
use Rattle.std.specs.List.{list_any}
use Rattle.script_text.specs.declared.phase.TaskName.{TaskName}
use Rattle.script_text.specs.declared.script.Line.{Line}
use Rattle.script_text.specs.declared.script.Line.TheVariants.{Command, Function, Scan, Destage, Go, World}

-- whether something waits for `go`, and the commands that do
pub record Waiting : Type 0 where
  pub something : Bool
  pub commands : List TaskName

-- nothing waits
abbrev pub idle : Waiting
idle = record { something = false; commands = [] }

-- the same initiator, and the same tag
abbrev pub same_task : TaskName → TaskName → Bool
same_task x y = x.initiator == y.initiator && x.tag.0 == y.tag.0

-- the initiator has a command with this tag in the phase
abbrev pub is_taken : Waiting → Line → Bool
is_taken phase (Command i t a cdb sent) = list_any (same_task (record { initiator = i; tag = t })) phase.commands
is_taken phase (Function i what) = false
is_taken phase (Scan n) = false
is_taken phase (Destage n) = false
is_taken phase Go = false
is_taken phase (World event) = false

-- the phase in hand behind a line; `go` ends it
abbrev pub phase_after : Waiting → Line → Waiting
phase_after phase (Command i t a cdb sent) =
    record { something = true; commands = phase.commands ++ record { initiator = i; tag = t } ∷ [] }
phase_after phase (Function i what) = record phase { something = true }
phase_after phase (Scan n) = record phase { something = true }
phase_after phase (Destage n) = record phase { something = true }
phase_after phase Go = idle
phase_after phase (World event) = phase
