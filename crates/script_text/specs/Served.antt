-- Which lines are served; another one is in order all the same.
use Rattle.std.specs.Prelude.{ℕ, ◌==◌, not, Bool, true, false, slice_index}
use Rattle.platter_model.specs.declared.world.World.{World as Event}
use Rattle.platter_model.specs.declared.world.World.TheVariants.{Damage, Fault, Cut, Arm, Power, Minutes}
use Rattle.script_text.specs.declared.script.Line.{Line}
use Rattle.script_text.specs.declared.script.Line.TheVariants.{Command, Function, Scan, Destage, Go, World}

-- all but REASSIGN BLOCKS
abbrev pub is_served_code : ℕ → Bool
is_served_code code = not (code == 0x07)

abbrev pub is_served_event : Event → Bool
is_served_event (Damage d) = true
is_served_event (Fault p) = false
is_served_event Cut = false
is_served_event (Arm k tear) = false
is_served_event Power = false
is_served_event (Minutes n) = true

-- commands of these codes, task management functions, destages, damage, and minutes that pass
abbrev pub is_served : Line → Bool
is_served (Command i t a cdb sent) = is_served_code (slice_index cdb 0)
is_served (Function i what) = true
is_served (Scan n) = false
is_served (Destage n) = true
is_served Go = true
is_served (World event) = is_served_event event
