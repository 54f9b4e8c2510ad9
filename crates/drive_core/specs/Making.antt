-- Which turns may come, and what they come to.
use Rattle.std.specs.Prelude.{◌≡◌, ℕ, ◌+◌, ◌^◌, ◌<◌, Bool, true, false, List, Some, None}
use Rattle.std.specs.Option.{is_none}
use Rattle.block_machine.specs.declared.entry.Entry.{Entry}
use Rattle.drive_core.specs.declared.accepted.Accepted.{Accepted}
use Rattle.drive_scene.specs.declared.event.Arrival.TheVariants.{Command, Function}
use Rattle.drive_scene.specs.declared.event.Event.{Event}
use Rattle.drive_scene.specs.declared.event.Event.TheVariants as event
use Rattle.drive_core.specs.declared.server.Server.{Server}
use Rattle.drive_core.specs.declared.turning.MadeTurn.{MadeTurn}
use Rattle.drive_scene.specs.Scene.{Scene}
use Rattle.drive_core.specs.Fits.{Fits}
use Rattle.drive_core.specs.Accepting.{under_way}
use Rattle.drive_scene.specs.Able.{refusal_on}
use Rattle.drive_core.specs.Moves.{Moves}
use Rattle.drive_core.specs.Served.{IsServed}
use Rattle.drive_scene.specs.Turning.{label_of, arrives_as, BeginsWith}

-- a task management function has an entry, and one for each command of the set; any other turn has at most four
abbrev pub entries_at_most : Event → ℕ
entries_at_most (event.Arrive (Function i what)) = 65
entries_at_most other = 4

-- the turn of an event may ask for more memory than was reserved: only that of a command that comes or starts does
abbrev pub may_want_memory : List Accepted → Event → Bool
may_want_memory commands (event.Arrive (Command x)) = true
may_want_memory commands (event.Work c) = is_none (under_way commands c)
may_want_memory commands (event.Any x) = true
may_want_memory commands other = false

-- the parts of a drive fit a scene in which an event is served and not refused; one more command has a number
pub record MayCome (s : Scene) (d : Server) (e : Event) : Type 0 where
  pub fits : Fits s d
  pub served : IsServed s.size e
  pub free : refusal_on s 0 e ≡ None
  pub numbered : d.arrived + 1 < 2 ^ 32

-- what was made is the turn of an event
pub record IsTurnOf (s : Scene) (e : Event) (old new : Server) (entries : List Entry) (made : MadeTurn) : Type 0 where
  pub label : label_of s e ≡ Some made.label
  pub arrival : BeginsWith (arrives_as s.hist.arrived e) entries
  pub moves : Moves made.label s old new entries made.ended
