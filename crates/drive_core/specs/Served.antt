-- What is served so far. This file alone is changed where more is.
use Rattle.std.specs.Prelude.{◌+◌, ◌<◌, ◌≤◌, ◌==◌, not, Bool, true, false, IsTrue, ℕ, List, slice_index, Result, Ok, Err}
use Rattle.sense_data.specs.declared.sense.Sense.{Sense}
use Rattle.platter_model.specs.declared.world.World.{World}
use Rattle.platter_model.specs.declared.world.World.TheVariants.{Damage, Minutes}
use Rattle.geometry_map.specs.declared.size.Size.{Size}
use Rattle.geometry_map.specs.Size.{total_of}
use Rattle.cdb_reader.specs.Request.{Request, ReassignBlocks}
use Rattle.cdb_reader.specs.declared.plan.Plan.{Plan}
use Rattle.cdb_reader.specs.declared.plan.Plan.TheVariants.{Ending, Unread, Reading, Writing, Syncing}
use Rattle.drive_scene.specs.declared.event.Arrival.{Arrival}
use Rattle.drive_scene.specs.declared.event.Arrival.TheVariants.{Command, Function}
use Rattle.drive_scene.specs.declared.event.Event.{Event}
use Rattle.drive_scene.specs.declared.event.Event.TheVariants as event

-- the operation codes that are served: all but REASSIGN BLOCKS
abbrev pub is_served_code : ℕ → Bool
is_served_code code = not (code == 0x07)

-- a command block that is served: of these codes
abbrev pub is_served_cdb : List ℕ → Bool
is_served_cdb bs = is_served_code (slice_index bs 0)

-- what a served command block asks for, also where it is refused
abbrev pub is_served : Result Request Sense → Bool
is_served (Ok (ReassignBlocks blocks)) = false
is_served (Ok other) = true
is_served (Err sense) = true

-- and the plans of such commands from one turn to the next
abbrev pub is_served_plan : Plan → Bool
is_served_plan (Ending reply) = true
is_served_plan (Unread b) = true
is_served_plan (Reading r) = true
is_served_plan (Writing w) = true
is_served_plan (Syncing y) = true
is_served_plan other = false

-- what may happen from outside so far: damage within the drive, and minutes pass
abbrev pub IsServedWorld : Size → World → Type 0
IsServedWorld size (Damage d) = (d.p.0 < total_of size) × (d.first + d.count ≤ 9478)
IsServedWorld size (Minutes n) = Unit {0}
IsServedWorld size other = ⊥

-- what may arrive so far
abbrev pub IsServedArrival : Arrival → Type 0
IsServedArrival (Command x) = IsTrue (is_served_cdb x.cdb)
IsServedArrival (Function i what) = Unit {0}

-- the events that are served
abbrev pub IsServed : Size → Event → Type 0
IsServed size (event.Arrive a) = IsServedArrival a
IsServed size (event.Work c) = Unit {0}
IsServed size (event.Job j) = Unit {0}
IsServed size (event.Any x) = Unit {0}
IsServed size event.Destage = Unit {0}
IsServed size (event.World w) = IsServedWorld size w
IsServed size other = ⊥
