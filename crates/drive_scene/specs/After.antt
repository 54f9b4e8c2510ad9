-- What the turns of a drive have come to after one turn more.
use Rattle.std.specs.Prelude.{ℕ, ◌+◌, ◌-◌, ◌==◌, Bool, false, if◌then◌else◌, List, [], ◌∷◌, ◌++◌, fold, length, slice_get, Option, Some, None}
use Rattle.std.specs.List.{list_any}
use Rattle.std.specs.Option.{option_map_or, option_and_then}
use Rattle.disk_base.specs.At.{put_at}
use Rattle.disk_base.specs.declared.address.Lba.{Lba}
use Rattle.disk_base.specs.declared.block.Value.TheVariants.{Data}
use Rattle.disk_base.specs.declared.stage.Stage.{Stage}
use Rattle.mode_pages.specs.declared.settings.Settings.{Settings}
use Rattle.platter_model.specs.declared.op.Op.{Op}
use Rattle.platter_model.specs.declared.op.Op.TheVariants.{Tried}
use Rattle.geometry_map.specs.DefectMap.{DefectMap}
use Rattle.sector_store.specs.Maps.{next_map}
use Rattle.move_jobs.specs.Job as move_job
use Rattle.move_jobs.specs.declared.step.JobStep.{JobStep}
use Rattle.move_jobs.specs.declared.step.JobStep.TheVariants.{Committing}
use Rattle.command_engine.specs.declared.step.Recovery.{Recovery}
use Rattle.block_machine.specs.declared.entry.Entry.{Entry}
use Rattle.block_machine.specs.declared.entry.Entry.TheVariants.{Arrived, Started, Get, Put, Harden}
use Rattle.block_machine.specs.declared.entry.Who.TheVariants.{Command}
use Rattle.block_machine.specs.declared.turn.Label.{Label}
use Rattle.block_machine.specs.declared.turn.Label.TheVariants.{Arrive, Work, Job, Scan, Destage, World}
use Rattle.block_machine.specs.Steps.{begun, entries_after}
use Rattle.move_table.specs.Table.{flight, job_in}
use Rattle.drive_scene.specs.Background.{Background, flights_by, step_by, stuck_by, logged_by_op, logged_by, given_up_by}
use Rattle.drive_scene.specs.MoveTurn.{is_cut_off, back_after_job}
use Rattle.drive_scene.specs.Scene.{Scene, Beat, capacity}

-- an entry with which a command's window begins anew
abbrev pub opens_window : ℕ → Entry → Bool
opens_window c (Started d) = d == c
opens_window c (Get d b v) = d == c
opens_window c (Put d b v) = d == c
opens_window c (Harden (Command d) b) = d == c
opens_window c other = false

abbrev pub window_after : ℕ → List Op → Beat → List Op
window_after c window t = if list_any (opens_window c) t.entries then [] else window ++ t.ops

-- a command that arrives has an empty window
abbrev pub with_arrival : (ℕ → List Op) → Entry → ℕ → List Op
with_arrival windows (Arrived c i t a cdb sent) = put_at c [] windows
with_arrival windows other = windows

-- the windows after a turn: it belongs to that of the command at work. A turn of a move belongs to none, and no scan comes yet
abbrev pub windows_by : Label → (ℕ → List Op) → Beat → ℕ → List Op
windows_by (Work c) windows t = put_at c (window_after c (windows c) t) windows
windows_by (Arrive i) windows t = fold with_arrival windows t.entries
windows_by (World w) windows t = windows
windows_by Destage windows t = windows
windows_by (Job j) windows t = windows
windows_by Scan windows t = windows

-- a command starts with these mode values
abbrev pub settings_by : Settings → (ℕ → Settings) → Entry → ℕ → Settings
settings_by settings each (Started c) = put_at c settings each
settings_by settings each other = each

-- the stage by which a try found something
abbrev pub stage_that_found : Op → Option Stage
stage_that_found (Tried at p stage (Some payload)) = Some stage
stage_that_found other = None

-- the stage of the last operation, where that is a try that found something
abbrev pub last_found : List Op → Option Stage
last_found ops = option_and_then stage_that_found (slice_get ops (length ops - 1))

-- this block is the last past the plain read, where the stage isn't that
abbrev pub past_plain_read : Lba → Option Recovery → Stage → Option Recovery
past_plain_read b before stage = if stage.number == 0 then before else Some (record { b = b; stage = stage })

-- a command gets a block, after these operations in its window; one that arrives got none yet
abbrev pub recovered_by : (ℕ → List Op) → (ℕ → Option Recovery) → Entry → ℕ → Option Recovery
recovered_by windows recovered (Get c b (Data bytes)) =
    put_at c (option_map_or (past_plain_read b (recovered c)) (last_found (windows c)) (recovered c)) recovered
recovered_by windows recovered (Arrived c i t a cdb sent) = put_at c None recovered
recovered_by windows recovered other = recovered

-- the windows with the operations of this turn, whole
abbrev pub windows_with : Label → (ℕ → List Op) → List Op → ℕ → List Op
windows_with (Work c) windows ops = put_at c (windows c ++ ops) windows
windows_with label windows ops = windows

-- the move that a turn opens: nothing opens one yet
abbrev pub opening : Scene → Beat → Option move_job.Job
opening s t = None

-- a move that needs its commit next
abbrev pub if_committing : move_job.Job → JobStep → Option move_job.Job
if_committing job Committing = Some job
if_committing job step = None

-- the move that a turn commits: that of its number, where it needs its commit next and the power stays on
abbrev pub committed_by : Scene → Label → List Op → Option move_job.Job
committed_by s (Job j) ops = if is_cut_off ops then None else option_and_then (λ job. if_committing job job.step) (job_in s.back.flights j)
committed_by s label ops = None

-- the map after a commit has the move's pairs
abbrev pub map_committed : Option move_job.Job → DefectMap → DefectMap
map_committed None m = m
map_committed (Some job) m = next_map m job.chain

-- the window of a move's owner begins anew with the commit
abbrev pub window_of_owner : Option ℕ → (ℕ → List Op) → ℕ → List Op
window_of_owner None windows = windows
window_of_owner (Some c) windows = put_at c [] windows

abbrev pub windows_committed : Option move_job.Job → (ℕ → List Op) → ℕ → List Op
windows_committed None windows = windows
windows_committed (Some job) windows = window_of_owner job.owner windows

-- what is in hand once the turn of a move answered its job; other turns answer none
abbrev pub back_by_move : Scene → Label → List Op → Background
back_by_move s (Job j) ops = option_map_or (λ job. back_after_job s j job ops) (job_in s.back.flights j) s.back
back_by_move s label ops = s.back

-- what is in hand once a turn opened its move
abbrev pub back_by_opening : Option move_job.Job → Background → Background
back_by_opening None back = back
back_by_opening (Some job) back =
    record back { opened = back.opened + 1; flights = back.flights ++ flight (back.opened + 1) job ∷ [] }

-- what is in hand after operations, by the map before them, and entries. No turn of the scan or of a destage that failed comes yet: the
-- first goes on with its step, the second marks its block as stuck
abbrev pub back_by_entries : DefectMap → List Op → List Entry → Background → Background
back_by_entries m ops entries back = record {
  opened = back.opened;
  flights = fold flights_by back.flights entries;
  moved = back.moved;
  short = back.short;
  step = fold step_by back.step entries;
  stuck = fold stuck_by back.stuck entries;
  logged = fold logged_by (fold (logged_by_op m) back.logged ops) entries;
  given_up = fold given_up_by back.given_up entries;
}

-- what is in hand after a turn: it answers its move, opens one, and then its operations and entries act
abbrev pub background_after : Scene → Beat → Background
background_after s t = back_by_entries s.map t.ops t.entries (back_by_opening (opening s t) (back_by_move s t.label t.ops))

-- what the turns have come to after one more
abbrev pub scene_after : Scene → Beat → Scene
scene_after s t = record {
  size = s.size;
  map = map_committed (committed_by s t.label t.ops) s.map;
  ops = s.ops ++ t.ops;
  hist = entries_after (capacity s) t.label (begun s.hist t.label) t.entries;
  windows = windows_committed (committed_by s t.label t.ops) (windows_by t.label s.windows t);
  settings = fold (settings_by s.hist.settings) s.settings t.entries;
  recovered = fold (recovered_by (windows_with t.label s.windows t.ops)) s.recovered t.entries;
  since = s.since ++ t.ops;
  entries = s.entries ++ t.entries;
  back = background_after s t;
}
