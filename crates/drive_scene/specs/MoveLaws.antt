-- The turns of moves are good.
use Rattle.std.specs.Prelude.{◌≡◌, ℕ, ◌≤◌, false, List, ◌++◌, length, Some, None}
use Rattle.platter_model.specs.declared.op.Op.{Op}
use Rattle.move_jobs.specs.declared.step.JobStep.TheVariants.{Committing}
use Rattle.block_machine.specs.declared.entry.Entry.{Entry}
use Rattle.block_machine.specs.declared.turn.Label.TheVariants.{Job}
use Rattle.move_table.specs.declared.flight.Flight.{Flight}
use Rattle.drive_scene.specs.Scene.{Scene, Beat, beat}
use Rattle.drive_scene.specs.After.{scene_after}
use Rattle.drive_scene.specs.Holds.{holder_besides}
use Rattle.drive_scene.specs.Present.{IsPresentMap}
use Rattle.move_table.specs.Table.{job_in}
use Rattle.drive_scene.specs.MoveTurn.{IsMoveTurn, is_cut_off, present_owner}
use Rattle.drive_scene.specs.GoodTurn.{GoodTurn, window_at_most}
use Rattle.drive_scene.specs.Still.{IsStanding}
use Rattle.drive_scene.specs.Flights.{IsFlight}
use Rattle.drive_scene.specs.CommitTasks.{TakesCommit}

-- the turn of a move with these entries and operations
abbrev pub turn_of_move : Flight → List Entry → List Op → Beat
turn_of_move f entries ops = beat (Job f.j) entries ops

-- a move in flight has its turn, in which the power stays on: nobody else holds its block, the map after the turn is there, and its owner
-- takes a commit
pub record MayMove (s : Scene) (f : Flight) (entries : List Entry) (ops : List Op) : Type 0 where
  pub size : s.map.size ≡ s.size
  pub standing : IsStanding s
  pub windows : (q : ℕ) → length (s.windows q) ≤ window_at_most
  pub in_flight : job_in s.back.flights f.j ≡ Some f.job
  pub flight : IsFlight s f
  pub free : holder_besides s (Job f.j) f.job.b.0 ≡ None
  pub turn : IsMoveTurn s f.j entries ops
  pub powered : is_cut_off ops ≡ false
  pub present : IsPresentMap (scene_after s (turn_of_move f entries ops)).map (s.ops ++ ops)
  pub taken : f.job.step ≡ Committing → TakesCommit s.hist f.job.why f.job.b f.job.value (present_owner s f.job)

-- the turns of moves are good: those in which a move goes on, ends for want of a spare, or is committed
abbrev pub MovesAreGood : Type 0
MovesAreGood = (s : Scene) (f : Flight) (entries : List Entry) (ops : List Op) → MayMove s f entries ops → GoodTurn s (turn_of_move f entries ops)
