-- What is so of a move in flight between its turns, and which turns of others leave it so.
use Rattle.std.specs.Prelude.{◌≡◌, ◌≢◌, ℕ, ◌-◌, ◌<◌, ◌≤◌, false, List, [], All, Option, Some, None}
use Rattle.disk_base.specs.declared.address.Lba.{Lba}
use Rattle.disk_base.specs.declared.address.Psn.{Psn}
use Rattle.disk_base.specs.declared.block.Value.{Value}
use Rattle.disk_base.specs.declared.block.Value.TheVariants.{Data}
use Rattle.disk_base.specs.declared.stage.MoveWhy.{MoveWhy}
use Rattle.disk_base.specs.declared.stage.MoveWhy.TheVariants as why
use Rattle.platter_model.specs.declared.op.Op.{Op}
use Rattle.platter_model.specs.Sector.{meant}
use Rattle.platter_model.specs.TrueLog.{strays}
use Rattle.geometry_map.specs.DefectMap.{IsValidMap, place_of}
use Rattle.geometry_map.specs.Chains.{IsChain, IsFreeSpare, IsNoNew}
use Rattle.move_jobs.specs.declared.step.JobStep.TheVariants.{Writing, Committing}
use Rattle.move_jobs.specs.Job.{spare_of, result_of}
use Rattle.sector_store.specs.Maps.{next_map}
use Rattle.sector_store.specs.Shapes.{payload_on}
use Rattle.sector_store.specs.Stored.{stored}
use Rattle.cdb_reader.specs.declared.plan.Writing as writing
use Rattle.cdb_reader.specs.declared.plan.Plan.TheVariants as plan
use Rattle.cdb_reader.specs.Plan.{block_of}
use Rattle.block_machine.specs.State.{owed_by}
use Rattle.block_machine.specs.declared.turn.Label.TheVariants.{Job}
use Rattle.move_table.specs.declared.flight.Flight.{Flight}
use Rattle.drive_scene.specs.Scene.{Scene, Beat, beat, capacity}
use Rattle.drive_scene.specs.After.{scene_after}
use Rattle.move_table.specs.Table.{flight, job_in, with_job}
use Rattle.drive_scene.specs.Evidence.{IsGivenUpBy}
use Rattle.drive_scene.specs.Still.{IsStanding}
use Rattle.drive_scene.specs.Carried.{IsValueOf, IsAsStored}
use Rattle.drive_scene.specs.MoveTurn.{IsMoveWork, IsMoveTurn, job_after, back_after_job, is_cut_off, present_owner}
use Rattle.drive_scene.specs.CommitTurn.{IsReadyToCommit}

-- a command that is in is to write these data to a block next
pub record IsWrittenBy (s : Scene) (b : Lba) (v : Value) (c : ℕ) : Type 0 where
  pub w : writing.Writing
  pub owes : owed_by s.hist c ≡ Some (plan.Writing w)
  pub at_block : w.at ≡ b.0
  pub left : w.at < w.end
  pub unput : w.owes_harden ≡ false
  pub is_data : v ≡ Data (block_of w.sent (w.at - w.from))

-- what the command that opened a move has to do with its value: it gave the block up, or brought the data
abbrev pub IsOwners : Scene → MoveWhy → Lba → Value → Option ℕ → Type 0
IsOwners s why.GivenUp b v None = ⊥
IsOwners s why.GivenUp b v (Some c) = IsGivenUpBy s b c
IsOwners s why.Write b v None = ⊥
IsOwners s why.Write b v (Some c) = IsWrittenBy s b v c
IsOwners s other b v owner = Unit {0}

-- a move in flight isn't over; its chain goes from the block's place to spares that are in no pair, the last of which carries its value
-- once it was written; and its value is what the history has of the block and, while no operation is a stray, the medium
pub record IsFlight (s : Scene) (f : Flight) : Type 0 where
  pub numbered : f.j ≤ s.back.opened
  pub underway : result_of f.job ≡ None
  pub below : f.job.b.0 < capacity s
  pub chain : IsChain (place_of s.map f.job.b) f.job.chain
  pub begun : f.job.chain ≢ []
  pub spares : All (λ pair. IsFreeSpare s.map pair.new) f.job.chain
  pub written : f.job.step ≢ Writing → meant (spare_of f.job) s.ops ≡ Some (payload_on (spare_of f.job) f.job.b f.job.value)
  pub value : IsValueOf s.hist.blocks f.job.why f.job.b f.job.value
  pub as_stored : strays s.ops ≡ 0 → IsAsStored f.job.why f.job.value (stored s.map s.ops f.job.b)
  pub owned : IsOwners s f.job.why f.job.b f.job.value f.job.owner

-- the command that opened a move keeps what the move stands on
abbrev pub LeavesOwner : Scene → Scene → MoveWhy → Option ℕ → Type 0
LeavesOwner s u why.GivenUp (Some c) = (u.windows c ≡ s.windows c) × (u.settings c ≡ s.settings c)
LeavesOwner s u why.Write (Some c) = owed_by u.hist c ≡ owed_by s.hist c
LeavesOwner s u other owner = Unit {0}

-- from one scene to a later one, a move in flight is left alone: its block, what is meant at the block's place and at the spare in hand,
-- its spares, which no pair took, and its owner
pub record LeavesFlight (s u : Scene) (f : Flight) : Type 0 where
  pub size : u.size ≡ s.size
  pub opened : s.back.opened ≤ u.back.opened
  pub no_fewer : strays s.ops ≤ strays u.ops
  pub block : u.hist.blocks f.job.b.0 ≡ s.hist.blocks f.job.b.0
  pub place : place_of u.map f.job.b ≡ place_of s.map f.job.b
  pub at_place : meant (place_of s.map f.job.b) u.ops ≡ meant (place_of s.map f.job.b) s.ops
  pub at_spare : meant (spare_of f.job) u.ops ≡ meant (spare_of f.job) s.ops
  pub spares : All (λ pair. IsFreeSpare u.map pair.new) f.job.chain
  pub owner : LeavesOwner s u f.job.why f.job.owner

-- a move that is left alone stays in flight
abbrev pub FlightsStay : Type 0
FlightsStay = (s u : Scene) (f : Flight) → IsFlight s f → LeavesFlight s u f → IsFlight u f

-- while no operation is a stray, a move in flight whose spare was checked is ready to be committed
abbrev pub FlightsAreReadyToCommit : Type 0
FlightsAreReadyToCommit = (s : Scene) (f : Flight) → s.map.size ≡ s.size → IsStanding s → strays s.ops ≡ 0 → IsFlight s f → f.job.step ≡ Committing
    → IsReadyToCommit s.map s.ops s.hist.blocks (present_owner s f.job) f.job

-- a move in flight after its turn
abbrev pub flight_after : Scene → Flight → List Op → Flight
flight_after s f ops = flight f.j (job_after s f.job ops)

-- a turn in which a move writes to its spare or checks it, and is not over then: it tells nothing
abbrev pub move_turn : Flight → List Op → Beat
move_turn f ops = beat (Job f.j) [] ops

-- a move that is in flight may go on: it does what it needs, the power stays on, and a spare is left where one is needed
pub record MayGoOn (s : Scene) (f : Flight) (ops : List Op) : Type 0 where
  pub size : s.map.size ≡ s.size
  pub valid : IsValidMap s.map
  pub in_flight : job_in s.back.flights f.j ≡ Some f.job
  pub flight : IsFlight s f
  pub work : IsMoveWork s f.job f.job.step ops
  pub powered : is_cut_off ops ≡ false
  pub goes_on : result_of (job_after s f.job ops) ≡ None

-- its turn is one of a move, which is in flight after it; nothing else in hand changed
pub record GoesOn (s : Scene) (f : Flight) (ops : List Op) : Type 0 where
  pub turn : IsMoveTurn s f.j [] ops
  pub flight : IsFlight (scene_after s (move_turn f ops)) (flight_after s f ops)
  pub in_hand : back_after_job s f.j f.job ops ≡ record s.back { flights = with_job f.j (job_after s f.job ops) s.back.flights }

-- a move that may go on does
abbrev pub MovesGoOn : Type 0
MovesGoOn = (s : Scene) (f : Flight) (ops : List Op) → MayGoOn s f ops → GoesOn s f ops

-- two moves in flight are of different blocks, and have no spare in common
pub record AreApart (f g : Flight) : Type 0 where
  pub blocks : g.job.b ≢ f.job.b
  pub spares : All (λ pair. IsNoNew pair.new f.job.chain) g.job.chain

-- a move that goes on leaves each other one alone
abbrev pub MovesLeaveOthers : Type 0
MovesLeaveOthers = (s : Scene) (f g : Flight) (ops : List Op) → MayGoOn s f ops → IsFlight s g → AreApart f g
    → LeavesFlight s (scene_after s (move_turn f ops)) g

-- the chain of a move was committed: the map has its pairs, sectors of the maps alone were written, and no other block changed
pub record IsCommitted (s u : Scene) (f : Flight) : Type 0 where
  pub size : u.size ≡ s.size
  pub map : u.map ≡ next_map s.map f.job.chain
  pub opened : s.back.opened ≤ u.back.opened
  pub no_fewer : strays s.ops ≤ strays u.ops
  pub reserved : (p : Psn) → 16 ≤ p.0 → meant p u.ops ≡ meant p s.ops
  pub blocks : (q : Lba) → q ≢ f.job.b → u.hist.blocks q.0 ≡ s.hist.blocks q.0

-- a commit leaves each other move alone whose owner it leaves
abbrev pub CommitsLeaveOthers : Type 0
CommitsLeaveOthers = (s u : Scene) (f g : Flight) → s.map.size ≡ s.size → IsValidMap s.map → IsFlight s f → IsFlight s g → AreApart f g
    → IsCommitted s u f → LeavesOwner s u g.job.why g.job.owner → LeavesFlight s u g
