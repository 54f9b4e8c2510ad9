-- What the commit of a move is for the plan of the command that opened it, and that its entries may come.
use Rattle.std.specs.Prelude.{◌≡◌, ℕ, Bool, IsTrue, IsSome, List, [], ◌∷◌, ◌++◌, Option, Some, None}
use Rattle.disk_base.specs.declared.address.Lba.{Lba}
use Rattle.disk_base.specs.declared.block.Value.{Value}
use Rattle.disk_base.specs.declared.block.Value.TheVariants.{Data}
use Rattle.disk_base.specs.declared.stage.MoveWhy.{MoveWhy}
use Rattle.disk_base.specs.declared.stage.MoveWhy.TheVariants as why
use Rattle.cdb_reader.specs.declared.plan.Plan.{Plan}
use Rattle.cdb_reader.specs.declared.plan.Deed.{Deed}
use Rattle.cdb_reader.specs.declared.plan.Deed.TheVariants as deed
use Rattle.cdb_reader.specs.Plan.{plan_after}
use Rattle.block_machine.specs.declared.turn.Label.TheVariants.{Job}
use Rattle.block_machine.specs.Deeds.{is_crowded}
use Rattle.block_machine.specs.State.{State, owed_by}
use Rattle.block_machine.specs.Turns.{entries_lawful}
use Rattle.move_table.specs.declared.flight.Flight.{Flight}
use Rattle.drive_scene.specs.Scene.{Scene, capacity}
use Rattle.drive_scene.specs.Carried.{commit_entries, cut_entries}
use Rattle.drive_scene.specs.MoveTurn.{present_owner, if_scans, logged_moved}
use Rattle.drive_scene.specs.Flights.{IsFlight}

-- what a commit is for its owner's plan: new data are put and hardened, a dirty value and a mark are hardened
abbrev pub commit_deeds : MoveWhy → Lba → Value → Bool → List Deed
commit_deeds why.Write b (Data bytes) crowded = deed.Put b bytes crowded ∷ deed.Hardened b ∷ []
commit_deeds why.Dirty b v crowded = deed.Hardened b ∷ []
commit_deeds why.GivenUp b v crowded = deed.Hardened b ∷ []
commit_deeds other b v crowded = []

-- the owner that is in owes a plan that takes the commit
abbrev pub TakesCommit : State → MoveWhy → Lba → Value → Option ℕ → Type 0
TakesCommit h why b v None = Unit {0}
TakesCommit h why b v (Some c) = (plan : Plan) × (owed_by h c ≡ Some plan) × IsSome (plan_after (Some plan) (commit_deeds why b v (is_crowded h c b.0)))

-- the entries of a move's commit may come as far as commands go, be it done or cut off
pub record MayBeTold (s : Scene) (f : Flight) : Type 0 where
  pub done : IsTrue (entries_lawful (capacity s) (Job f.j) s.hist
      (commit_entries f.job.why (present_owner s f.job) f.job.b f.job.value ++ if_scans f.job (logged_moved s f.job.b)))
  pub cut_off : IsTrue (entries_lawful (capacity s) (Job f.j) s.hist (cut_entries f.job.why (present_owner s f.job) f.job.b f.job.value))

-- so they may for a move in flight whose owner, where it is in, takes the commit
abbrev pub CommitsMayBeTold : Type 0
CommitsMayBeTold = (s : Scene) (f : Flight) → IsFlight s f → TakesCommit s.hist f.job.why f.job.b f.job.value (present_owner s f.job) → MayBeTold s f
