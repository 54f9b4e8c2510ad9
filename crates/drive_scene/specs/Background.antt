-- What the drive has in hand beside its commands: moves of blocks to spares, the scan, and marks on blocks.
use Rattle.std.specs.Prelude.{ℕ, ◌==◌, ◌&&◌, not, Bool, true, false, if◌then◌else◌, List, [], Option, None}
use Rattle.disk_base.specs.At.{put_at}
use Rattle.disk_base.specs.declared.address.Lba.{Lba}
use Rattle.read_recovery.specs.Stages.{Progress}
use Rattle.platter_model.specs.declared.op.Op.{Op}
use Rattle.platter_model.specs.declared.op.Op.TheVariants.{Wrote}
use Rattle.geometry_map.specs.DefectMap.{DefectMap, place_of}
use Rattle.move_table.specs.declared.flight.Flight.{Flight}
use Rattle.move_table.specs.Table.{without_new}
use Rattle.block_machine.specs.declared.entry.Entry.{Entry}
use Rattle.block_machine.specs.declared.entry.Entry.TheVariants.{Put, GiveUp, Logged, Aborted, Mode, Cut, PoweredOn}

-- how many moves were opened, and those of them that are in flight, by number; of each command, how many of its moves were committed,
-- and the block for which it found no spare; the scan's step in hand; of each block, whether its destage failed since its last put,
-- whether it was logged as unread and since then neither written to its place nor moved, and whether it was given up
pub record Background : Type 0 where
  pub opened : ℕ
  pub flights : List Flight
  pub moved : ℕ → ℕ
  pub short : ℕ → Option Lba
  pub step : Option Progress
  pub stuck : ℕ → Bool
  pub logged : ℕ → Bool
  pub given_up : ℕ → Bool

-- nothing is in hand, and no block has a mark
abbrev pub background_at_start : Background
background_at_start = record {
  opened = 0;
  flights = [];
  moved = λ c. 0;
  short = λ c. None;
  step = None;
  stuck = λ b. false;
  logged = λ b. false;
  given_up = λ b. false;
}

-- the moves in flight after an entry: new data of a command that is aborted are dropped, and no move outlives the power
abbrev pub flights_by : List Flight → Entry → List Flight
flights_by flights (Aborted c) = without_new c flights
flights_by flights Cut = []
flights_by flights other = flights

-- the scan's step in hand is let go where background scans are disabled, and where the power goes (SBC-3, background control mode page)
abbrev pub step_by : Option Progress → Entry → Option Progress
step_by step (Mode settings) = if settings.bms then step else None
step_by step Cut = None
step_by step other = step

-- new data of a block may be destaged
abbrev pub stuck_by : (ℕ → Bool) → Entry → ℕ → Bool
stuck_by stuck (Put c b v) = put_at b.0 false stuck
stuck_by stuck other = stuck

-- a write to a block's place ends that it is logged as unread
abbrev pub logged_by_op : DefectMap → (ℕ → Bool) → Op → ℕ → Bool
logged_by_op m logged (Wrote payload) = λ b. logged b && not ((place_of m (record { 0 = b })).0 == payload.psn.0)
logged_by_op m logged other = logged

-- a finding that no stage found a block marks it, and the log is empty when the power comes on
abbrev pub logged_by : (ℕ → Bool) → Entry → ℕ → Bool
logged_by logged (Logged finding) = if finding.status == 1 then put_at finding.b.0 true logged else logged
logged_by logged (PoweredOn outcome) = λ b. false
logged_by logged other = logged

abbrev pub given_up_by : (ℕ → Bool) → Entry → ℕ → Bool
given_up_by given_up (GiveUp b) = put_at b.0 true given_up
given_up_by given_up other = given_up
