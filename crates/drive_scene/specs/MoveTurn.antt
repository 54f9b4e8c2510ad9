-- The turn of a move: its operations by what the move needs next, what it tells, and what is in hand after it.
use Rattle.std.specs.Prelude.{◌≡◌, ℕ, ◌+◌, ◌-◌, Bool, true, false, if◌then◌else◌, List, [], ◌∷◌, ◌++◌, length, slice_get, Option, Some, None}
use Rattle.std.specs.List.{list_any}
use Rattle.std.specs.Option.{option_map, option_and_then, is_none}
use Rattle.disk_base.specs.At.{put_at}
use Rattle.disk_base.specs.declared.address.Lba.{Lba}
use Rattle.disk_base.specs.declared.address.Psn.{Psn}
use Rattle.disk_base.specs.declared.payload.Payload.{Payload}
use Rattle.disk_base.specs.declared.stage.MoveWhy.{MoveWhy}
use Rattle.disk_base.specs.declared.stage.MoveWhy.TheVariants.{Heavy}
use Rattle.platter_model.specs.declared.op.Op.{Op}
use Rattle.platter_model.specs.declared.op.Op.TheVariants as op
use Rattle.platter_model.specs.TrueLog.{is_same}
use Rattle.geometry_map.specs.DefectMap.{next_spare_of}
use Rattle.move_jobs.specs.declared.answer.JobAnswer.{JobAnswer}
use Rattle.move_jobs.specs.declared.answer.JobAnswer.TheVariants.{Done, Bad}
use Rattle.move_jobs.specs.declared.step.JobResult.TheVariants.{Moved, NoSpare}
use Rattle.move_jobs.specs.declared.step.JobStep.{JobStep}
use Rattle.move_jobs.specs.declared.step.JobStep.TheVariants.{Writing, Checking, Committing, Over}
use Rattle.move_jobs.specs.Job.{Job, spare_of, answered}
use Rattle.sector_store.specs.Shapes.{payload_on, IsSpareWrite, IsSpareCheck, IsCommit}
use Rattle.sector_store.specs.Spares.{check_stage}
use Rattle.task_set.specs.Members.{member_of}
use Rattle.block_machine.specs.declared.entry.Entry.{Entry}
use Rattle.block_machine.specs.declared.entry.Entry.TheVariants.{Logged, Cut}
use Rattle.move_table.specs.declared.flight.Flight.{Flight}
use Rattle.move_table.specs.Table.{job_in, taken, with_job, without_job}
use Rattle.drive_scene.specs.Background.{Background}
use Rattle.drive_scene.specs.Carried.{commit_entries, cut_entries}
use Rattle.drive_scene.specs.Scene.{Scene}

-- the spare that is given next
abbrev pub next_spare : Scene → Option Psn
next_spare s = next_spare_of s.map (taken s.back.flights)

-- the command that opened a move, while it is in
abbrev pub present_owner : Scene → Job → Option ℕ
present_owner s job = option_and_then (λ c. option_map (λ m. c) (member_of s.hist.set c)) job.owner

-- the operations of a move's turn: a write of its value to the spare in hand, a plain read of that, or the commit of its chain
abbrev pub IsMoveWork : Scene → Job → JobStep → List Op → Type 0
IsMoveWork s job Writing ops = IsSpareWrite (spare_of job) job.b job.value ops
IsMoveWork s job Checking ops = IsSpareCheck (length s.ops) (spare_of job) check_stage ops
IsMoveWork s job Committing ops = IsCommit s.map job.chain ops
IsMoveWork s job (Over end) ops = ⊥

abbrev pub last_of : List Op → Option Op
last_of ops = slice_get ops (length ops - 1)

-- a write was done
abbrev pub is_written : Option Op → Bool
is_written (Some (op.Wrote payload)) = true
is_written other = false

-- a try found this very payload
abbrev pub reads_back : Payload → Option Op → Bool
reads_back payload (Some (op.Tried at p stage (Some found))) = is_same payload found
reads_back payload other = false

-- a spare is good, or gives way to the next one
abbrev pub answer_if : Bool → Option Psn → JobAnswer
answer_if true next = Done
answer_if false next = Bad next

-- how the turn's last operation answers what the move needed
abbrev pub answer_at : Scene → Job → JobStep → Option Op → JobAnswer
answer_at s job Writing last = answer_if (is_written last) (next_spare s)
answer_at s job Checking last = answer_if (reads_back (payload_on (spare_of job) job.b job.value) last) (next_spare s)
answer_at s job step last = Done

-- the move after its turn
abbrev pub job_after : Scene → Job → List Op → Job
job_after s job ops = answered job (answer_at s job job.step (last_of ops))

abbrev pub is_power_cut : Op → Bool
is_power_cut op.Cut = true
is_power_cut other = false

-- the power went in the turn
abbrev pub is_cut_off : List Op → Bool
is_cut_off ops = list_any is_power_cut ops

-- a block that the scan read with effort, with this reassign status and qualifier of RECOVERED DATA (SBC-3, Background Scan Results log
-- page)
abbrev pub recovered_data : ℕ → ℕ → Scene → Lba → Entry
recovered_data status ascq s b = Logged (record { minutes = s.hist.scan.minutes; status = status; key = 1; asc = 0x18; ascq = ascq; b = b })

-- DATA AUTO-REALLOCATED, and RECOMMEND REASSIGNMENT
abbrev pub logged_moved : Scene → Lba → Entry
logged_moved s b = recovered_data 2 0x02 s b

abbrev pub logged_unmoved : Scene → Lba → Entry
logged_unmoved s b = recovered_data 4 0x05 s b

-- a move that no command opened is the scan's, which logs how it ends
abbrev pub if_scans : Job → Entry → List Entry
if_scans job e = if is_none job.owner then e ∷ [] else []

-- a move that ends for want of a spare
abbrev pub end_entries : Scene → Job → JobStep → List Entry
end_entries s job (Over NoSpare) = if_scans job (logged_unmoved s job.b)
end_entries s job step = []

-- the entries of a move's turn: before its commit none but its end or the cut
abbrev pub move_entries : Scene → Job → JobStep → List Op → List Entry
move_entries s job Committing ops =
    if is_cut_off ops then cut_entries job.why (present_owner s job) job.b job.value
    else commit_entries job.why (present_owner s job) job.b job.value ++ if_scans job (logged_moved s job.b)
move_entries s job step ops = if is_cut_off ops then Cut ∷ [] else end_entries s job (job_after s job ops).step

-- a turn of the move of this number, which is in flight
pub record IsMoveTurn (s : Scene) (j : ℕ) (entries : List Entry) (ops : List Op) : Type 0 where
  pub job : Job
  pub in_flight : job_in s.back.flights j ≡ Some job
  pub work : IsMoveWork s job job.step ops
  pub told : entries ≡ move_entries s job job.step ops

-- a move that was committed counts for its owner
abbrev pub with_moved : Option ℕ → (ℕ → ℕ) → ℕ → ℕ
with_moved None moved = moved
with_moved (Some c) moved = put_at c (moved c + 1) moved

-- a move that found no spare leaves its owner short of one, unless the block was read all the same
abbrev pub with_short : MoveWhy → Option ℕ → Lba → (ℕ → Option Lba) → ℕ → Option Lba
with_short Heavy owner b short = short
with_short why None b short = short
with_short why (Some c) b short = put_at c (Some b) short

-- what is in hand where the move of a number comes to a step
abbrev pub back_by_step : ℕ → Job → JobStep → Background → Background
back_by_step j job (Over Moved) back =
    record back { flights = without_job j back.flights; moved = with_moved job.owner back.moved; logged = put_at job.b.0 false back.logged }
back_by_step j job (Over NoSpare) back =
    record back { flights = without_job j back.flights; short = with_short job.why job.owner job.b back.short }
back_by_step j job step back = record back { flights = with_job j job back.flights }

-- what is in hand after the turn of a move, before the turn's entries act on it
abbrev pub back_after_job : Scene → ℕ → Job → List Op → Background
back_after_job s j job ops = back_by_step j (job_after s job ops) (job_after s job ops).step s.back
