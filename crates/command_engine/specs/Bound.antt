-- How many answers are still to come at most.
use Rattle.std.specs.Prelude.{ℕ, ◌+◌, ◌*◌, ◌-◌, nat_lt, Bool, true, not, ◌&&◌, if◌then◌else◌, length}
use Rattle.cdb_reader.specs.declared.plan.Reading as reading
use Rattle.cdb_reader.specs.declared.plan.Writing as writing
use Rattle.cdb_reader.specs.declared.plan.Syncing as syncing
use Rattle.cdb_reader.specs.declared.plan.Moving as moving
use Rattle.cdb_reader.specs.declared.plan.Plan.{Plan}
use Rattle.cdb_reader.specs.declared.plan.Plan.TheVariants.{Answering, Reading, Writing, Syncing, Moving}
use Rattle.command_engine.specs.declared.step.Step.{Step}
use Rattle.command_engine.specs.declared.step.Step.TheVariants as step
use Rattle.command_engine.specs.declared.step.Step.TheVariants.{Trying, Hardening, Faulted}
use Rattle.command_engine.specs.Course.{Course}

-- the stages of a retry count
abbrev pub stage_count : ℕ → ℕ
stage_count retry = retry + 5

-- a block that is met dirty, hardened, and read by all stages
abbrev pub hardened_first : ℕ → ℕ
hardened_first retry = stage_count retry + 2

-- at a block that is read: the stages left of it, and where it may still be met dirty, all that comes of that
abbrev pub at_block : ℕ → Bool → Step → ℕ
at_block retry may_harden (Trying progress) = (stage_count retry - progress.failed) + (if may_harden then hardened_first retry else 0)
at_block retry may_harden Hardening = stage_count retry + 1
at_block retry may_harden other = 0

-- at a block that wasn't begun
abbrev pub per_block : ℕ → Bool → ℕ
per_block retry through = stage_count retry + (if through then hardened_first retry else 0)

abbrev pub left_of_read : ℕ → reading.Reading → Step → ℕ
left_of_read retry r step =
    if nat_lt r.at r.end then at_block retry (r.through && not r.hardened) step + (r.end - (r.at + 1)) * per_block retry r.through else 0

-- a block needs one answer, and all of them are read in the end where the write is verified
abbrev pub left_of_write : ℕ → writing.Writing → ℕ
left_of_write retry w =
    if nat_lt w.at w.end then (w.end - w.at) + (if w.verifies then (w.end - w.from) * per_block retry true else 0) else 0

-- a block needs two answers: that it is dirty, and that it is hardened
abbrev pub left_of_sync : syncing.Syncing → Step → ℕ
left_of_sync s (Trying progress) = 2 * (s.end - s.at)
left_of_sync s Hardening = 2 * (s.end - s.at) - 1
left_of_sync s other = 0

-- a descriptor: all stages, and the move
abbrev pub per_move : ℕ → ℕ
per_move retry = stage_count retry + 1

abbrev pub left_of_list : ℕ → moving.Moving → ℕ → Step → ℕ
left_of_list retry m moved (Trying progress) = (length m.blocks - moved) * per_move retry - progress.failed
left_of_list retry m moved (step.Moving why) = (length m.blocks - (moved + 1)) * per_move retry + 1
left_of_list retry m moved other = 0

abbrev pub left_by : ℕ → Plan → ℕ → Step → ℕ
left_by retry (Answering bytes reply) moved step = 1
left_by retry (Reading r) moved Faulted = 0
left_by retry (Reading r) moved step = left_of_read retry r step
left_by retry (Writing w) moved Faulted = 0
left_by retry (Writing w) moved step = left_of_write retry w
left_by retry (Syncing s) moved step = left_of_sync s step
left_by retry (Moving m) moved step = left_of_list retry m moved step
left_by retry plan moved step = 0

-- how many answers are still to come at most
abbrev pub answers_left : Course → ℕ
answers_left c = left_by c.settings.retry c.plan c.moved c.step
