-- A move of a block to a spare sector: its chain of pairs, what it needs next, and where it stands after an answer.
use Rattle.std.specs.Prelude.{◌≢◌, ℕ, ◌+◌, ◌*◌, ◌-◌, ◌≤◌, nat_lt, Bool, true, false, List, [], ◌∷◌, ◌++◌, length, Option, Some, None}
use Rattle.disk_base.specs.declared.address.Lba.{Lba}
use Rattle.disk_base.specs.declared.address.Psn.{Psn}
use Rattle.disk_base.specs.declared.block.Value.{Value}
use Rattle.disk_base.specs.declared.stage.MoveWhy.{MoveWhy}
use Rattle.geometry_map.specs.declared.limits.TheConstants.{PAIRS_MAX}
use Rattle.geometry_map.specs.declared.pair.Pair.{Pair}
use Rattle.geometry_map.specs.DefectMap.{sector}
use Rattle.move_jobs.specs.declared.step.JobResult.{JobResult}
use Rattle.move_jobs.specs.declared.step.JobResult.TheVariants.{Moved, NoSpare}
use Rattle.move_jobs.specs.declared.step.JobStep.{JobStep}
use Rattle.move_jobs.specs.declared.step.JobStep.TheVariants.{Writing, Checking, Committing, Over}
use Rattle.move_jobs.specs.declared.need.JobNeed.{JobNeed}
use Rattle.move_jobs.specs.declared.need.JobNeed.TheVariants.{WriteSpare, CheckSpare, Commit, Ended}
use Rattle.move_jobs.specs.declared.answer.JobAnswer.{JobAnswer}
use Rattle.move_jobs.specs.declared.answer.JobAnswer.TheVariants.{Done, Bad}
use Rattle.geometry_map.specs.Chains.{IsChain, chain_end}

-- the block, the value that is moved, why, the command that opened the move (none for the scan's), the chain of its pairs, and
-- what is to be done next
pub record Job : Type 0 where
  pub b : Lba
  pub value : Value
  pub why : MoveWhy
  pub owner : Option ℕ
  pub chain : List Pair
  pub step : JobStep

-- the move of these parts
abbrev pub job_of : Lba → Value → MoveWhy → Option ℕ → List Pair → JobStep → Job
job_of b value why owner chain step = record { b = b; value = value; why = why; owner = owner; chain = chain; step = step }

-- a pair from a sector to a spare
abbrev pub pair : Psn → Psn → Pair
pair old new = record { old = old; new = new }

-- a move that begins, from the block's place to a first spare
abbrev pub begun : Lba → Value → Psn → Psn → MoveWhy → Option ℕ → Job
begun b value present spare why owner = job_of b value why owner (pair present spare ∷ []) Writing

-- where a chain begins
abbrev pub chain_start : List Pair → Psn
chain_start [] = sector 0
chain_start (p ∷ ps) = p.old

-- what every move keeps
pub record IsJob (job : Job) : Type 0 where
  pub begun : job.chain ≢ []
  pub few : length job.chain ≤ PAIRS_MAX
  pub linked : IsChain (chain_start job.chain) job.chain

-- the spare in hand: the last of the chain
abbrev pub spare_of : Job → Psn
spare_of job = chain_end (sector 0) job.chain

-- what is needed at a step, with this spare
abbrev pub need_at : Psn → JobStep → JobNeed
need_at spare Writing = WriteSpare spare
need_at spare Checking = CheckSpare spare
need_at spare Committing = Commit
need_at spare (Over end) = Ended

abbrev pub need_of : Job → JobNeed
need_of job = need_at (spare_of job) job.step

-- whether an answer fits a step; `room`: the chain may get a further pair
abbrev pub fits_step : Bool → JobStep → JobAnswer → Bool
fits_step room (Over end) answer = false
fits_step room step Done = true
fits_step room Committing (Bad next) = false
fits_step room step (Bad (Some next)) = room
fits_step room step (Bad None) = true

abbrev pub fits : Job → JobAnswer → Bool
fits job answer = fits_step (nat_lt (length job.chain) PAIRS_MAX) job.step answer

-- the step behind one that is done
abbrev pub step_done : JobStep → JobStep
step_done Writing = Checking
step_done Checking = Committing
step_done Committing = Over Moved
step_done (Over end) = Over end

-- where a move stands after an answer: a bad spare becomes the beginning of the next pair
abbrev pub answered : Job → JobAnswer → Job
answered job Done = record job { step = step_done job.step }
answered job (Bad (Some next)) = record job { chain = job.chain ++ pair (spare_of job) next ∷ []; step = Writing }
answered job (Bad None) = record job { step = Over NoSpare }

-- how a move ended
abbrev pub result_at : JobStep → Option JobResult
result_at (Over end) = Some end
result_at step = None

abbrev pub result_of : Job → Option JobResult
result_of job = result_at job.step

-- how many answers a step needs at most, while its spare is good
abbrev pub steps_left : JobStep → ℕ
steps_left Writing = 3
steps_left Checking = 2
steps_left Committing = 1
steps_left (Over end) = 0

-- how many answers are still to come at most
abbrev pub job_left : Job → ℕ
job_left job = 2 * (PAIRS_MAX - length job.chain) + steps_left job.step
