-- Laws on the chain of a move and on the answers to its needs.
use Rattle.std.specs.Prelude.{◌≡◌, ◌≢◌, ◌+◌, ◌*◌, ◌<◌, ◌≤◌, IsTrue, []}
use Rattle.disk_base.specs.declared.address.Psn.{Psn}
use Rattle.geometry_map.specs.declared.limits.TheConstants.{PAIRS_MAX}
use Rattle.move_jobs.specs.declared.answer.JobAnswer.{JobAnswer}
use Rattle.geometry_map.specs.Chains.{IsChain, chain_end}
use Rattle.move_jobs.specs.Job.{Job, spare_of, fits, answered, job_left}

-- a chain that goes on from a sector still does so after an answer, and isn't empty
abbrev pub AnswersKeepTheChain : Type 0
AnswersKeepTheChain = (at : Psn) (job : Job) (answer : JobAnswer) → job.chain ≢ [] → IsChain at job.chain
    → IsChain at (answered job answer).chain × ((answered job answer).chain ≢ [])

-- the spare in hand is where the chain ends, wherever it begins
abbrev pub SpareIsTheEnd : Type 0
SpareIsTheEnd = (at : Psn) (job : Job) → job.chain ≢ [] → chain_end at job.chain ≡ spare_of job

-- an answer that fits leaves fewer to come
abbrev pub AnswersLeaveFewer : Type 0
AnswersLeaveFewer = (job : Job) (answer : JobAnswer) → IsTrue (fits job answer) → job_left (answered job answer) < job_left job

-- a move with a pair never has more to come than two for each pair that it may have, and one
abbrev pub FewAreLeft : Type 0
FewAreLeft = (job : Job) → job.chain ≢ [] → job_left job ≤ 2 * PAIRS_MAX + 1
