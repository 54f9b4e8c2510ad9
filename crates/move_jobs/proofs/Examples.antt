-- A move of block 5 from sector 21, with what is so of it and what is not.
use Rattle.std.proofs.Common.{◌≡◌, false, [], ◌∷◌, refl}
use Rattle.std.specs.Prelude.{Some, None}
use Rattle.disk_base.specs.declared.block.Value.TheVariants.{Lost}
use Rattle.disk_base.specs.declared.stage.MoveWhy.TheVariants.{GivenUp}
use Rattle.geometry_map.specs.DefectMap.{sector}
use Rattle.move_jobs.specs.declared.step.JobResult.TheVariants.{Moved, NoSpare}
use Rattle.move_jobs.specs.declared.need.JobNeed.TheVariants.{WriteSpare, CheckSpare, Commit}
use Rattle.move_jobs.specs.declared.answer.JobAnswer.TheVariants.{Done, Bad}
use Rattle.move_jobs.specs.Job.{Job, pair, begun, need_of, fits, answered, result_of, job_left}

abbrev first : Job
first = begun (record { 0 = 5 }) Lost (sector 21) (sector 928) GivenUp (Some 3)

-- spare 928 is written, doesn't read as it was written, and gives way to 930
abbrev second : Job
second = answered (answered first Done) (Bad (Some (sector 930)))

most_answers : job_left first ≡ 257
most_answers = refl

checked_before_the_commit : need_of (answered first Done) ≡ CheckSpare (sector 928)
checked_before_the_commit = refl

chain_goes_on : second.chain ≡ pair (sector 21) (sector 928) ∷ pair (sector 928) (sector 930) ∷ []
chain_goes_on = refl

next_is_written : need_of second ≡ WriteSpare (sector 930)
next_is_written = refl

committed_after_the_check : need_of (answered (answered second Done) Done) ≡ Commit
committed_after_the_check = refl

moved : result_of (answered (answered (answered second Done) Done) Done) ≡ Some Moved
moved = refl

not_moved : result_of (answered second (Bad None)) ≡ Some NoSpare
not_moved = refl

still_under_way : result_of second ≡ None
still_under_way = refl

no_spare_is_bad_at_the_commit : fits (answered (answered first Done) Done) (Bad None) ≡ false
no_spare_is_bad_at_the_commit = refl

nothing_fits_at_the_end : fits (answered second (Bad None)) Done ≡ false
nothing_fits_at_the_end = refl
