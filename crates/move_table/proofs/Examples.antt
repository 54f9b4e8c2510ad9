-- Two moves in flight: block 5 is given up by command 3, and command 4 writes block 9.
use Rattle.std.proofs.Common.{◌≡◌, ◌<◌, true, false, List, [], ◌∷◌, refl, arith}
use Rattle.std.specs.Prelude.{Some, None}
use Rattle.disk_base.specs.declared.block.Value.TheVariants.{Lost}
use Rattle.disk_base.specs.declared.stage.MoveWhy.TheVariants.{GivenUp, Write}
use Rattle.geometry_map.specs.DefectMap.{sector}
use Rattle.move_jobs.specs.declared.answer.JobAnswer.TheVariants.{Done, Bad}
use Rattle.move_jobs.specs.Job.{Job, begun, answered}
use Rattle.move_table.specs.declared.flight.Flight.{Flight}
use Rattle.move_table.specs.Table.{IsTable, flight, job_in, mover_of, is_awaited, taken, moves_after, without_new}

abbrev given_up : Job
given_up = begun (record { 0 = 5 }) Lost (sector 21) (sector 928) GivenUp (Some 3)

abbrev written : Job
written = begun (record { 0 = 9 }) Lost (sector 25) (sector 929) Write (Some 4)

abbrev flights : List Flight
flights = flight 1 given_up ∷ flight 2 written ∷ []

found_by_its_number : job_in flights 2 ≡ Some written
found_by_its_number = refl

not_of_another_number : job_in flights 3 ≡ None
not_of_another_number = refl

on_its_block : mover_of flights (record { 0 = 9 }) ≡ Some 2
on_its_block = refl

on_no_other : mover_of flights (record { 0 = 6 }) ≡ None
on_no_other = refl

waits : is_awaited flights 4 ≡ true
waits = refl

waits_not : is_awaited flights 5 ≡ false
waits_not = refl

both_spares : taken flights ≡ sector 928 ∷ sector 929 ∷ []
both_spares = refl

-- once written, it goes on in its place
goes_on : moves_after 1 (answered given_up Done) flights ≡ flight 1 (answered given_up Done) ∷ flight 2 written ∷ []
goes_on = refl

-- without a further spare it leaves
leaves : moves_after 1 (answered given_up (Bad None)) flights ≡ flight 2 written ∷ []
leaves = refl

-- an abort drops what the command brought, and nothing else
new_data_dropped : without_new 4 flights ≡ flight 1 given_up ∷ []
new_data_dropped = refl

given_up_stays : without_new 3 flights ≡ flights
given_up_stays = refl

-- no table: two moves have one number; one was never opened; one is over
twice_one_number : IsTable 2 (flight 1 given_up ∷ flight 1 written ∷ []) → ⊥
twice_one_number is = let before : 1 < 1 = is.ascend 0 1 (flight 1 given_up) (omega arith) (omega arith) in omega arith

never_opened : IsTable 1 flights → ⊥
never_opened is = let below = is.numbered 1 (flight 1 given_up) (omega arith) in omega arith

over : IsTable 1 (flight 1 (answered given_up (Bad None)) ∷ []) → ⊥
over is = let not_over = is.underway 0 (flight 1 given_up) (omega arith) in cc
