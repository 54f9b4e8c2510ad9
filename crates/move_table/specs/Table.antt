-- The moves in flight: which there are, and what becomes of them.
use Rattle.std.specs.Prelude.{◌≡◌, ℕ, ◌<◌, ◌≤◌, ◌==◌, ◌&&◌, not, Bool, true, false, if◌then◌else◌, All, AllPairs, List, map, filter, find, flat_map, Option, Some, None}
use Rattle.std.specs.List.{list_any}
use Rattle.std.specs.Option.{option_map, is_none}
use Rattle.disk_base.specs.declared.address.Lba.{Lba}
use Rattle.disk_base.specs.declared.address.Psn.{Psn}
use Rattle.disk_base.specs.declared.stage.MoveWhy.{MoveWhy}
use Rattle.disk_base.specs.declared.stage.MoveWhy.TheVariants.{Write}
use Rattle.move_jobs.specs.Job.{Job, result_of}
use Rattle.move_table.specs.declared.flight.Flight.{Flight}

-- how many moves were opened, those in flight by number, and for how many more there is room
pub record Table : Type 0 where
  pub opened : ℕ
  pub flights : List Flight
  pub room : ℕ

abbrev pub flight : ℕ → Job → Flight
flight j job = record { j = j; job = job }

-- moves are numbered in the order in which they were opened, and none of them is over
pub record IsTable (opened : ℕ) (flights : List Flight) : Type 0 where
  pub ascend : AllPairs (λ f g. f.j < g.j) flights
  pub numbered : All (λ f. f.j ≤ opened) flights
  pub underway : All (λ f. result_of f.job ≡ None) flights

abbrev pub is_numbered : ℕ → Flight → Bool
is_numbered j f = f.j == j

-- the move in flight of a number
abbrev pub job_in : List Flight → ℕ → Option Job
job_in flights j = option_map (λ f. f.job) (find (is_numbered j) flights)

-- the number of the first move on a block
abbrev pub mover_of : List Flight → Lba → Option ℕ
mover_of flights b = option_map (λ f. f.j) (find (λ f. f.job.b.0 == b.0) flights)

abbrev pub is_owned_by : ℕ → Option ℕ → Bool
is_owned_by c (Some d) = d == c
is_owned_by c None = false

-- a command waits while a move that it opened is in flight
abbrev pub is_awaited : List Flight → ℕ → Bool
is_awaited flights c = list_any (λ f. is_owned_by c f.job.owner) flights

abbrev pub spares_of : Flight → List Psn
spares_of f = map (λ pair. pair.new) f.job.chain

-- the spares of all moves in flight, those that turned out bad too
abbrev pub taken : List Flight → List Psn
taken flights = flat_map spares_of flights

-- a move in flight that stands elsewhere
abbrev pub with_job : ℕ → Job → List Flight → List Flight
with_job j job flights = map {A = Flight} {B = Flight} (λ f. if f.j == j then record f { job = job } else f) flights

-- the moves in flight without one
abbrev pub without_job : ℕ → List Flight → List Flight
without_job j flights = filter (λ f. not (f.j == j)) flights

-- the moves in flight where one of them comes to stand so: it leaves once it is over
abbrev pub moves_after : ℕ → Job → List Flight → List Flight
moves_after j job flights = if is_none (result_of job) then with_job j job flights else without_job j flights

-- a move carries new data of a block
abbrev pub is_of_write : MoveWhy → Bool
is_of_write Write = true
is_of_write other = false

-- a move of data that a command brought
abbrev pub is_new_of : ℕ → Flight → Bool
is_new_of c f = is_of_write f.job.why && is_owned_by c f.job.owner

-- the moves in flight without the new data of a command
abbrev pub without_new : ℕ → List Flight → List Flight
without_new c flights = filter (λ f. not (is_new_of c f)) flights

-- each move of a table is the one in flight of its number
abbrev pub MovesAreToldByTheirNumbers : Type 0
MovesAreToldByTheirNumbers = (opened : ℕ) (flights : List Flight) → IsTable opened flights → All (λ f. job_in flights f.j ≡ Some f.job) flights
