-- All moves in flight, and that turns leave them in flight.
use Rattle.std.specs.Prelude.{◌≡◌, ◌≢◌, ℕ, ◌+◌, ◌<◌, ◌≤◌, Bool, true, false, [], ◌++◌, length, All, AllPairs, Option, Some}
use Rattle.geometry_map.specs.declared.limits.TheConstants.{PAIRS_MAX}
use Rattle.geometry_map.specs.DefectMap.{IsValidMap, IsGrownList, HaveOwnSpares}
use Rattle.block_machine.specs.declared.turn.Label.{Label}
use Rattle.block_machine.specs.declared.turn.Label.TheVariants.{Job}
use Rattle.move_table.specs.declared.flight.Flight.{Flight}
use Rattle.drive_scene.specs.Scene.{Scene, Beat}
use Rattle.drive_scene.specs.After.{scene_after}
use Rattle.move_table.specs.Table.{taken}
use Rattle.drive_scene.specs.Flights.{IsFlight, LeavesFlight, AreApart}
use Rattle.drive_scene.specs.GoodTurn.{GoodTurn}

-- the command that opened a move, if one did, has come
abbrev pub HasCome : ℕ → Option ℕ → Type 0
HasCome arrived owner = (c : ℕ) → owner ≡ Some c → c ≤ arrived

-- no command opened both of two moves
abbrev pub HaveOwnOwners : Flight → Flight → Type 0
HaveOwnOwners f g = (c : ℕ) → f.job.owner ≡ Some c → g.job.owner ≢ Some c

-- the moves in flight are that, by their numbers, each of a block, spares and an owner of its own, with each spare once in its chain; and
-- their spares, with the map's pairs, are no more than a map may have pairs
pub record AreInFlight (s : Scene) : Type 0 where
  pub flights : All (IsFlight s) s.back.flights
  pub ascend : AllPairs (λ f g. f.j < g.j) s.back.flights
  pub apart : AllPairs AreApart s.back.flights
  pub owners : AllPairs HaveOwnOwners s.back.flights
  pub chains : All (λ f. AllPairs HaveOwnSpares f.job.chain) s.back.flights
  pub came : All (λ f. HasCome s.hist.arrived f.job.owner) s.back.flights
  pub room : length s.map.grown + length (taken s.back.flights) ≤ PAIRS_MAX

-- a turn is one of a move
abbrev pub is_of_move : Label → Bool
is_of_move (Job j) = true
is_of_move label = false

-- the moves in flight, by a valid map of the drive's measures
pub record HasValidFlights (s : Scene) : Type 0 where
  pub size : s.map.size ≡ s.size
  pub valid : IsValidMap s.map
  pub in_flight : AreInFlight s

-- a turn of anything but a move leaves each move alone that is in flight after it
abbrev pub OthersLeaveFlights : Type 0
OthersLeaveFlights = (s : Scene) (t : Beat) → HasValidFlights s → GoodTurn s t → is_of_move t.label ≡ false
    → All (LeavesFlight s (scene_after s t)) (scene_after s t).back.flights

-- after each good turn the moves in flight and the map are what they have to be
abbrev pub TurnsKeepFlights : Type 0
TurnsKeepFlights = (s : Scene) (t : Beat) → HasValidFlights s → GoodTurn s t → HasValidFlights (scene_after s t)

-- so they are where no move is in flight
abbrev pub NoFlightsAreValid : Type 0
NoFlightsAreValid = (s : Scene) → s.map.size ≡ s.size → IsValidMap s.map → s.back.flights ≡ [] → HasValidFlights s

-- the map's list has room for the pairs of each move in flight
abbrev pub FlightsFit : Type 0
FlightsFit = (s : Scene) → HasValidFlights s → All (λ f. IsGrownList s.map.size s.map.primary (s.map.grown ++ f.job.chain)) s.back.flights
