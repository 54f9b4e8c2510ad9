use Rattle.drive_scene.proofs.Flights.{flights_are_ready}
use Rattle.drive_scene.proofs.moves.flights_are_ready_to_commit.Goals as goal

pub returns : goal.returns
returns c = flights_are_ready
