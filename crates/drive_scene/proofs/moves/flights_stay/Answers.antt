use Rattle.drive_scene.proofs.Flights.{flights_stay}
use Rattle.drive_scene.proofs.moves.flights_stay.Goals as goal

pub returns : goal.returns
returns c = flights_stay
