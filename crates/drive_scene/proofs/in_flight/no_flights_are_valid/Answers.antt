use Rattle.drive_scene.proofs.FlightsFit.{no_flights}
use Rattle.drive_scene.proofs.in_flight.no_flights_are_valid.Goals as goal

pub returns : goal.returns
returns c = no_flights
