use Rattle.drive_scene.proofs.FlightsFit.{flights_fit}
use Rattle.drive_scene.proofs.in_flight.flights_fit.Goals as goal

pub returns : goal.returns
returns c = flights_fit c.blocks_are_at_user_sectors.ensures c.a_chain_of_free_spares_fits.ensures
