use Rattle.drive_scene.proofs.InFlight.{others_leave}
use Rattle.drive_scene.proofs.in_flight.others_leave_flights.Goals as goal

pub returns : goal.returns
returns c = others_leave c.two_blocks_are_never_at_one_sector.ensures c.no_block_is_at_a_free_spare.ensures
