use Rattle.drive_scene.proofs.OtherFlights.{moves_leave_others}
use Rattle.drive_scene.proofs.moves.moves_leave_others.Goals as goal

pub returns : goal.returns
returns c = moves_leave_others c.no_block_is_at_a_free_spare.ensures
