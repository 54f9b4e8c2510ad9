use Rattle.drive_scene.proofs.AtStart.{from_factory}
use Rattle.drive_scene.proofs.laws.factories_leave_zeros.Goals as goal

pub returns : goal.returns
returns c = from_factory c.two_blocks_are_never_at_one_sector.ensures
