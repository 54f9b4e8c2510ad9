use Rattle.drive_scene.proofs.OtherFlights.{commits_leave_others}
use Rattle.drive_scene.proofs.moves.commits_leave_others.Goals as goal

pub returns : goal.returns
returns c =
    commits_leave_others c.two_blocks_are_never_at_one_sector.ensures c.blocks_are_at_user_sectors.ensures c.a_chain_moves_one_block.ensures
    c.no_block_is_at_a_free_spare.ensures c.spares_are_user_sectors.ensures
