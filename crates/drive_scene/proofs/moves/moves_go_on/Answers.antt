use Rattle.drive_scene.proofs.MovesGoOn.{moves_go_on}
use Rattle.drive_scene.proofs.moves.moves_go_on.Goals as goal

pub returns : goal.returns
returns c = moves_go_on c.no_block_is_at_a_free_spare.ensures c.the_next_spare_is_free.ensures c.answers_keep_the_chain.ensures
