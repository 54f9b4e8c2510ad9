use Rattle.drive_scene.proofs.MovesAreGood.{moves_are_good}
use Rattle.drive_scene.proofs.moves.moves_are_good.Goals as goal

pub returns : goal.returns
returns c = moves_are_good (record {
  apart = c.two_blocks_are_never_at_one_sector.ensures;
  on_user = c.blocks_are_at_user_sectors.ensures;
  moves_one = c.a_chain_moves_one_block.ensures;
  no_places = c.no_block_is_at_a_free_spare.ensures;
  spares = c.spares_are_user_sectors.ensures;
  ends = c.the_spare_is_the_end_of_the_chain.ensures;
})
