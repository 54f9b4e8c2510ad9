use Rattle.drive_scene.proofs.MovesInFlight.{turns_keep}
use Rattle.drive_scene.proofs.in_flight.turns_keep_flights.Goals as goal

pub returns : goal.returns
returns c = turns_keep (record {
  own_sectors = c.two_blocks_are_never_at_one_sector.ensures;
  on_user = c.blocks_are_at_user_sectors.ensures;
  moves_one = c.a_chain_moves_one_block.ensures;
  no_places = c.no_block_is_at_a_free_spare.ensures;
  user_spares = c.spares_are_user_sectors.ensures;
  next_is_free = c.the_next_spare_is_free.ensures;
  keep_chain = c.answers_keep_the_chain.ensures;
  chains_fit = c.a_chain_of_free_spares_fits.ensures;
})
