use Rattle.geometry_map.proofs.ChainLemmas.{chains_move_one_block}
use Rattle.geometry_map.proofs.chains.a_chain_moves_one_block.Goals as goal

pub returns : goal.returns
returns c = chains_move_one_block
