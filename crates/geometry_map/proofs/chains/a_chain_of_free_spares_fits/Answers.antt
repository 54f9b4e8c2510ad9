use Rattle.geometry_map.proofs.ChainLemmas.{chains_of_free_spares_fit}
use Rattle.geometry_map.proofs.chains.a_chain_of_free_spares_fits.Goals as goal

pub returns : goal.returns
returns c = chains_of_free_spares_fit
