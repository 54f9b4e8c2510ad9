use Rattle.map_generations.proofs.ToldLemmas.{maps_are_told}
use Rattle.map_generations.proofs.record.maps_are_told.Goals as goal

pub returns : goal.returns
returns c = maps_are_told
