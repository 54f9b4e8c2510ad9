use Rattle.sector_store.proofs.Rewriting.{rewritten_maps_are_present}
use Rattle.sector_store.proofs.law.rewritten_maps_are_present.Goals as goal

pub returns : goal.returns
returns c = rewritten_maps_are_present c.written_maps_are_present.ensures c.safety_is_by_place.ensures
