use Rattle.std.proofs.Common.{refl}
use Rattle.map_generations.proofs.Rule.{written_complete}
use Rattle.map_generations.proofs.recovery.written_slots_are_complete.Goals as goal

pub returns : goal.returns
returns c m reads valid in_use readable = written_complete m.size reads m refl valid in_use readable
