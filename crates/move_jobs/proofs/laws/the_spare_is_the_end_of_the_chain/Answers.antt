-- a chain with a pair ends at the same spare wherever it begins
use Rattle.geometry_map.specs.DefectMap.{sector}
use Rattle.move_jobs.proofs.ChainEnds.{end_anywhere}
use Rattle.move_jobs.proofs.laws.the_spare_is_the_end_of_the_chain.Goals as goal

pub returns : goal.returns
returns c = λ at job some. end_anywhere at (sector 0) job.chain some
