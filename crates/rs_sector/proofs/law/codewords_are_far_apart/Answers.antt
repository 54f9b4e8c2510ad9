use Rattle.rs_sector.proofs.Codewords.{minimum_distance}
use Rattle.rs_sector.proofs.law.codewords_are_far_apart.Goals as goal

pub returns : goal.returns
returns c = minimum_distance
