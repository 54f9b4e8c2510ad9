use Rattle.rs_sector.proofs.Codewords.{one_encoding}
use Rattle.rs_sector.proofs.law.data_have_one_encoding.Goals as goal

pub returns : goal.returns
returns c = one_encoding
