use Rattle.rll_code.proofs.Codes.{reads_back}
use Rattle.rll_code.proofs.laws.reading_inverts_the_code.Goals as goal

pub returns : goal.returns
returns c = reads_back
