use Rattle.rs_sector.proofs.Codewords.{syndromes_tell}
use Rattle.rs_sector.proofs.encoder.is_codeword.Goals as goal

pub returns : goal.returns
returns c = syndromes_tell c.args.word.now c.syndromes.result c.eq.result c.told-word c.fits-word c.syndromes.ensures c.eq.ensures
