use Rattle.text_words.proofs.PairTable.{byte_pair}
use Rattle.text_words.proofs.digits.pair_of.Goals as goal

pub returns : goal.returns
returns c = byte_pair c.args.byte c.ranges.byte.fits
