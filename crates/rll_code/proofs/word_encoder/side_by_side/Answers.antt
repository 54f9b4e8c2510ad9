use Rattle.rll_code.proofs.WordCoding.{four_bits}
use Rattle.rll_code.proofs.word_encoder.side_by_side.Goals as goal

pub returns : goal.returns
returns c = four_bits c.args.one c.args.two c.args.three c.args.four c.requires.one c.requires.two c.requires.three
