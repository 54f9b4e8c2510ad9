use Rattle.text_words.proofs.Decoding.{digit_worth}
use Rattle.text_words.proofs.digits.worth_of.Goals as goal

pub returns : goal.returns
returns c = digit_worth c.args.character c.ranges.character.fits
