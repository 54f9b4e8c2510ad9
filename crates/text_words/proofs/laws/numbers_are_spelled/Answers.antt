use Rattle.text_words.proofs.Numerals.{decimal-number}
use Rattle.text_words.proofs.laws.numbers_are_spelled.Goals as goal

pub returns : goal.returns
returns c = decimal-number
