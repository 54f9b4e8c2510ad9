use Rattle.text_words.proofs.Numerals.{number-decimal}
use Rattle.text_words.proofs.laws.numbers_read_again.Goals as goal

pub returns : goal.returns
returns c = number-decimal
