use Rattle.text_words.proofs.Numerals.{signed_number-decimal}
use Rattle.text_words.proofs.laws.signed_numbers_read_again.Goals as goal

pub returns : goal.returns
returns c = signed_number-decimal
