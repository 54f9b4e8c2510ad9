use Rattle.text_words.proofs.Words.{spaced-words_of}
use Rattle.text_words.proofs.laws.words_are_spelled.Goals as goal

pub returns : goal.returns
returns c = spaced-words_of
