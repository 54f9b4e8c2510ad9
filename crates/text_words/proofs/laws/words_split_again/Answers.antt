use Rattle.text_words.proofs.Words.{words_of-spaced}
use Rattle.text_words.proofs.laws.words_split_again.Goals as goal

pub returns : goal.returns
returns c = words_of-spaced
