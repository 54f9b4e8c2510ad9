-- The word is at no distance from its clean samples, and no other is.
use Rattle.prml_viterbi.proofs.Clean.{clean_samples_tell}
use Rattle.prml_viterbi.proofs.detector.clean_samples_give_their_word_back.Goals as goal

pub returns : goal.returns
returns c = clean_samples_tell
