-- Levels follow from clean samples place by place.
use Rattle.prml_viterbi.proofs.Changes.{clean_samples_have_one_word}
use Rattle.prml_viterbi.proofs.detector.clean_samples_have_one_word.Goals as goal

pub returns : goal.returns
returns c = clean_samples_have_one_word
