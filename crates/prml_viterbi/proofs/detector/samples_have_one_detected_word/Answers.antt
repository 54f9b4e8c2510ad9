-- Of two detected words neither is better than the other.
use Rattle.prml_viterbi.proofs.Clean.{IsDetected-unique}
use Rattle.prml_viterbi.proofs.detector.samples_have_one_detected_word.Goals as goal

pub returns : goal.returns
returns c = IsDetected-unique
