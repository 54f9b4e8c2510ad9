-- Two 0s before each 1 keep the level over three places.
use Rattle.prml_viterbi.proofs.ChannelBits.{IsAllowed-from_spaced}
use Rattle.prml_viterbi.proofs.levels.spaced_channel_bits_give_an_allowed_word.Goals as goal

pub returns : goal.returns
returns c = IsAllowed-from_spaced
