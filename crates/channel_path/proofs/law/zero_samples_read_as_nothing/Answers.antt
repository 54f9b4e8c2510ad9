use Rattle.channel_path.proofs.Zeros.{nothing_read}
use Rattle.channel_path.proofs.law.zero_samples_read_as_nothing.Goals as goal

pub returns : goal.returns
returns c =
    nothing_read c.samples_have_one_detected_word.ensures c.clean_samples_give_their_word_back.ensures c.spaced_channel_bits_give_an_allowed_word.ensures
    c.levels_and_channel_bits_invert_each_other.ensures c.words_have_one_codeword_in_reach.ensures.near
