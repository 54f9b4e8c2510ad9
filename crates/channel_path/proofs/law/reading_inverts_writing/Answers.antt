use Rattle.channel_path.proofs.Back.{reads_back}
use Rattle.channel_path.proofs.law.reading_inverts_writing.Goals as goal

pub returns : goal.returns
returns c =
    reads_back c.spaced_channel_bits_give_an_allowed_word.ensures c.clean_samples_give_their_word_back.ensures c.levels_and_channel_bits_invert_each_other.ensures
    c.numbering_is_undone.ensures.joined c.numbering_is_undone.ensures.dealt c.reading_inverts_the_code.ensures c.ones_of_a_code_stand_apart.ensures.followed
