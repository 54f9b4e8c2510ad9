-- Bit by bit and level by level.
use Rattle.std.proofs.Common.{true}
use Rattle.prml_viterbi.proofs.ChannelBits.{bits_after-levels_after, levels_after-bits_after, AreLevels-levels_after}
use Rattle.prml_viterbi.proofs.levels.levels_and_channel_bits_invert_each_other.Goals as goal

pub returns : goal.returns
returns c = record {
  bits = bits_after-levels_after true;
  levels = levels_after-bits_after true;
  words = AreLevels-levels_after true;
}
