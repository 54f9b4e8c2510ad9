use Rattle.bit_words.proofs.BitLists.{length-word_bits, in_order}
use Rattle.bit_words.proofs.words_hold_their_bits_in_order.Goals as goal

pub returns-clause-long : goal.returns-clause-long
returns-clause-long c = length-word_bits

pub returns-clause-each : goal.returns-clause-each
returns-clause-each c = in_order
