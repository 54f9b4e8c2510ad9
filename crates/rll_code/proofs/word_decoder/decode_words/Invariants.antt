use Rattle.std.proofs.Common.{◌+◌, ◌*◌, ◌/◌, ◌%◌, length, take}
use Rattle.bit_words.specs.Words.{word_bits}
use Rattle.rll_code.proofs.Decoding.{Decoded}
use Rattle.rll_code.proofs.word_decoder.decode_words.Given as goal

abbrev pub invariant-loop-j : goal.invariant-loop-j
invariant-loop-j l = Decoded (take (16 * length l.fn.out + 6) (word_bits l.words)) l.out l.flags (64 * l.state) (l.kept % 65536) (l.kept / 65536) (4 * l.j)
