-- Where the samples are clean, the words hold the channel bits of the detected word.
use Rattle.std.proofs.Common.{◌≡◌, length, take, sym, ap, ◌∙◌, arith}
use Rattle.bit_words.specs.Words.{word_bits}
use Rattle.rll_code.specs.Reading.{bytes_read, flags_read}
use Rattle.prml_viterbi.specs.Levels.{channel_bits}
use Rattle.channel_path.proofs.reading.hear.Goals as goal

pub returns-then-channel_of_clean : goal.returns-then-channel_of_clean
returns-then-channel_of_clean c =
    let found = c.channel_of_clean.ensures.bits c.if-channel_of_clean.true in
    let words = c.channel_of_clean.new.words in
    let long : 9478 ≡ length c.args.samples.now = omega arith in
    let bits : take 9478 (word_bits words) ≡ channel_bits found.0 = ap (λ n. take n (word_bits words)) long ∙ sym found.2 in
    record {
      word = found.0;
      detected = found.1;
      bytes_are = c.decode_words.ensures.bytes ∙ ap bytes_read bits;
      flags_are = c.decode_words.ensures.flagged ∙ ap flags_read bits;
    }
