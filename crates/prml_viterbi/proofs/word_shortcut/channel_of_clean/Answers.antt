use Rattle.std.proofs.Common.{◌≡◌, ◌≤◌, false, length, take, sym, ◌∙◌, arith}
use Rattle.std.proofs.lemmas.Bool.{false≢true}
use Rattle.bit_words.specs.Words.{word_bits}
use Rattle.bit_words.proofs.BitLists.{length-word_bits}
use Rattle.prml_viterbi.specs.Levels.{AreSpaced, level_word}
use Rattle.prml_viterbi.proofs.Changes.{word_from_starts}
use Rattle.prml_viterbi.proofs.ChannelBits.{IsAllowed-from_spaced}
use Rattle.prml_viterbi.proofs.Spaced.{AreSpaced-take, detected_bits}
use Rattle.prml_viterbi.proofs.word_shortcut.channel_of_clean.Goals as goal

pub returns-then-are_spaced : goal.returns-then-are_spaced
returns-then-are_spaced c =
    let samples = c.args.samples.now in
    let all = word_bits c.write_starts.new.words in
    let bits = take (length samples) all in
    let room : length samples ≤ length all = omega (arith, length-word_bits c.write_starts.new.words) in
    let spaced : AreSpaced bits = AreSpaced-take all (length samples) (c.are_spaced.ensures.0 c.if-are_spaced.true) in
    record {
      clean = (
        λ yes. (level_word bits, IsAllowed-from_spaced bits spaced, c.are_samples_of.ensures.0 yes),
        λ allowed. c.are_samples_of.ensures.1 (word_from_starts samples all room c.write_starts.ensures allowed).1,
      );
      bits = λ yes. detected_bits samples bits spaced (c.are_samples_of.ensures.0 yes);
    }

pub returns-else-are_spaced-clause-clean : goal.returns-else-are_spaced-clause-clean
returns-else-are_spaced-clause-clean c =
    let samples = c.args.samples.now in
    let all = word_bits c.write_starts.new.words in
    let room : length samples ≤ length all = omega (arith, length-word_bits c.write_starts.new.words) in
    let refused : c.are_spaced.result ≡ false = c.if-are_spaced.false in (
      λ yes. absurd (false≢true (sym refused ∙ yes)),
      λ allowed. absurd (false≢true (sym refused ∙ c.are_spaced.ensures.1 (word_from_starts samples all room c.write_starts.ensures allowed).0)),
    )
