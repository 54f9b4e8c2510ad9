-- The words hold the code, and its samples are made of them.
use Rattle.std.proofs.Common.{◌≡◌, false, length, take, ap, ◌∙◌, length-append, arith}
use Rattle.std.specs.Prelude.{replicate}
use Rattle.std.proofs.lemmas.List.{take_at}
use Rattle.bit_words.proofs.BitLists.{length-word_bits}
use Rattle.prml_viterbi.specs.Levels.{level_word, clean_samples}
use Rattle.channel_path.proofs.writing.write_code.Goals as goal

pub returns : goal.returns
returns c =
    let held = c.encode_words.ensures in
    let channel = held.channel in
    let long : length channel ≡ 9478 = omega (arith, ap length held.held, length-append channel (replicate 58 false), length-word_bits c.encode_words.new.out) in
    record {
      channel = channel;
      coded = held.coded;
      clean = c.samples_of_words.ensures ∙ ap (λ l. clean_samples (level_word l)) (ap (take _) held.held ∙ take_at channel (replicate 58 false) _ (omega arith));
    }
