use Rattle.std.proofs.Common.{◌≡◌, ℕ, ◌+◌, ◌*◌, ◌/◌, ◌<◌, length, take, get_or, pos, refl, sym, ◌∙◌, arith}
use Rattle.bit_words.specs.Words.{word_bits}
use Rattle.prml_viterbi.specs.Levels.{level_word, clean_at}
use Rattle.prml_viterbi.proofs.LevelNumbers.{length-taken, levels_none, levels_of_word, sample_from}
use Rattle.prml_viterbi.proofs.Places.{all_samples, part_written}
use Rattle.prml_viterbi.proofs.word_samples.samples_of_words.Goals as goal

pub loop-j-init : goal.loop-j-init
loop-j-init c = record {
  two = omega arith;
  levels = levels_none _;
  samples = λ k less. absurd (omega arith);
}

pub loop-j-preserved : goal.loop-j-preserved
loop-j-preserved c =
    let words = c.args.words.now in
    let n = length c.args.out.now in
    let bits = take n (word_bits words) in
    let j = c.loop-j.j in
    let i = c.loop-j.invariant in
    let levels = c.levels_after-levels.result in
    let t = 4 * levels + c.loop-j.before in
    let long : length bits ≡ n = length-taken words n c.requires in
    let all = levels_of_word words n j j c.loop-j.before levels refl (omega arith) c.requires i.two c.levels_after-levels.ensures.levels i.levels in
    let ys = c.put_word.new.places in
    let each : (k : ℕ) → k < length ys → get_or ys k (pos 0) ≡ clean_at (level_word bits) (64 * j + k) = λ k less.
    c.put_word.ensures k (omega arith) ∙ sym (sample_from bits (64 * j) t all.here k (omega arith) (omega arith)) in
    record {
      two = omega (arith, c.levels_after-levels.ensures.bound);
      levels = all.next;
      samples = part_written (clean_at (level_word bits)) c.loop-j.out ys (64 * j) _ (64 * (j + 1)) (omega arith) (omega arith) i.samples each;
    }

pub returns-then-whole-out : goal.returns-then-whole-out
returns-then-whole-out c =
    let words = c.args.words.now in
    let n = length c.args.out.now in
    all_samples (take n (word_bits words)) c.loop-j.out n (omega arith) (length-taken words n c.requires) (λ k less. c.loop-j.invariant.samples k (omega arith))

pub returns : goal.returns
returns c =
    let words = c.args.words.now in
    let n = length c.args.out.now in
    let bits = take n (word_bits words) in
    let whole = n / 64 in
    let levels = c.levels_after-levels-2.result in
    let t = 4 * levels + c.loop-j.before in
    let long : length bits ≡ n = length-taken words n c.requires in
    let all = levels_of_word words n c.loop-j.j whole c.loop-j.before levels (omega arith) (omega arith) c.requires c.loop-j.invariant.two c.levels_after-levels-2.ensures.levels c.loop-j.invariant.levels in
    let ys = c.put_part.new.places in
    let each : (k : ℕ) → k < length ys → get_or ys k (pos 0) ≡ clean_at (level_word bits) (64 * whole + k) = λ k less.
    c.put_part.ensures k (omega arith) ∙ sym (sample_from bits (64 * whole) t all.here k (omega arith) (omega arith)) in
    all_samples bits _ n (omega arith) long
    (part_written (clean_at (level_word bits)) c.loop-j.out ys (64 * whole) _ n (omega arith) (omega arith) (λ k less. c.loop-j.invariant.samples k (omega arith)) each)
