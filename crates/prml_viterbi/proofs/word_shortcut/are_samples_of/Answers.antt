use Rattle.std.proofs.Common.{◌≡◌, ℕ, ◌+◌, ◌-◌, ◌*◌, ◌/◌, ◌<◌, length, take, get_or, drop, pos, refl, sym, ◌∙◌, length-drop, arith}
use Rattle.std.proofs.lemmas.Bool.{false≢true}
use Rattle.std.proofs.lemmas.List.{length-take-le}
use Rattle.bit_words.specs.Words.{word_bits}
use Rattle.prml_viterbi.proofs.CleanWords.{AreCleanTo, clean_more, clean_part, clean_places, slice_place}
use Rattle.prml_viterbi.proofs.LevelNumbers.{length-taken, levels_none, levels_of_word}
use Rattle.prml_viterbi.proofs.Places.{all_samples}
use Rattle.prml_viterbi.proofs.word_shortcut.are_samples_of.Goals as goal

pub loop-j-init : goal.loop-j-init
loop-j-init c = record {
  two = omega arith;
  levels = levels_none _;
  clean = λ k less. absurd (omega arith);
}

pub returns-then-not-is_clean_word : goal.returns-then-not-is_clean_word
returns-then-not-is_clean_word c =
    let words = c.args.words.now in
    let samples = c.args.samples.now in
    let n = length samples in
    let bits = take n (word_bits words) in
    let j = c.loop-j.j in
    let i = c.loop-j.invariant in
    let levels = c.levels_after-levels.result in
    let t = 4 * levels + c.loop-j.before in
    let long : length bits ≡ n = length-taken words n c.requires in
    let all = levels_of_word words n j j c.loop-j.before levels refl (omega arith) c.requires i.two c.levels_after-levels.ensures.levels i.levels in (
      λ no_way. absurd (false≢true no_way),
      λ is. absurd (false≢true (sym c.if-not-is_clean_word.true
          ∙ c.is_clean_word.ensures.1 (clean_part samples _ bits (64 * j) t 64 n all.here (omega arith) (omega arith) (omega arith) (λ k less. slice_place samples (64 * j) _ k (omega arith)) (clean_places samples bits n long is)))),
    )

pub loop-j-preserved : goal.loop-j-preserved
loop-j-preserved c =
    let words = c.args.words.now in
    let samples = c.args.samples.now in
    let n = length samples in
    let bits = take n (word_bits words) in
    let j = c.loop-j.j in
    let i = c.loop-j.invariant in
    let levels = c.levels_after-levels.result in
    let t = 4 * levels + c.loop-j.before in
    let long : length bits ≡ n = length-taken words n c.requires in
    let all = levels_of_word words n j j c.loop-j.before levels refl (omega arith) c.requires i.two c.levels_after-levels.ensures.levels i.levels in
    record {
      two = omega (arith, c.levels_after-levels.ensures.bound);
      levels = all.next;
      clean = clean_more samples _ bits (64 * j) t 64 (64 * (j + 1)) all.here (omega arith) (omega arith) (omega arith) (λ k less. slice_place samples (64 * j) _ k (omega arith)) (c.is_clean_word.ensures.0 c.if-not-is_clean_word.false) i.clean;
    }

pub returns-then-whole-samples : goal.returns-then-whole-samples
returns-then-whole-samples c =
    let words = c.args.words.now in
    let samples = c.args.samples.now in
    let n = length samples in
    (λ _. all_samples (take n (word_bits words)) samples n refl (length-taken words n c.requires) (λ k less. c.loop-j.invariant.clean k (omega arith)), λ _. refl)

pub returns : goal.returns
returns c =
    let words = c.args.words.now in
    let samples = c.args.samples.now in
    let n = length samples in
    let bits = take n (word_bits words) in
    let whole = n / 64 in
    let levels = c.levels_after-levels-2.result in
    let t = 4 * levels + c.loop-j.before in
    let long : length bits ≡ n = length-taken words n c.requires in
    let all = levels_of_word words n c.loop-j.j whole c.loop-j.before levels (omega arith) (omega arith) c.requires c.loop-j.invariant.two c.levels_after-levels-2.ensures.levels c.loop-j.invariant.levels in
    let clean : AreCleanTo samples bits (64 * whole) = λ k less. c.loop-j.invariant.clean k (omega arith) in
    let part = take (n - 64 * whole) (drop (64 * whole) samples) in
    let count = length part in
    let left : count ≡ n - 64 * whole = length-take-le (n - 64 * whole) (drop (64 * whole) samples) (omega (arith, length-drop (64 * whole) samples)) in
    let same : (k : ℕ) → k < count → get_or part k (pos 0) ≡ get_or samples (64 * whole + k) (pos 0) = λ k less. slice_place samples (64 * whole) (n - 64 * whole) k (omega arith) in (
      λ yes. all_samples bits samples n refl long (clean_more samples part bits (64 * whole) t count n all.here (omega arith) (omega arith) (omega arith) same (c.is_clean_part.ensures.0 yes) clean),
      λ is. c.is_clean_part.ensures.1 (clean_part samples part bits (64 * whole) t count n all.here (omega arith) (omega arith) (omega arith) same (clean_places samples bits n long is)),
    )
