-- A level and the one two places before it give the clean sample.
use Rattle.std.proofs.Common.{◌≡◌, ◌≢◌, ℕ, suc, ◌+◌, ◌<◌, length, set, get_or, pos, FitsSigned, w8, ap, ◌∙◌, below_more, get_or-set_same, get_or-set_other, arith, rules}
use Rattle.std.proofs.Math.Numerals.{add-one}
use Rattle.std.proofs.lemmas.Int.{to_z-of_z}
use Rattle.std.proofs.lemmas.List.{get_or_default}
use Rattle.std.proofs.lemmas.List.FromFn.{fill_by_all}
use Rattle.prml_viterbi.specs.Levels.{level_at, is_high, clean_at}
use Rattle.prml_viterbi.proofs.LevelWords.{above_zero-is_high, level_at-is_level, level_for-is_high}
use Rattle.prml_viterbi.proofs.levels.samples_of.Goals as goal

pub loop-k-init : goal.loop-k-init
loop-k-init c = λ j h. absurd (omega arith)

pub loop-k-preserved : goal.loop-k-preserved
loop-k-preserved c =
    let w = c.args.levels.now in
    let k = c.loop-k.k in
    let a = get_or w k (pos 0) in
    let fits : FitsSigned w8 c.clean_sample.result = search rules in
    let same : a ≡ level_at w (suc (suc (suc k))) = get_or_default w k (pos 0) (pos 1) c.loop-k-test.true in
    let now = above_zero-is_high a (c.requires.levels k (pos 0) (omega arith)) ∙ ap is_high same in
    let two_back : c.is_high_two_back.result ≡ is_high (level_at w (suc k)) = (rw add-one at c.is_high_two_back.ensures) in
    let here : c.clean_sample.result ≡ clean_at w k =
    (rw (now, two_back, level_for-is_high (level_at w (suc (suc (suc k)))) (level_at-is_level w c.requires.levels (suc (suc (suc k)))), level_for-is_high (level_at w (suc k)) (level_at-is_level w c.requires.levels (suc k))) at c.clean_sample.ensures) in
    let more : (j : ℕ) → j < k + 1 → get_or (set c.loop-k.out k c.clean_sample.result) j (pos 0) ≡ clean_at w j =
    below_more _ _
    (λ j h. let ne : j ≢ k = omega arith in get_or-set_other c.loop-k.out k j c.clean_sample.result (pos 0) ne ∙ c.loop-k.invariant j h)
    (get_or-set_same c.loop-k.out k c.clean_sample.result (pos 0) (omega arith) ∙ here) in
    rw (to_z-of_z w8 c.clean_sample.result fits) more

pub returns : goal.returns
returns c = fill_by_all (clean_at c.args.levels.now) c.loop-k.out (length c.args.levels.now) (pos 0) (omega arith) (λ j h. c.loop-k.invariant j (omega arith))
