use Rattle.std.proofs.Common.{◌≡◌, ◌+◌, ◌-◌, ◌*◌, take, drop, refl, subst, Decides, arith}
use Rattle.prml_viterbi.specs.LevelBits.{AreSamplesBy}
use Rattle.prml_viterbi.proofs.CleanWords.{row_more, slice_place}
use Rattle.prml_viterbi.proofs.word_shortcut.is_clean_word.Goals as goal

pub loop-i-init : goal.loop-i-init
loop-i-init c = (λ _ j h. absurd (omega arith), λ _. refl)

pub loop-i-preserved : goal.loop-i-preserved
loop-i-preserved c =
    let t = 4 * c.args.levels + c.args.before in
    let i = c.loop-i.i in
    let samples = c.args.samples.now in
    let m = 8 * i + 8 - 8 * i in
    let row = take m (drop (8 * i) samples) in
    row_more samples row t i c.loop-i.clean c.is_row-clean.result (λ k less. slice_place samples (8 * i) m k (omega arith)) c.loop-i.invariant
    (subst (λ l. Decides c.is_row-clean.result (AreSamplesBy row l 8)) c.ten_levels.ensures.value c.is_row-clean.ensures)

pub returns : goal.returns
returns c = let e : 8 * c.loop-i.i ≡ 64 = omega arith in subst (λ n. Decides c.loop-i.clean (AreSamplesBy c.args.samples.now (4 * c.args.levels + c.args.before) n)) e c.loop-i.invariant
