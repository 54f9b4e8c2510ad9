use Rattle.std.proofs.Common.{◌≡◌, ℕ, ◌+◌, ◌*◌, ◌<◌, length, get_or, pos, ap, ◌∙◌, arith}
use Rattle.prml_viterbi.specs.LevelBits.{sample_by}
use Rattle.prml_viterbi.proofs.LevelNumbers.{get_or-eight_samples, sample_cut}
use Rattle.prml_viterbi.proofs.Places.{part_written}
use Rattle.prml_viterbi.proofs.word_samples.put_word.Goals as goal

pub loop-i-preserved : goal.loop-i-preserved
loop-i-preserved c =
    let t = 4 * c.args.levels + c.args.before in
    let at = 8 * c.loop-i.i in
    let ys = c.put_row.new.places in
    let long : length ys ≡ 8 = ap length c.put_row.ensures in
    let each : (k : ℕ) → k < length ys → get_or ys k (pos 0) ≡ sample_by t (at + k) = λ k less.
    ap (λ row. get_or row k (pos 0)) c.put_row.ensures
    ∙ get_or-eight_samples c.ten_levels.result k (omega arith)
    ∙ ap (λ l. sample_by l k) c.ten_levels.ensures.value
    ∙ sample_cut t at k (omega arith) in
    part_written (sample_by t) c.loop-i.places ys at _ (8 * (c.loop-i.i + 1)) (omega arith) (omega arith) c.loop-i.invariant each
