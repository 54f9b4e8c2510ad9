use Rattle.std.proofs.Common.{◌≡◌, ◌+◌, ◌-◌, ◌*◌, take, drop, ap, ◌∙◌, arith}
use Rattle.prml_viterbi.specs.declared.sample_rows.TheConstants.{SAMPLE_ROWS}
use Rattle.prml_viterbi.proofs.SampleRows.{row_is}
use Rattle.prml_viterbi.proofs.word_samples.put_row.Goals as goal

pub returns : goal.returns
returns c =
    let at = 8 * c.args.levels in
    let eight : at + 8 - at ≡ 8 = omega arith in
    c.copy_from_slice.ensures.after ∙ ap (λ n. take n (drop at SAMPLE_ROWS)) eight ∙ row_is c.args.levels c.requires.levels
