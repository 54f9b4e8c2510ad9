use Rattle.std.proofs.Common.{to_z, of_z, w8, ap, ◌∙◌}
use Rattle.std.proofs.lemmas.Int.{to_z-of_z}
use Rattle.prml_viterbi.specs.LevelBits.{sample_by}
use Rattle.prml_viterbi.proofs.SampleRows.{sample_is, sample_fits}
use Rattle.prml_viterbi.proofs.word_samples.sample_in_row.Goals as goal

pub returns : goal.returns
returns c =
    ap (λ z. to_z w8 (of_z w8 z)) (sample_is c.args.levels c.args.k c.requires.levels c.requires.inside)
    ∙ to_z-of_z w8 (sample_by c.args.levels c.args.k) (sample_fits c.args.levels c.args.k)
