use Rattle.std.proofs.Common.{◌∙◌}
use Rattle.rs_sector.proofs.Codewords.{sums_are_syndromes}
use Rattle.rs_sector.proofs.encoder.syndromes.Goals as goal

pub returns : goal.returns
returns c = c.combined.ensures ∙ sums_are_syndromes c.args.word.now c.point_powers.result.now c.told-word c.point_powers.ensures
