use Rattle.std.proofs.Common.{arith}
use Rattle.prml_viterbi.proofs.LevelNumbers.{GiveLevels-turned, turned_high, turned_low}
use Rattle.prml_viterbi.proofs.word_samples.levels_after.Goals as goal

pub returns-then-before-ge2-clause-levels : goal.returns-then-before-ge2-clause-levels
returns-then-before-ge2-clause-levels c =
    let f = c.flips_so_far-flips.result in
    GiveLevels-turned c.args.word c.args.before f _ c.requires (λ k below. turned_low c.args.before f k (omega arith) c.requires (omega arith) below) c.flips_so_far-flips.ensures

pub returns-else-before-ge2-clause-levels : goal.returns-else-before-ge2-clause-levels
returns-else-before-ge2-clause-levels c =
    let f = c.flips_so_far-flips.result in
    GiveLevels-turned c.args.word c.args.before f _ c.requires (λ k below. turned_high c.args.before f k (omega arith)) c.flips_so_far-flips.ensures
