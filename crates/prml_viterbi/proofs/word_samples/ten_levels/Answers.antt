use Rattle.std.proofs.Common.{arith}
use Rattle.prml_viterbi.proofs.LevelNumbers.{ten_cut, ten_highest}
use Rattle.prml_viterbi.proofs.word_samples.ten_levels.Goals as goal

pub returns-then-i-lt7-clause-value : goal.returns-then-i-lt7-clause-value
returns-then-i-lt7-clause-value c = ten_cut c.args.levels c.args.before c.args.i c.requires.before (omega arith)

pub returns-else-i-lt7-clause-value : goal.returns-else-i-lt7-clause-value
returns-else-i-lt7-clause-value c = ten_highest c.args.levels c.args.before c.args.i c.requires.before (omega arith) (omega arith) c.requires.inside
