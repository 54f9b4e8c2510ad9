use Rattle.std.proofs.Common.{refl}
use Rattle.prml_viterbi.proofs.LevelNumbers.{six_shifts}
use Rattle.prml_viterbi.proofs.word_samples.flips_so_far.Goals as goal

pub returns : goal.returns
returns c = six_shifts c.args.word _ _ _ _ _ _ refl refl refl refl refl refl
