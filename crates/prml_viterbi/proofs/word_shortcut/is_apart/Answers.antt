use Rattle.std.proofs.Common.{refl, arith}
use Rattle.prml_viterbi.proofs.Spaced.{Decides-apart}
use Rattle.prml_viterbi.proofs.word_shortcut.is_apart.Goals as goal

pub returns : goal.returns
returns c = Decides-apart c.args.word c.args.before _ _ (omega arith) c.requires refl refl
