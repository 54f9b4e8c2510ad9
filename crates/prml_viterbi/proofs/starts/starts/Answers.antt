use Rattle.prml_viterbi.proofs.WordStarts.{starts_marked}
use Rattle.prml_viterbi.proofs.starts.starts.Goals as goal

pub returns : goal.returns
returns c = starts_marked c.args.word c.args.before c.requires
