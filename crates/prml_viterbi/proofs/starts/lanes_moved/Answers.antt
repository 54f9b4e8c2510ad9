use Rattle.prml_viterbi.proofs.WordStarts.{lanes_mark}
use Rattle.prml_viterbi.proofs.starts.lanes_moved.Goals as goal

pub returns : goal.returns
returns c = lanes_mark c.args.samples.now c.requires
