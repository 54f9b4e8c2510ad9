-- The six sums are compared in the order of their states.
use Rattle.prml_viterbi.proofs.Ends.{IsEnd-from_all}
use Rattle.prml_viterbi.proofs.trellis.Sums.end.Goals as goal

pub returns : goal.returns
returns c = IsEnd-from_all c.args.self c.or.result c.or-low.result c.or-2.result c.or-3.result c.or-4.result c.or.ensures c.or-low.ensures c.or-2.ensures c.or-3.ensures c.or-4.ensures
