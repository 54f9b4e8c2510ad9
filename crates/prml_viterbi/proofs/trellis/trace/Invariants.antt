-- What is written is the end of the word that the survivors lead back over.
use Rattle.prml_viterbi.proofs.Traces.{IsTraced}
use Rattle.prml_viterbi.proofs.trellis.trace.Given as goal

abbrev pub invariant-loop-k : goal.invariant-loop-k
invariant-loop-k l = IsTraced l.survivors l.out l.end l.state l.k
