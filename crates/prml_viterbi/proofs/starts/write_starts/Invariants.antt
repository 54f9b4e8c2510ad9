-- the words so far hold the starts, and whether the last sample of them isn't 0 is known
use Rattle.std.proofs.Common.{◌≡◌, ◌*◌, ◌<◌, ◌∷◌, eqb, get_or, pos}
use Rattle.prml_viterbi.specs.Starts.{is_moved}
use Rattle.prml_viterbi.proofs.WordStarts.{HoldStarts}
use Rattle.prml_viterbi.proofs.starts.write_starts.Given as goal

abbrev pub invariant-loop-j : goal.invariant-loop-j
invariant-loop-j l = record {
  small : l.before < 2;
  last : eqb l.before 1 ≡ is_moved (get_or (pos 0 ∷ l.samples) (64 * l.j) (pos 0));
  starts : HoldStarts l.samples l.words l.j;
}
