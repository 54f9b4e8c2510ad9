-- The word traced back from the end of the search is the least, and so the detected one.
use Rattle.std.proofs.Common.{◌≡◌, length, sym, subst, arith}
use Rattle.prml_viterbi.specs.Trellis.{IsLeast, first_levels, path}
use Rattle.prml_viterbi.proofs.Detection.{IsDetected-from_least}
use Rattle.prml_viterbi.proofs.detector.detect_by_search.Goals as goal

pub returns-clause-detected : goal.returns-clause-detected
returns-clause-detected c =
    let samples = c.args.samples.now in
    let out = c.trace.new.out in
    let best = c.search-end.ensures.least in
    let long : length out ≡ length samples = omega arith in
    let traced : first_levels out (length samples) ≡ path c.search-end.new.survivors (length samples) best.state = rw long at (c.trace.ensures.path best.state best.coded) in
    IsDetected-from_least samples out c.search-end.ensures.samples c.trace.ensures.levels long (subst (IsLeast samples (length samples)) (sym traced) best.least)
