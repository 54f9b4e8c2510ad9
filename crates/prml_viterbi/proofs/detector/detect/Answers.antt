-- Where the samples are clean, the word that is rebuilt is the detected one.
use Rattle.std.proofs.Common.{◌≡◌, length, arith}
use Rattle.prml_viterbi.proofs.Clean.{IsDetected-from_clean}
use Rattle.prml_viterbi.proofs.CleanPlaces.{IsAllowed-from_clean}
use Rattle.prml_viterbi.proofs.detector.detect.Goals as goal

pub returns-then-are_clean-clause-detected : goal.returns-then-are_clean-clause-detected
returns-then-are_clean-clause-detected c =
    let samples = c.args.samples.now in
    let out = c.rebuild.new.out in
    let long : length out ≡ length samples = omega arith in
    let clean = c.are_clean.ensures.0 c.if-are_clean.true in
    IsDetected-from_clean samples out (IsAllowed-from_clean samples out long clean) long (λ k h. (clean k h).clean)
