use Rattle.std.proofs.Common.{◌≤◌, ◌-◌, ◌/◌, ap, arith}
use Rattle.rs_sector.specs.Decoding.{marked}
use Rattle.rs_sector.proofs.Repairing.{never_too_many, candidate_is}
use Rattle.rs_sector.proofs.decode.corrected.Goals as goal

pub returns-then-count-gt16-clause-in_reach : goal.returns-then-count-gt16-clause-in_reach
returns-then-count-gt16-clause-in_reach c =
    let few : marked c.suspects-suspects.result ≤ 16 =
    never_too_many c.suspects-suspects.result c.args.erased.now c.without_erased-rest.result c.locator.result _ c.requires.few (ap (λ n. (16 - n) / 2) c.count.ensures) c.locator.ensures c.suspects-suspects.ensures in
    absurd (omega (arith, c.count-2.ensures, c.if-count-gt16.true))

pub returns-clause-in_reach : goal.returns-clause-in_reach
returns-clause-in_reach c codeword near =
    candidate_is c.args.word.now codeword c.args.sums.now c.without_erased-rest.result c.locator.result c.repaired.result c.args.erased.now c.suspects-suspects.result _ c.told-word c.fits-word c.repaired.ensures.long c.requires.sums near
    (ap (λ n. (16 - n) / 2) c.count.ensures) c.without_erased-rest.ensures c.locator.ensures c.suspects-suspects.ensures c.repaired.ensures.errors
