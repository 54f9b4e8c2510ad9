-- Each level is the only one that has the sample after the level two places before.
use Rattle.std.proofs.Common.{◌≡◌, pos, get_or, FitsSigned, w8, arith, rules}
use Rattle.std.proofs.lemmas.Int.{to_z-of_z}
use Rattle.prml_viterbi.proofs.Rebuilt.{AreRebuilt-more}
use Rattle.prml_viterbi.proofs.shortcut.rebuild_part.Goals as goal

pub loop-k-preserved : goal.loop-k-preserved
loop-k-preserved c = λ before.
    let samples = c.args.samples.now in
    let k = c.loop-k.k in
    let fits : FitsSigned w8 (get_or samples k (pos 0)) = search rules in
    let result : FitsSigned w8 c.moved-level.result = search rules in
    let moved = rw (to_z-of_z w8 (get_or samples k (pos 0)) fits) at c.moved-level.ensures in
    rw (to_z-of_z w8 c.moved-level.result result)
    (AreRebuilt-more samples c.loop-k.out _ _ c.moved-level.result k (omega arith) (omega arith) moved (c.loop-k.invariant before))

pub returns : goal.returns
returns c = λ before.
    let end : c.loop-k.k ≡ c.args.to = omega arith in
    rw (← end) (c.loop-k.invariant before)
