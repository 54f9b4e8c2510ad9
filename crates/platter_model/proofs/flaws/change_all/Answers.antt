use Rattle.std.proofs.Common.{get_or, pos, rules, FitsSigned, w8}
use Rattle.std.proofs.lemmas.Int.{to_z-of_z}
use Rattle.platter_model.specs.Given.{affected}
use Rattle.platter_model.proofs.Lists.{change_next}
use Rattle.platter_model.proofs.flaws.change_all.Goals as goal

pub loop-sample-preserved : goal.loop-sample-preserved
loop-sample-preserved c =
    let old_fits : FitsSigned w8 (get_or c.loop-sample.samples c.loop-sample.sample-index (pos 0)) = search rules in
    let new_fits : FitsSigned w8 c.sample_under.result = search rules in
    rw (to_z-of_z w8 c.sample_under.result new_fits)
    (change_next (affected c.args.effect) c.args.samples.now c.loop-sample.samples c.loop-sample.sample-index c.sample_under.result c.loop-sample.invariant c.loop-sample-test.true
    (rw (to_z-of_z w8 (get_or c.loop-sample.samples c.loop-sample.sample-index (pos 0)) old_fits) at c.sample_under.ensures))
