-- what the sink took is the next front of the text
use Rattle.std.proofs.Common.{◌∙◌, arith, length-drop, length-take}
use Rattle.outside.proofs.Known.{Appends-front}
use Rattle.outside.proofs.offering.offer.Goals as goal

pub loop-at-preserved : goal.loop-at-preserved
loop-at-preserved g c =
    let kept = c.loop-at.invariant in
    let told = c.in-Took.ensures in
    let text = c.args.text.now in
    record {
      within = grind (arith, length-drop, length-take);
      grown = Appends-front _ _ _ text c.loop-at.at c.in-Took.count kept.grown told.took;
      no_fault = told.no_fault (λ e. cc) ∙ kept.no_fault;
    }
