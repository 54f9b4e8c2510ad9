use Rattle.std.proofs.Common.{◌∙◌, sym}
use Rattle.history_checker.proofs.Keeping.{seek_more}
use Rattle.history_checker.proofs.walk.seek.Goals as goal

pub loop-place-preserved : goal.loop-place-preserved
loop-place-preserved c =
    c.loop-place.invariant
    ∙ seek_more c.args.lines.now c.args.number c.loop-place.place c.args.stop c.index-lines-place.result c.loop-place-test.true c.requires.bound
    c.index-lines-place.is (sym c.is_from.ensures ∙ c.if-is_from.false)
