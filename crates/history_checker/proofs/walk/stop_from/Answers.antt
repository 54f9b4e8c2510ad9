use Rattle.std.proofs.Common.{◌∙◌, sym}
use Rattle.history_checker.proofs.Keeping.{waits_more}
use Rattle.history_checker.proofs.walk.stop_from.Goals as goal

pub loop-place-preserved : goal.loop-place-preserved
loop-place-preserved c = λ waiting.
    c.loop-place.invariant waiting
    ∙ waits_more c.args.lines.now c.args.from c.loop-place.place c.index-lines-place.result waiting c.loop-place.auto.place c.loop-place-test.true
    c.index-lines-place.is (sym c.is_stop.ensures ∙ c.if-is_stop.false)
