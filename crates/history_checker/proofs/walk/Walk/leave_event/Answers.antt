use Rattle.std.proofs.Common.{◌∙◌, sym}
use Rattle.history_checker.proofs.Keeping.{outside_past}
use Rattle.history_checker.proofs.walk.Walk.leave_event.Goals as goal

pub returns : goal.returns
returns c = λ w k some.
    outside_past c.args.lines.now c.args.self.now w c.stop_from-stop.result c.sought-self.result k c.if-self.false
    (sym c.is_world_at.ensures ∙ c.if-not-is_world_at.false) c.stop_from-stop.ensures.low c.stop_from-stop.ensures.high c.stop_from-stop.ensures.stops
    c.stop_from-stop.ensures.parts c.sought-self.ensures.eight c.sought-self.ensures.each
