use Rattle.std.proofs.Common.{◌∙◌}
use Rattle.sense_data.proofs.Marked.{room-left, next-marked, next-unmarked}
use Rattle.sense_data.proofs.attentions.Attentions.raise_where.Goals as goal
use Rattle.sense_data.proofs.attentions.Attentions.raise_where.Goals.{then-marks-place, else-marks-place}

pub raise-requires : goal.raise-requires
raise-requires c =
    room-left c.args.marks.now c.args.attention c.args.self.now c.loop-place.self c.loop-place.place c.initiator_at.result
    c.initiator_at.ensures c.loop-place.invariant c.requires

pub loop-place-preserved : goal.loop-place-preserved
loop-place-preserved c =
    elim c.if-marks-place.branch [
      | then-marks-place w ↦
          next-marked c.args.marks.now c.args.attention c.args.self.now c.loop-place.self c.if-marks-place.self c.loop-place.place w.initiator_at.result
          w.initiator_at.ensures w.if-marks-place.true c.loop-place.invariant (w.self-is ∙ w.raise.ensures)
      | else-marks-place w ↦
          next-unmarked c.args.marks.now c.args.attention c.args.self.now c.loop-place.self c.if-marks-place.self c.loop-place.place
          w.if-marks-place.false c.loop-place.invariant w.self-is
    ]
