use Rattle.history_replay.proofs.TurnsTaken.{both_taken}
use Rattle.history_replay.proofs.monitor.take_both.Goals as goal

pub returns-clause-takes : goal.returns-clause-takes
returns-clause-takes c = λ s st same.
    let kept = c.args.kept.now in
    let h = c.in_ok-may.ensures in
    both_taken kept.known.capacity _ kept c.take_turn.new.kept c.args.blocks.now.items c.take_turn-2.new.blocks.items s c.args.turn.now
    c.as_slice.result.now c.in_ok-take_turn.field-0 c.in_ok-may.may c.if-not-branch.false c.requires.length c.as_slice.ensures
    c.in_ok-take_turn.ensures st same h.allowed h.after
