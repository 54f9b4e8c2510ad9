use Rattle.history_replay.proofs.Standing.{arrival_settled, settled}
use Rattle.history_replay.proofs.turns.settle_arrival.Goals as goal

pub returns-clause-stands : goal.returns-clause-stands
returns-clause-stands c = λ s st.
    let h = c.in_ok-settle.ensures in
    let kept = c.args.kept.now in
    let capacity = kept.known.capacity in
    let new = c.settle.new.kept in
    let e = c.args.entry.now in
    let after = arrival_settled capacity c.args.label.now kept.duties new.duties s e c.requires.arrival st.duties h.duties in
    settled capacity c.args.label.now kept new s e st after.0 after.1 h.arrived h.capacity h.set h.settings h.waiting h.warned h.corrupt h.scan
    h.counted h.dirty
