use Rattle.std.proofs.Common.{◌≡◌, sym, true, rules}
use Rattle.block_machine.specs.Steps.{duties_after}
use Rattle.history_replay.specs.Kept.{comes_alone}
use Rattle.history_replay.proofs.Standing.{alone_lawful, kept_later, same_kept, settled}
use Rattle.history_replay.proofs.entry.take_alone.Goals as goal

pub returns : goal.returns
returns c = λ s st.
    let kept = c.args.kept.now in
    let capacity = kept.known.capacity in
    let label = c.args.label.now in
    let e = c.args.entry.now in
    let yes : comes_alone capacity e ≡ true = search rules in
    let alone = alone_lawful capacity label s e yes in
    let h = c.in_ok-settle.ensures in (
      sym alone.0,
      λ may. settled capacity label kept c.settle.new.kept s e st c.requires.later
          (kept_later capacity kept.duties c.settle.new.kept.duties s (duties_after capacity label s e) e c.requires.later
          (same_kept capacity kept.duties s.set s.duties (duties_after capacity label s e) alone.1 st.duties) h.duties)
          h.arrived h.capacity h.set h.settings h.waiting h.warned
          h.corrupt h.scan h.counted h.dirty,
    )
