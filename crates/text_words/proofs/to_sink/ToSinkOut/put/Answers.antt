-- the rest of the piece stands behind what was taken of it
use Rattle.std.proofs.Common.{◌+◌, arith}
use Rattle.text_words.proofs.Gathering.{next_front, last_front}
use Rattle.text_words.proofs.to_sink.ToSinkOut.put.Goals as goal

pub loop-at-preserved : goal.loop-at-preserved
loop-at-preserved g c =
    let kept = c.loop-at.invariant in
    let at = c.loop-at.at in
    let end = at + c.room-in-loop-at.result in
    let piece = c.args.piece.now in
    record {
      within = omega arith;
      written = λ start text before.
          rw (next_front text piece at end (omega arith)) at
          (c.offer_gathered.ensures.written start _ (c.gather.ensures.written start _ (kept.written start text before)));
    }

pub returns : goal.returns
returns g c start text before =
    rw (last_front text c.args.piece.now c.loop-at.at) at (c.gather-2.ensures.written start _ (c.loop-at.invariant.written start text before))
