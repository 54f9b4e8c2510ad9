use Rattle.std.proofs.Common.{◌≡◌, ◌-◌, length, take, drop, subst, arith}
use Rattle.prml_viterbi.specs.Starts.{MarksMoved}
use Rattle.prml_viterbi.proofs.WordStarts.{places_mark}
use Rattle.prml_viterbi.proofs.starts.places_moved.Goals as goal

pub returns : goal.returns
returns c =
    let samples = c.args.samples.now in
    let left : length samples - 48 ≡ 16 = omega arith in
    places_mark samples _ _ _ _ c.requires c.lanes_moved-first.ensures c.lanes_moved-second.ensures c.lanes_moved-third.ensures
    (subst (λ n. MarksMoved (take n (drop 48 samples)) c.lanes_moved-fourth.result) left c.lanes_moved-fourth.ensures)
