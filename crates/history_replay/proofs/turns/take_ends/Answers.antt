use Rattle.std.proofs.Common.{◌<◌, ◌≤◌, length, drop, rules}
use Rattle.block_machine.specs.State.{State}
use Rattle.history_replay.proofs.Taking.{EndsComeTo, still_stands, ends_more, ends_end}
use Rattle.history_replay.proofs.turns.take_ends.Goals as goal

pub settle_arrival-requires-clause-stands : goal.settle_arrival-requires-clause-stands
settle_arrival-requires-clause-stands c =
    let capacity = c.args.kept.now.known.capacity in
    let ends = c.args.ends.now in
    still_stands capacity c.args.kept.now c.loop-end.kept
    (λ (s : State) (g : State). EndsComeTo capacity c.args.label.now s ends g (drop c.loop-end.end-index ends))
    c.loop-end.invariant.0 c.requires.stands c.loop-end.invariant.1

pub loop-end-preserved : goal.loop-end-preserved
loop-end-preserved c =
    let less : c.loop-end.end-index < length c.args.ends.now = search rules in
    let more = ends_more c.args.kept.now.known.capacity c.args.kept.now c.loop-end.kept c.settle_arrival.new.kept c.args.label.now c.args.ends.now
    c.loop-end.end-index c.end-item.result c.loop-end.invariant.0 less c.end-item.is c.in_ok-settle_arrival.ensures.stands c.loop-end.invariant.1 in
    ((more c.requires.stands.0 c.requires.stands.1).1.unit, more)

pub returns : goal.returns
returns c =
    let all : length c.args.ends.now ≤ c.loop-end.end-index = search rules in
    ends_end c.args.kept.now.known.capacity c.args.kept.now c.loop-end.kept c.args.label.now c.args.ends.now c.loop-end.end-index all
    c.loop-end.invariant.1
