use Rattle.std.proofs.Common.{◌<◌, ◌≤◌, length, rules}
use Rattle.block_machine.specs.State.{state_at_start}
use Rattle.history_replay.proofs.TurnsTaken.{history_ends, history_more}
use Rattle.history_replay.proofs.history.replay_from.Goals as goal

pub loop-index-preserved : goal.loop-index-preserved
loop-index-preserved c =
    let less : c.loop-index.index < length c.args.turns.now = search rules in
    history_more c.args.capacity c.loop-index.monitor c.take.new.self (state_at_start c.args.waiting) c.args.turns.now c.loop-index.index
    c.index-turns-index.result c.in_ok-take.field-0 less c.index-turns-index.is c.if-not-branch.false c.in_ok-take.ensures c.loop-index.invariant

pub returns-clause-length : goal.returns-clause-length
returns-clause-length c = c.into_blocks.ensures.length c.args.capacity c.loop-index.invariant.0 c.loop-index.invariant.1

pub returns-clause-blocks : goal.returns-clause-blocks
returns-clause-blocks c =
    let all : length c.args.turns.now ≤ c.loop-index.index = search rules in
    (history_ends c.args.capacity c.loop-index.monitor c.into_blocks.result (state_at_start c.args.waiting) c.args.turns.now c.loop-index.index
    all c.into_blocks.ensures.length c.into_blocks.ensures.blocks c.loop-index.invariant).1

pub returns-clause-legal : goal.returns-clause-legal
returns-clause-legal c =
    let all : length c.args.turns.now ≤ c.loop-index.index = search rules in
    (history_ends c.args.capacity c.loop-index.monitor c.into_blocks.result (state_at_start c.args.waiting) c.args.turns.now c.loop-index.index
    all c.into_blocks.ensures.length c.into_blocks.ensures.blocks c.loop-index.invariant).2
