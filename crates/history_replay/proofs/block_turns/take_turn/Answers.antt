use Rattle.std.proofs.Common.{◌≡◌, ◌∙◌, ◌<◌, true, length, vec_len, rules}
use Rattle.block_machine.specs.Blocks.{block_lawful}
use Rattle.history_replay.specs.Array.{blocks_of}
use Rattle.history_replay.proofs.Turn.{may_here, one_more}
use Rattle.history_replay.proofs.block_turns.take_turn.Goals as goal

pub loop-entry-preserved : goal.loop-entry-preserved
loop-entry-preserved c =
    let capacity = vec_len c.args.blocks.now in
    let before = c.loop-entry.blocks in
    let f = blocks_of c.args.blocks.now.items in
    let g = blocks_of before.items in
    let h = blocks_of c.apply.new.blocks.items in
    let e = c.entry-item.result in
    let less : c.loop-entry.entry-index < length c.args.entries.now = search rules in
    let yes : c.may_come.result ≡ true = search rules in
    let may : block_lawful capacity g e ≡ true =
    may_here (vec_len before) capacity c.as_slice.result.now before.items e c.may_come.result c.may_come.ensures yes c.as_slice.ensures.value
    c.as_slice.ensures.len c.loop-entry.invariant.1 in (
      one_more capacity f g h c.args.entries.now c.loop-entry.entry-index e less c.entry-item.is may c.in_ok-apply.ensures.after
          c.loop-entry.invariant.0,
      c.apply.ensures.length ∙ c.loop-entry.invariant.1,
    )
