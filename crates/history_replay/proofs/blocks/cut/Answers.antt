use Rattle.std.proofs.Common.{◌∙◌, ◌<◌, ap, length, set, rules}
use Rattle.std.proofs.lemmas.List.Edits.{map_over_more}
use Rattle.block_machine.specs.Blocks.{after_cut}
use Rattle.history_replay.proofs.blocks.cut.Goals as goal

pub loop-b-preserved : goal.loop-b-preserved
loop-b-preserved c =
    let xs = c.args.blocks.now.items in
    let ys = c.loop-b.blocks.items in
    let b = c.loop-b.b in
    let s = c.index_mut.result.now in
    let less : b < length xs = search rules in (
      ap (set ys b) c.in_ok-after_cut.ensures ∙ map_over_more after_cut xs ys b s less c.loop-b.invariant.0 c.index_mut.ensures.value,
      c.loop-b.invariant.1,
    )
