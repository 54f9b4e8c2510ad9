-- No record has more pairs than its data have room for.
use Rattle.std.proofs.Common.{ap, arith, length, length-drop}
use Rattle.std.proofs.lemmas.List.{length-take}
use Rattle.map_generations.proofs.record.record_block.Goals as goal

pub pairs_block-requires : goal.pairs_block-requires
pairs_block-requires c = omega (arith, ap length c.first_and_later.ensures.first, length-take 64 c.grown.result.now)

pub pairs_block-requires-in-2 : goal.pairs_block-requires-in-2
pairs_block-requires-in-2 c =
    omega (arith, ap length c.first_and_later.ensures.later, length-drop 64 c.grown.result.now, ap length c.grown.ensures, c.lists_are_valid.ensures.grown.few)
