use Rattle.std.proofs.Common.{arith}
use Rattle.rll_code.specs.Bits.{byte_bits}
use Rattle.rll_code.proofs.BitLists.{length-low_bits}
use Rattle.rll_code.proofs.WordTable.{table_places, placed_small}
use Rattle.rll_code.proofs.word_encoder.look_up.Goals as goal

pub returns-clause-places : goal.returns-clause-places
returns-clause-places c = table_places c.args.state c.args.byte c.requires (omega arith)

pub returns-clause-small : goal.returns-clause-small
returns-clause-small c =
    placed_small c.args.state _ _ (byte_bits c.args.byte) c.requires (omega (arith, length-low_bits 8 c.args.byte)) (table_places c.args.state c.args.byte c.requires (omega arith))
