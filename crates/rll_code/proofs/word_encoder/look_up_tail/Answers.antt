use Rattle.std.proofs.Common.{arith}
use Rattle.rll_code.specs.Code.{tail}
use Rattle.rll_code.proofs.WordTable.{table_places_tail, placed_small}
use Rattle.rll_code.proofs.word_encoder.look_up_tail.Goals as goal

pub returns-clause-places : goal.returns-clause-places
returns-clause-places c = table_places_tail c.args.state c.requires

pub returns-clause-small : goal.returns-clause-small
returns-clause-small c = placed_small c.args.state _ _ tail c.requires (omega arith) (table_places_tail c.args.state c.requires)
