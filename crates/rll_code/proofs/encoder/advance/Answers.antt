use Rattle.std.proofs.Common.{arith}
use Rattle.rll_code.proofs.EncoderTable.{tables_advance}
use Rattle.rll_code.proofs.encoder.advance.Goals as goal

pub returns : goal.returns
returns c = tables_advance c.args.state c.args.byte c.requires (omega arith)
