use Rattle.std.proofs.Common.{arith}
use Rattle.rll_code.proofs.DecoderTable.{tables_settle}
use Rattle.rll_code.proofs.decoder.settle.Goals as goal

pub returns : goal.returns
returns c = tables_settle c.args.state c.args.channel c.requires (omega arith)
