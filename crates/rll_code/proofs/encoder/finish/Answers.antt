use Rattle.rll_code.proofs.EncoderTable.{table_finishes}
use Rattle.rll_code.proofs.encoder.finish.Goals as goal

pub returns : goal.returns
returns c = table_finishes c.args.state c.requires
