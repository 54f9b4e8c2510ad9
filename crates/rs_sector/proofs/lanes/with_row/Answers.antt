use Rattle.std.proofs.Common.{arith}
use Rattle.rs_sector.proofs.LaneLaws.{first_more}
use Rattle.rs_sector.proofs.lanes.with_row.Goals as goal

pub returns : goal.returns
returns c = first_more c.args.bytes.now c.args.rows.now c.args.k c.args.sums _ c.requires.sums c.scaled.ensures (c.told-rows c.args.k (omega arith))
