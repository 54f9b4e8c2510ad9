use Rattle.rs_sector.proofs.LaneLaws.{first_none}
use Rattle.rs_sector.proofs.lanes.whole_fours.Goals as goal

pub loop-k-init : goal.loop-k-init
loop-k-init c = first_none c.args.bytes.now c.args.rows.now
