use Rattle.std.proofs.Common.{◌≡◌, length, arith}
use Rattle.rs_sector.proofs.LaneLaws.{first_all}
use Rattle.rs_sector.proofs.lanes.combined.Goals as goal

pub returns : goal.returns
returns c =
    let all : c.loop-k.k ≡ length c.args.bytes.now = omega arith in
    first_all c.args.bytes.now c.args.rows.now c.loop-k.k c.loop-k.sums all c.loop-k.invariant
