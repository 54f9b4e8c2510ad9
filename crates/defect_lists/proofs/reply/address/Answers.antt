-- The cylinder, head and sector that lie there are the quotients and remainders.
use Rattle.std.proofs.Common.{refl}
use Rattle.defect_lists.proofs.Addresses.{cylinder_is, head_is, sector_is}
use Rattle.defect_lists.proofs.reply.address.Goals as goal

pub returns : goal.returns
returns c =
    let lies = c.cylinder_head_sector-cylinder.ensures in
    let cylinder = cylinder_is c.args.map.now.size c.args.p _ _ _ lies in
    let head = head_is c.args.map.now.size c.args.p _ _ _ lies in
    let sector = sector_is c.args.map.now.size c.args.p _ _ _ lies in
    rw (cylinder, head, sector, c.to_be_bytes.ensures, c.to_be_bytes-2.ensures) refl
