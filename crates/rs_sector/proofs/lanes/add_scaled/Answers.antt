use Rattle.rs_sector.proofs.LaneLaws.{adds_scaled}
use Rattle.rs_sector.proofs.lanes.add_scaled.Goals as goal

pub returns : goal.returns
returns c = adds_scaled c.args.to.now c.args.lanes.now c.scaled.result c.args.factor c.told-to c.fits-to c.told-lanes c.scaled.ensures
