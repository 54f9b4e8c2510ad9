use Rattle.rs_sector.proofs.LaneLaws.{eliminates}
use Rattle.rs_sector.proofs.lanes.eliminate.Goals as goal

pub returns : goal.returns
returns c = eliminates c.args.sums.now c.scaled.result c.args.point 0 c.told-sums c.fits-sums c.scaled.ensures
