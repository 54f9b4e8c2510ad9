use Rattle.rs_sector.proofs.LaneLaws.{low_ok, high_ok, scaled_lanes}
use Rattle.rs_sector.proofs.lanes.scaled.Goals as goal

pub swizzle : goal.swizzle
swizzle c = low_ok c.args.lanes c.fits-lanes

pub swizzle-2 : goal.swizzle-2
swizzle-2 c = high_ok c.args.lanes c.fits-lanes

pub returns : goal.returns
returns c = scaled_lanes c.args.a c.args.lanes _ _ c.fits-lanes c.low_products-low.ensures c.high_products-high.ensures
