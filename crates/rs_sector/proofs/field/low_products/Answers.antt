use Rattle.rs_sector.proofs.ProductTables.{low_row}
use Rattle.rs_sector.proofs.field.low_products.Goals as goal

pub returns : goal.returns
returns c = low_row c.args.a c.ranges.a.fits
