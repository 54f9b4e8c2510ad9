use Rattle.rs_sector.proofs.ProductTables.{high_row}
use Rattle.rs_sector.proofs.field.high_products.Goals as goal

pub returns : goal.returns
returns c = high_row c.args.a c.ranges.a.fits
