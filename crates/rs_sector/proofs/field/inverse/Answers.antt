use Rattle.rs_sector.proofs.ProductTables.{inverse_row}
use Rattle.rs_sector.proofs.field.inverse.Goals as goal

pub returns : goal.returns
returns c = inverse_row c.args.a c.ranges.a.fits c.requires
