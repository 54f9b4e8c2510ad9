use Rattle.rs_sector.proofs.RowTables.{point_rows}
use Rattle.rs_sector.proofs.lanes.point_powers.Goals as goal

pub returns : goal.returns
returns c = point_rows
