use Rattle.rs_sector.proofs.RowTables.{check_unit_rows}
use Rattle.rs_sector.proofs.lanes.check_rows.Goals as goal

pub returns : goal.returns
returns c = check_unit_rows
