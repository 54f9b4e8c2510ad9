use Rattle.rs_sector.proofs.RowTables.{block_rows}
use Rattle.rs_sector.proofs.lanes.block_powers.Goals as goal

pub returns : goal.returns
returns c = block_rows
