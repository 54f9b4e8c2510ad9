use Rattle.script_runner.proofs.BadReads.{bad_reads_are_shown}
use Rattle.script_runner.proofs.RunLaws as laws
use Rattle.script_runner.proofs.laws.gets_are_shown.Goals as goal

pub returns : goal.returns
returns c = record { found = laws.gets_are_shown; bad = bad_reads_are_shown c.maps_stay.ensures c.two_blocks_are_never_at_one_sector.ensures c.blocks_are_at_user_sectors.ensures }
