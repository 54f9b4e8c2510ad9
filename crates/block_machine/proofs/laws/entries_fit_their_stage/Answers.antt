use Rattle.block_machine.proofs.StageLaw as laws
use Rattle.block_machine.proofs.laws.entries_fit_their_stage.Goals as goal

pub returns : goal.returns
returns c = laws.entries_fit_their_stage
