use Rattle.block_machine.specs.Lives.{ForcedWritesStand, SyncedValuesStand}
use Rattle.block_machine.proofs.Hardens as histories
use Rattle.script_runner.proofs.RunLaws.{of_legal}
use Rattle.script_runner.proofs.laws.hardened_writes_stand.Goals as goal

pub returns : goal.returns
returns c = record {
  forced = of_legal ForcedWritesStand histories.forced_writes_stand;
  synced = of_legal SyncedValuesStand histories.synced_values_stand;
}
