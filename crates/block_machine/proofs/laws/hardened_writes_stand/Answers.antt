use Rattle.block_machine.proofs.Hardens as laws
use Rattle.block_machine.proofs.laws.hardened_writes_stand.Goals as goal

pub returns : goal.returns
returns c = record { forced = laws.forced_writes_stand; synced = laws.synced_values_stand }
