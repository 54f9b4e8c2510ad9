-- Writes to spares, and their checks.
use Rattle.std.specs.Prelude.{◌≡◌, ◌↔◌, ◌≤◌, ◌<◌, List, Option, Some, pos}
use Rattle.disk_base.specs.declared.address.Lba.{Lba}
use Rattle.disk_base.specs.declared.address.Psn.{Psn}
use Rattle.disk_base.specs.declared.payload.Payload.{Payload}
use Rattle.disk_base.specs.declared.stage.Stage.{Stage}
use Rattle.disk_base.specs.declared.stage.How.TheVariants.{Light}
use Rattle.platter_model.specs.declared.op.Op.{Op}
use Rattle.platter_model.specs.State.{State, after_write, tried}
use Rattle.geometry_map.specs.Size.{total_of, capacity_of}
use Rattle.geometry_map.specs.DefectMap.{DefectMap, IsValidMap}
use Rattle.geometry_map.specs.Chains.{IsFreeSpare}
use Rattle.sector_store.specs.declared.answer.CheckAnswer.{CheckAnswer}
use Rattle.sector_store.specs.declared.answer.CheckAnswer.TheVariants.{Same}
use Rattle.sector_store.specs.Stored.{stored}
use Rattle.sector_store.specs.State.{Contained}

-- by a map the stored value of each block is as before
abbrev pub KeepsStored : DefectMap → List Op → List Op → Type 0
KeepsStored m ops more = (b : Lba) → b.0 < capacity_of m.size → stored m more b ≡ stored m ops b

-- the stage that checks a spare: the plain read
abbrev pub check_stage : Stage
check_stage = record { number = 0; reread = 0; offset = pos 0; how = Light }

-- a check of a spare: the plain stage found something or nothing there, and the answer is whether it was the payload asked for
pub record IsCheck (s : Contained) (p : Psn) (payload : Payload) (answer : CheckAnswer) (after : Contained) : Type 0 where
  pub found : Option Payload
  pub noted : after ≡ record s { platter = tried s.platter p check_stage found }
  pub same : (answer ≡ Same) ↔ (found ≡ Some payload)

-- a spare is a sector of the drive, past those of the maps
abbrev pub SparesAreUserSectors : Type 0
SparesAreUserSectors = (m : DefectMap) (p : Psn) → IsFreeSpare m p → (16 ≤ p.0) × (p.0 < total_of m.size)

-- a write to a free spare keeps what is stored
abbrev pub WritesToSparesKeepBlocks : Type 0
WritesToSparesKeepBlocks = (m : DefectMap) (before : State) (p : Psn) (payload : Payload) → IsValidMap m → IsFreeSpare m p → payload.psn ≡ p
    → KeepsStored m before.ops (after_write before p payload).ops
