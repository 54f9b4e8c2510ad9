-- How the operations look of writes to a spare, its check, a commit of the map, and a recovery, cut off or whole.
use Rattle.std.specs.Prelude.{◌≡◌, ◌⊎◌, ℕ, zero, suc, ◌+◌, ◌-◌, List, [], ◌∷◌, ◌++◌, map, take, length, slice_get, Option, Some, None}
use Rattle.disk_base.specs.declared.address.Lba.{Lba}
use Rattle.disk_base.specs.declared.address.Psn.{Psn}
use Rattle.disk_base.specs.declared.block.Value.{Value}
use Rattle.disk_base.specs.declared.block.Value.TheVariants.{Data, Lost}
use Rattle.disk_base.specs.declared.payload.Payload.{Payload}
use Rattle.disk_base.specs.declared.stage.Stage.{Stage}
use Rattle.disk_base.specs.Payload.{user_payload, lost_payload}
use Rattle.platter_model.specs.declared.damage.Tear.{Tear}
use Rattle.platter_model.specs.declared.op.Op.{Op}
use Rattle.platter_model.specs.declared.op.Op.TheVariants.{Wrote, Torn, WriteFailed, Fetched, Tried, Cut, Power}
use Rattle.platter_model.specs.TrueLog.{attempt_of}
use Rattle.geometry_map.specs.declared.pair.Pair.{Pair}
use Rattle.geometry_map.specs.DefectMap.{DefectMap, sector}
use Rattle.map_generations.specs.Recovery.{Reads}
use Rattle.sector_store.specs.Maps.{records_of, next_map}

-- writes of payloads one after another: all of them, or a beginning and then one that is torn as the power goes
abbrev pub AreWrites : List Payload → List Op → Type 0
AreWrites payloads ops = (ops ≡ map Wrote payloads)
    ⊎ ((count : ℕ) × (payload : Payload) × (tear : Tear) × (slice_get payloads count ≡ Some payload)
    × (ops ≡ map Wrote (take count payloads) ++ Torn payload tear ∷ Cut ∷ []))

-- a value for a block as a payload on a sector: its data, or the mark that it is lost
abbrev pub payload_on : Psn → Lba → Value → Payload
payload_on p b (Data bytes) = user_payload p b bytes
payload_on p b Lost = lost_payload p b

-- a write of a block's value to a spare: done or torn, or the spare is faulty
abbrev pub IsSpareWrite : Psn → Lba → Value → List Op → Type 0
IsSpareWrite p b v ops = AreWrites (payload_on p b v ∷ []) ops ⊎ (ops ≡ WriteFailed p ∷ [])

-- a try of a sector by a stage, after so many operations, and what it found
abbrev pub try_of : ℕ → Psn → Stage → Option Payload → List Op
try_of before p stage found = Fetched p (attempt_of stage) ∷ Tried before p stage found ∷ []

-- a check of a spare by a stage, after so many operations: whatever it finds
abbrev pub IsSpareCheck : ℕ → Psn → Stage → List Op → Type 0
IsSpareCheck before p stage ops = (found : Option Payload) × (ops ≡ try_of before p stage found)

-- a commit of pairs: the records of the next map, copy 0 first
abbrev pub IsCommit : DefectMap → List Pair → List Op → Type 0
IsCommit m pairs ops = AreWrites (records_of (next_map m pairs)) ops

-- the records that a recovery writes: those of the map that it took, with two more as its number in the other slot, and then with
-- four more in its own
abbrev pub recovery_records : DefectMap → List Payload
recovery_records m = records_of (record m { number = m.number + 2; slot = 1 - m.slot }) ++ records_of (record m { number = m.number + 4 })

-- tries of a sector by stages, up to the first that finds
abbrev pub AreTries : ℕ → Psn → List Stage → Option Payload → List Op → Type 0
AreTries before p [] found ops = (found ≡ None) × (ops ≡ [])
AreTries before p (stage ∷ stages) found ops =
    ((payload : Payload) × (found ≡ Some payload) × (ops ≡ try_of before p stage found))
    ⊎ ((rest : List Op) × (ops ≡ try_of before p stage None ++ rest) × AreTries (before + 2) p stages found rest)

-- tries of so many sectors from one on, each by the stages, and what each reads as
abbrev pub AreReads : ℕ → ℕ → ℕ → List Stage → Reads → List Op → Type 0
AreReads before p zero stages reads ops = ops ≡ []
AreReads before p (suc count) stages reads ops = (tries rest : List Op) × (ops ≡ tries ++ rest)
    × AreTries before (sector p) stages (reads p) tries × AreReads (before + length tries) (p + 1) count stages reads rest

-- a recovery that takes a map, after so many operations: the power comes on, each of the sixteen sectors of the maps is read by the
-- stages, and the map is written to both slots
abbrev pub IsRecovery : ℕ → List Stage → Reads → DefectMap → List Op → Type 0
IsRecovery before stages reads m ops = (tries writes : List Op) × (ops ≡ Power ∷ (tries ++ writes))
    × AreReads (before + 1) 0 16 stages reads tries × AreWrites (recovery_records m) writes

-- a recovery that finds the map corrupt writes nothing
abbrev pub IsFailedRecovery : ℕ → List Stage → Reads → List Op → Type 0
IsFailedRecovery before stages reads ops = (tries : List Op) × (ops ≡ Power ∷ tries) × AreReads (before + 1) 0 16 stages reads tries
