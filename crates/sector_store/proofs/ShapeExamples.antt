-- Small cases of how operations look.
use Rattle.std.proofs.Common.{ℕ, List, [], ◌∷◌, map, Some, None, refl, inl, inr}
use Rattle.disk_base.specs.declared.address.Lba.{Lba}
use Rattle.disk_base.specs.declared.address.Psn.{Psn}
use Rattle.disk_base.specs.declared.block.Value.TheVariants.{Lost}
use Rattle.disk_base.specs.declared.payload.Payload.{Payload}
use Rattle.disk_base.specs.declared.stage.Stage.{Stage}
use Rattle.platter_model.specs.declared.damage.Tear.{Tear}
use Rattle.platter_model.specs.declared.op.Op.TheVariants.{Wrote, Torn, WriteFailed, Cut}
use Rattle.geometry_map.specs.declared.pair.Pair.{Pair}
use Rattle.geometry_map.specs.DefectMap.{DefectMap}
use Rattle.map_generations.specs.MapRecord.{map_record}
use Rattle.sector_store.specs.Maps.{records_of, next_map}
use Rattle.sector_store.specs.Shapes.{IsSpareWrite, IsSpareCheck, IsCommit, AreTries, payload_on, try_of}

-- a spare is written whole, or torn, or is faulty
spare_written : (p : Psn) (b : Lba) → IsSpareWrite p b Lost (Wrote (payload_on p b Lost) ∷ [])
spare_written p b = inl (inl refl)

spare_torn : (p : Psn) (b : Lba) (tear : Tear) → IsSpareWrite p b Lost (Torn (payload_on p b Lost) tear ∷ Cut ∷ [])
spare_torn p b tear = inl (inr (0, payload_on p b Lost, tear, refl, refl))

spare_faulty : (p : Psn) (b : Lba) → IsSpareWrite p b Lost (WriteFailed p ∷ [])
spare_faulty p b = inr refl

-- a check is a try, and not nothing
spare_checked : (before : ℕ) (p : Psn) (stage : Stage) → IsSpareCheck before p stage (try_of before p stage None)
spare_checked before p stage = (None, refl)

unchecked : (before : ℕ) (p : Psn) (stage : Stage) → IsSpareCheck before p stage [] → ⊥
unchecked before p stage (found, is) = cc

-- a commit whole, and one cut off in its second record
committed : (m : DefectMap) (pairs : List Pair) → IsCommit m pairs (map Wrote (records_of (next_map m pairs)))
committed m pairs = inl refl

cut_off : (m : DefectMap) (pairs : List Pair) (tear : Tear) → IsCommit m pairs
    (Wrote (map_record (next_map m pairs) 0 0) ∷ Torn (map_record (next_map m pairs) 0 1) tear ∷ Cut ∷ [])
unfolding records_of
cut_off m pairs tear = inr (1, map_record (next_map m pairs) 0 1, tear, refl, refl)

-- a sector that no stage found reads as nothing, and one that the first found isn't tried again
none_found : (before : ℕ) (p : Psn) (stage : Stage) → AreTries before p (stage ∷ []) None (try_of before p stage None)
none_found before p stage = inr ([], refl, (refl, refl))

first_found : (before : ℕ) (p : Psn) (first second : Stage) (payload : Payload)
    → AreTries before p (first ∷ second ∷ []) (Some payload) (try_of before p first (Some payload))
first_found before p first second payload = inl (payload, refl, refl)

found_by_none : (before : ℕ) (p : Psn) (payload : Payload) → AreTries before p [] (Some payload) [] → ⊥
found_by_none before p payload (nothing, is) = cc
