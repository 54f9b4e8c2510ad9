-- Small cases of the definitions.
use Rattle.std.proofs.Common.{◌≡◌, ◌≢◌, ℕ, ◌+◌, List, [], ◌∷◌, length, Some, None, refl, inl, inr}
use Rattle.disk_base.specs.declared.address.Lba.{Lba}
use Rattle.disk_base.specs.declared.address.Psn.{Psn}
use Rattle.disk_base.specs.declared.block.Value.TheVariants.{Data, Lost}
use Rattle.disk_base.specs.Payload.{user_payload, lost_payload}
use Rattle.geometry_map.specs.DefectMap.{DefectMap}
use Rattle.platter_model.specs.declared.answer.WriteAnswer.TheVariants.{Written}
use Rattle.sector_store.specs.declared.answer.TryAnswer.TheVariants as answer
use Rattle.sector_store.specs.declared.answer.StoreAnswer.TheVariants as store_answer
use Rattle.sector_store.specs.Maps.{next_map, records_of}
use Rattle.sector_store.specs.Factory.{block_at}
use Rattle.sector_store.specs.Stored.{value_in, stored, IsLeft}
use Rattle.sector_store.specs.State.{try_answer, answer_by}

-- a block's own data are its value; those of another block, a lost mark and nothing at all are not
own_data : (p : Psn) (bytes : List ℕ) → value_in (block_at 4) (Some (user_payload p (block_at 4) bytes)) ≡ Data bytes
own_data p bytes = refl

data_of_another : (p : Psn) (bytes : List ℕ) → value_in (block_at 4) (Some (user_payload p (block_at 5) bytes)) ≡ Lost
data_of_another p bytes = refl

lost_mark : (p : Psn) → value_in (block_at 4) (Some (lost_payload p (block_at 4))) ≡ Lost
lost_mark p = refl

never_written : (m : DefectMap) (b : Lba) → stored m [] b ≡ Lost
never_written m b = refl

-- a lost mark is found, and is not nothing
found_mark : (p : Psn) → try_answer (block_at 4) (Some (lost_payload p (block_at 4))) ≡ answer.Found Lost
found_mark p = refl

found_nothing : try_answer (block_at 4) None ≡ answer.Nothing
found_nothing = refl

found_something : (p : Psn) → try_answer (block_at 4) (Some (lost_payload p (block_at 4))) ≢ answer.Nothing
found_something p same = cc

-- a write that is carried out is not a fault
written : answer_by Written ≢ store_answer.Fault
written same = cc

-- a torn write leaves no third block's data
torn : IsLeft (Data (1 ∷ [])) (Data (2 ∷ [])) (Data (3 ∷ [])) → ⊥
torn (inl old) = cc
torn (inr (inl new)) = cc
torn (inr (inr lost)) = cc

-- a commit takes the next number to the other slot, in eight writes
committed : (m : DefectMap) → (next_map m []).number ≡ m.number + 1
committed m = refl

in_eight_writes : (m : DefectMap) → length (records_of m) ≡ 8
unfolding records_of
in_eight_writes m = refl
