-- What contracts see of a store, and how its calls change that.
use Rattle.std.specs.Prelude.{◌≡◌, ℕ, ◌<◌, Bool, true, false, List, Option, Some, None}
use Rattle.disk_base.specs.declared.address.Lba.{Lba}
use Rattle.disk_base.specs.declared.address.Psn.{Psn}
use Rattle.disk_base.specs.declared.payload.Payload.{Payload}
use Rattle.disk_base.specs.declared.stage.Stage.{Stage}
use Rattle.disk_base.specs.Payload.{user_payload, value_for}
use Rattle.platter_model.specs.declared.answer.WriteAnswer.{WriteAnswer}
use Rattle.platter_model.specs.declared.answer.WriteAnswer.TheVariants.{Written, Fault, Off}
use Rattle.platter_model.specs.Sector.{is_faulty}
use Rattle.platter_model.specs.TrueLog.{strays}
use Rattle.platter_model.specs.State.{State, made, tried, with_room, after_write}
use Rattle.geometry_map.specs.declared.size.Size.{Size}
use Rattle.geometry_map.specs.Size.{total_of}
use Rattle.geometry_map.specs.DefectMap.{DefectMap, factory_map, place_of, IsValidMap}
use Rattle.map_generations.specs.SafeMaps.{KeptPair, SafeMaps, with_map, alone}
use Rattle.write_cache.specs.Contents.{Contents, empty}
use Rattle.sector_store.specs.declared.answer.TryAnswer.{TryAnswer}
use Rattle.sector_store.specs.declared.answer.TryAnswer.TheVariants as answer
use Rattle.sector_store.specs.declared.answer.StoreAnswer.{StoreAnswer}
use Rattle.sector_store.specs.declared.answer.StoreAnswer.TheVariants as store_answer
use Rattle.sector_store.specs.Factory.{factory_payloads}
use Rattle.sector_store.specs.Maps.{meant_on}
use Rattle.sector_store.specs.Stored.{IsThere}
use Rattle.sector_store.specs.Commits.{IsNextOf}

-- the map by which blocks lie on sectors, the next one where its commit was cut off, whether the store's map is the one that is
-- there, the cache, and the platter
pub record Contained : Type 0 where
  pub map : DefectMap
  pub next : Option DefectMap
  pub ready : Bool
  pub cache : Contents
  pub platter : State

-- the maps that are kept: a map alone, or it and the next one
abbrev pub kept_with : DefectMap → Option DefectMap → KeptPair
kept_with m None = alone m
kept_with m (Some next) = with_map (alone m) next

abbrev pub kept_of : Contained → KeptPair
kept_of s = kept_with s.map s.next

-- a map that is kept beside another follows it
abbrev pub IsFollowedBy : DefectMap → Option DefectMap → Type 0
IsFollowedBy m None = Unit {0}
IsFollowedBy m (Some next) = IsNextOf m next

-- what holds of the maps that a store keeps and of its platter: it has the sectors of the map's drive, those of the maps have no
-- write fault, the map is valid, the next one follows it, a ready store's map is there and alone, and the maps are safe
pub record KeepsMaps (m : DefectMap) (next : Option DefectMap) (ready : Bool) (platter : State) : Type 0 where
  pub sectors : platter.sectors ≡ total_of m.size
  pub sound : (p : Psn) → p.0 < 16 → is_faulty p platter.ops ≡ false
  pub valid : IsValidMap m
  pub follows : IsFollowedBy m next
  pub there : ready ≡ true → IsThere m platter.ops
  pub alone_ready : ready ≡ true → next ≡ None
  pub safe : strays platter.ops ≡ 0 → SafeMaps (meant_on platter.ops) (kept_with m next)

-- what holds of every store
abbrev pub IsStore : Contained → Type 0
IsStore s = KeepsMaps s.map s.next s.ready s.platter

-- a store whose map is there, and no other is kept
pub record IsReady (s : Contained) : Type 0 where
  pub ready : s.ready ≡ true
  pub none : s.next ≡ None
  pub there : IsThere s.map s.platter.ops

-- a store as a factory makes it
abbrev pub made_by_factory : Size → List Psn → Contained
made_by_factory size primary = record {
  map = factory_map size primary;
  next = None;
  ready = true;
  cache = empty;
  platter = made (total_of size) (factory_payloads size primary);
}

-- a store with room for so many more operations
abbrev pub with_room_for : Contained → ℕ → Contained
with_room_for s n = record s { platter = with_room s.platter n }

-- a store after a try of a block's place
abbrev pub after_try : Contained → Lba → Stage → Option Payload → Contained
after_try s b stage found = record s { platter = tried s.platter (place_of s.map b) stage found }

-- how a try of a block is answered: by the value for the block of the payload that was found
abbrev pub try_answer : Lba → Option Payload → TryAnswer
try_answer b None = answer.Nothing
try_answer b (Some payload) = answer.Found (value_for b payload)

-- or that the power is off, where nothing was tried
abbrev pub answer_for : Lba → Option (Option Payload) → TryAnswer
answer_for b None = answer.Off
answer_for b (Some found) = try_answer b found

-- a stage tried a block's place: something or nothing was found, the store notes it, and the answer is by it
pub record IsTry (s : Contained) (b : Lba) (stage : Stage) (answer : TryAnswer) (after : Contained) : Type 0 where
  pub found : Option Payload
  pub noted : after ≡ after_try s b stage found
  pub answered : answer ≡ try_answer b found

-- the payload of a block's data for its place
abbrev pub placed : DefectMap → Lba → List ℕ → Payload
placed m b bytes = user_payload (place_of m b) b bytes

-- a store after a write of a block's data to its place
abbrev pub after_write_of : Contained → Lba → List ℕ → Contained
after_write_of s b bytes = record s { platter = after_write s.platter (place_of s.map b) (placed s.map b bytes) }

-- how a write is answered, by the platter's answer
abbrev pub answer_by : WriteAnswer → StoreAnswer
answer_by Written = store_answer.Done
answer_by Fault = store_answer.Fault
answer_by Off = store_answer.Off
