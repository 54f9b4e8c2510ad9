-- One block on the cache and on its sector: how its value is found, and how its data come into the cache and to their place.
use Rattle.std.specs.Prelude.{◌≡◌, ◌≢◌, ◌⊎◌, ℕ, ◌-◌, ◌==◌, ◌&&◌, not, Bool, true, false, if◌then◌else◌, List, Option, Some, None}
use Rattle.std.specs.Map.{remove_entry}
use Rattle.std.specs.Option.{option_map, option_map_or}
use Rattle.disk_base.specs.declared.address.Lba.{Lba}
use Rattle.disk_base.specs.declared.block.Value.{Value}
use Rattle.disk_base.specs.declared.block.Value.TheVariants.{Data}
use Rattle.disk_base.specs.declared.payload.Payload.{Payload}
use Rattle.disk_base.specs.declared.stage.Stage.{Stage}
use Rattle.platter_model.specs.declared.damage.Arming.{Arming}
use Rattle.platter_model.specs.declared.op.Op.TheVariants.{Wrote, WriteFailed}
use Rattle.platter_model.specs.State.{State, tried, with_op, torn}
use Rattle.platter_model.specs.TrueLog.{is_off, strays}
use Rattle.geometry_map.specs.DefectMap.{place_of}
use Rattle.write_cache.specs.declared.cache.Look.{Look}
use Rattle.write_cache.specs.declared.cache.Look.TheVariants.{Dirty, Clean, Absent}
use Rattle.write_cache.specs.Contents.{Contents, is_at, newest, clean_data, after_look, put_data, with_clean}
use Rattle.sector_store.specs.declared.answer.TryAnswer.{TryAnswer}
use Rattle.sector_store.specs.declared.answer.TryAnswer.TheVariants.{Found}
use Rattle.sector_store.specs.declared.caching.Search.{Search}
use Rattle.sector_store.specs.Stored.{stored, KeepsBlocks}
use Rattle.sector_store.specs.State.{Contained, try_answer, placed}

-- what a look finds of a block: the newest data of a dirty one, or those of a clean one where RCD is 0
abbrev pub seen_at : Bool → Lba → Contents → Look
seen_at rcd b c = option_map_or Dirty (newest b c) (if rcd then Absent else option_map_or Clean (clean_data b c) Absent)

-- a block is kept clean with these data, the most recent, unless memory is missing: then nothing changes
abbrev pub KeepsClean : Lba → List ℕ → Contents → Contents → Type 0
KeepsClean b bytes old new = (new ≡ with_clean b bytes old) ⊎ ((new ≡ old) × (clean_data b old ≡ None))

-- data that a stage found are kept clean where that is asked for, and nothing else changes the cache
abbrev pub KeepsFound : Bool → Lba → TryAnswer → Contents → Contents → Type 0
KeepsFound true b (Found (Data bytes)) old new = KeepsClean b bytes old new
KeepsFound keeps b answer old new = new ≡ old

-- a stage tried a block that isn't dirty
pub record IsStageTried (old : Contained) (b : Lba) (stage : Stage) (keeps : Bool) (answer : TryAnswer) (new : Contained) : Type 0 where
  pub found : Option Payload
  pub answered : answer ≡ try_answer b found
  pub undirty : newest b old.cache ≡ None
  pub after : new ≡ record old { cache = new.cache; platter = tried old.platter (place_of old.map b) stage found }
  pub cache : KeepsFound keeps b answer old.cache new.cache
  pub stored : (v : Value) → answer ≡ Found v → strays new.platter.ops ≡ strays old.platter.ops → v ≡ stored old.map old.platter.ops b
  pub keeps_blocks : old.ready ≡ true → KeepsBlocks old.map old.platter.ops new.platter.ops

-- a block that wasn't tried yet may be dirty, where its value need not come from the medium
abbrev pub may_be_dirty : Search → Bool
may_be_dirty q = not q.medium && q.stage.number == 0

-- the cache gives the value: the newest of a dirty block, or a clean one where RCD is 0
pub record IsLooked (old : Contained) (q : Search) (answer : TryAnswer) (new : Contained) : Type 0 where
  pub bytes : List ℕ
  pub answered : answer ≡ Found (Data bytes)
  pub not_medium : q.medium ≡ false
  pub first : q.stage.number ≡ 0
  pub found : (newest q.b old.cache ≡ Some bytes) ⊎ ((clean_data q.b old.cache ≡ Some bytes) × (q.rcd ≡ false))
  pub after : new ≡ record old { cache = after_look q.b old.cache }

-- the cache has nothing to give: the block isn't dirty, and isn't clean where a clean value may be given
pub record IsUngiven (c : Contents) (q : Search) : Type 0 where
  pub undirty : newest q.b c ≡ None
  pub unclean : may_be_dirty q ≡ true → q.rcd ≡ false → clean_data q.b c ≡ None

-- the cache gives the value, or it can't, and a stage tries the block
abbrev pub IsSought : Contained → Search → TryAnswer → Contained → Type 0
IsSought old q answer new = IsLooked old q answer new ⊎ (IsUngiven old.cache q × IsStageTried old q.b q.stage q.keeps answer new)

-- what is clean was clean before, with the same data, and isn't this block
abbrev pub CleanBesides : Lba → Contents → Contents → Type 0
CleanBesides b old new = (q : Lba) (bytes : List ℕ) → clean_data q new ≡ Some bytes → (is_at b q ≡ false) × (clean_data q old ≡ Some bytes)

-- the newest data of each block are as before, but this block's
abbrev pub NewestBut : Lba → Option (List ℕ) → Contents → Contents → Type 0
NewestBut b its old new = (q : Lba) → newest q new ≡ (if is_at b q then its else newest q old)

-- a block is dirty with these data, and isn't clean
pub record TakesIn (b : Lba) (bytes : List ℕ) (old new : Contents) : Type 0 where
  pub dirty : new.dirty ≡ put_data b bytes old.dirty
  pub seen : NewestBut b (Some bytes) old new
  pub clean : CleanBesides b old new

-- a block is neither dirty nor clean
pub record LeavesOut (b : Lba) (old new : Contents) : Type 0 where
  pub dirty : new.dirty ≡ remove_entry (is_at b) old.dirty
  pub seen : NewestBut b None old new
  pub clean : CleanBesides b old new

-- a dirty block with these data isn't dirty any more; it is clean with them, unless memory is missing, and no other block is
-- changed but that it may not be kept clean any more
pub record Settles (old : Contents) (b : Lba) (bytes : List ℕ) (new : Contents) : Type 0 where
  pub ages : new.dirty ≡ remove_entry (is_at b) old.dirty
  pub own : newest b new ≡ None
  pub others : (q : Lba) → q ≢ b → newest q new ≡ newest q old
  pub clean : (q : Lba) (held : List ℕ) → clean_data q new ≡ Some held → ((q ≡ b) × (held ≡ bytes)) ⊎ (clean_data q old ≡ Some held)

-- a block's new data went into the cache, and nothing else changed
pub record IsInCache (b : Lba) (bytes : List ℕ) (old new : Contained) : Type 0 where
  pub after : new ≡ record old { cache = new.cache }
  pub cache : TakesIn b bytes old.cache new.cache

-- a cut that is armed has counted a write
abbrev pub counted : Option Arming → Option Arming
counted armed = option_map (λ (arming : Arming). record arming { k = arming.k - 1 }) armed

-- a platter after a write that was done
abbrev pub written : State → Payload → State
written s payload = record (with_op s (Wrote payload)) { armed = counted s.armed }

-- a block's new data went to its place, and the cache has nothing of the block
pub record IsAtPlace (b : Lba) (bytes : List ℕ) (old new : Contained) : Type 0 where
  pub after : new ≡ record old { cache = new.cache; platter = written old.platter (placed old.map b bytes) }
  pub cache : LeavesOut b old.cache new.cache

-- a dirty block's data went to its place, and the block isn't dirty any more
pub record Hardens (old : Contained) (b : Lba) (bytes : List ℕ) (new : Contained) : Type 0 where
  pub after : new ≡ record old { cache = new.cache; platter = written old.platter (placed old.map b bytes) }
  pub cache : Settles old.cache b bytes new.cache

-- a write to a block's place failed, and nothing else changed
abbrev pub HasFailed : Lba → Contained → Contained → Type 0
HasFailed b old new = new ≡ record old { platter = with_op old.platter (WriteFailed (place_of old.map b)) }

-- a write of a block's data to its place met the power off, and nothing changed, or the armed cut tore it
abbrev pub IsCutOff : Lba → List ℕ → Contained → Contained → Type 0
IsCutOff b bytes old new = ((is_off old.platter.ops ≡ true) × (new ≡ old))
    ⊎ ((arming : Arming) × (old.platter.armed ≡ Some arming) × (arming.k ≡ 1) × (new ≡ record old { platter = torn old.platter (placed old.map b bytes) arming.tear }))
