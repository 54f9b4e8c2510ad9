-- How a commit changes a store.
use Rattle.std.specs.Prelude.{◌≡◌, ◌⊎◌, ◌↔◌, ℕ, ◌<◌, ◌≤◌, true, false, List, ◌++◌, map, Some}
use Rattle.disk_base.specs.declared.address.Psn.{Psn}
use Rattle.platter_model.specs.declared.op.Op.{Op}
use Rattle.platter_model.specs.declared.op.Op.TheVariants.{Wrote}
use Rattle.platter_model.specs.Sector.{meant}
use Rattle.platter_model.specs.TrueLog.{is_off, strays}
use Rattle.geometry_map.specs.DefectMap.{DefectMap}
use Rattle.map_generations.specs.SafeMaps.{SafeMaps, NumbersUpTo}
use Rattle.sector_store.specs.declared.answer.CommitAnswer.{CommitAnswer}
use Rattle.sector_store.specs.declared.answer.CommitAnswer.TheVariants.{Done, Off}
use Rattle.sector_store.specs.Maps.{meant_on, records_of}
use Rattle.sector_store.specs.Shapes.{AreWrites}
use Rattle.sector_store.specs.Writing.{after_writes, IsDueWithin}
use Rattle.sector_store.specs.State.{Contained, kept_of, IsReady}

-- a store after a commit of a map that was done, and after one that was cut off
abbrev pub committed : Contained → DefectMap → Contained
committed s next = record s { map = next; platter = after_writes s.platter (records_of next) }

abbrev pub cut_off : Contained → DefectMap → Contained
cut_off s next = record s { next = Some next; ready = false; platter = after_writes s.platter (records_of next) }

-- a commit was done: all records are written, and the store is ready by the next map
pub record IsCommitted (s : Contained) (next : DefectMap) (after : Contained) : Type 0 where
  pub is : after ≡ committed s next
  pub written : after.platter.ops ≡ s.platter.ops ++ map Wrote (records_of next)
  pub ready : IsReady after

-- a commit was cut off: some records are written, the last of them torn, and the store isn't ready and keeps both maps
pub record IsCommitCut (s : Contained) (next : DefectMap) (after : Contained) : Type 0 where
  pub is : after ≡ cut_off s next
  pub more : List Op
  pub written : after.platter.ops ≡ s.platter.ops ++ more
  pub writes : AreWrites (records_of next) more
  pub off : is_off after.platter.ops ≡ true

-- whatever bound is above the store's number, and on the numbers that are meant, is one still
abbrev pub KeepsNumbers : Contained → Contained → Type 0
KeepsNumbers s after = (n : ℕ) → s.map.number < n → NumbersUpTo (meant_on s.platter.ops) n → NumbersUpTo (meant_on after.platter.ops) n

-- nothing changes but on the sectors of the maps
abbrev pub KeepsReserved : Contained → Contained → Type 0
KeepsReserved s after = (p : Psn) → 16 ≤ p.0 → meant p after.platter.ops ≡ meant p s.platter.ops

-- the maps that a store keeps are safe
abbrev pub AreSafe : Contained → Type 0
AreSafe s = strays s.platter.ops ≡ 0 → SafeMaps (meant_on s.platter.ops) (kept_of s)

-- what a commit of a map comes to while the power is on
pub record Commits (s : Contained) (next : DefectMap) (answer : CommitAnswer) (after : Contained) : Type 0 where
  pub done : answer ≡ Done → IsCommitted s next after
  pub off : answer ≡ Off → IsCommitCut s next after
  pub due : (answer ≡ Off) ↔ IsDueWithin 8 s.platter.armed
  pub reserved : KeepsReserved s after
  pub safe : AreSafe after
  pub numbers : KeepsNumbers s after
