-- What holds of a started command wherever it stands.
use Rattle.std.specs.Prelude.{◌≡◌, ℕ, ◌+◌, ◌*◌, ◌-◌, ◌^◌, ◌<◌, ◌≤◌, true, false, IsTrue, [], length, Option, Some, None}
use Rattle.read_recovery.specs.Stages.{Progress}
use Rattle.cdb_reader.specs.declared.plan.Reading as reading
use Rattle.cdb_reader.specs.declared.plan.Writing as writing
use Rattle.cdb_reader.specs.declared.plan.Syncing as syncing
use Rattle.cdb_reader.specs.declared.plan.Moving as moving
use Rattle.cdb_reader.specs.declared.plan.Plan.{Plan}
use Rattle.cdb_reader.specs.declared.plan.Plan.TheVariants.{Ending, Unread, Answering, Reading, Writing, Syncing, Moving}
use Rattle.cdb_reader.specs.Read.{has_length, block_length}
use Rattle.cdb_reader.specs.Reassign.{descriptors_at_most}
use Rattle.command_engine.specs.declared.step.Recovery.{Recovery}
use Rattle.command_engine.specs.declared.step.Step.{Step}
use Rattle.command_engine.specs.declared.step.Step.TheVariants as step
use Rattle.command_engine.specs.declared.step.Step.TheVariants.{Trying, Hardening, Faulted, Spareless}
use Rattle.command_engine.specs.Course.{Course}
use Rattle.command_engine.specs.Need.{end_of_list}

-- a read that no stage has found yet, and one is left
pub record IsTried (retry : ℕ) (p : Progress) : Type 0 where
  pub by : p.retry ≡ retry
  pub unfound : p.found ≡ false
  pub left : p.failed < retry + 5

abbrev pub IsTriedBy : ℕ → Step → Type 0
IsTriedBy retry (Trying progress) = IsTried retry progress
IsTriedBy retry other = Unit {0}

-- a block is left; only a list of blocks comes to moves
abbrev pub IsLeft : Step → ℕ → ℕ → Type 0
IsLeft (Trying progress) at end = at ≤ end
IsLeft Hardening at end = at < end
IsLeft Faulted at end = at < end
IsLeft other at end = ⊥

-- the block that comes next is to be hardened, or was, only where a verification or FUA asks for it
abbrev pub IsThrough : Step → reading.Reading → Type 0
IsThrough (Trying progress) r = Unit {0}
IsThrough Hardening r = (r.through ≡ true) × (r.hardened ≡ false)
IsThrough Faulted r = r.through ≡ true
IsThrough other r = ⊥

pub record IsReading (retry : ℕ) (step : Step) (r : reading.Reading) : Type 0 where
  pub tried : IsTriedBy retry step
  pub left : IsLeft step r.at r.end
  pub addresses : r.end ≤ 2 ^ 32
  pub through : IsThrough step r

-- a write hardens a block in the turn that puts it
abbrev pub IsUnhardened : Step → Type 0
IsUnhardened (Trying progress) = Unit {0}
IsUnhardened Hardening = ⊥
IsUnhardened Faulted = Unit {0}
IsUnhardened other = ⊥

pub record IsWriting (retry : ℕ) (step : Step) (w : writing.Writing) : Type 0 where
  pub tried : IsTriedBy retry step
  pub reached : w.from ≤ w.at
  pub left : IsLeft step w.at w.end
  pub addresses : w.end ≤ 2 ^ 32
  pub hardened : w.owes_harden ≡ false
  pub unhardened : IsUnhardened step
  pub verified : w.verifies ≡ true → w.at < w.end
  pub data_length : IsTrue (has_length w.sent (block_length * (w.end - w.from)))

pub record IsSyncing (retry : ℕ) (step : Step) (s : syncing.Syncing) : Type 0 where
  pub tried : IsTriedBy retry step
  pub left : IsLeft step s.at s.end
  pub addresses : s.end ≤ 2 ^ 32

-- a descriptor of a list is left; a list of blocks is neither hardened nor written at their places
abbrev pub IsLeftToMove : Step → ℕ → ℕ → Type 0
IsLeftToMove (Trying progress) moved count = moved ≤ count
IsLeftToMove (step.Moving why) moved count = moved < count
IsLeftToMove Spareless moved count = moved < count
IsLeftToMove other moved count = ⊥

-- the blocks up to the last that was hardened are moved, of these any number may be found ones
pub record IsMoving (retry moved : ℕ) (step : Step) (m : moving.Moving) : Type 0 where
  pub tried : IsTriedBy retry step
  pub hardened : m.hardened ≤ moved
  pub left : IsLeftToMove step moved (length m.blocks)
  pub count : length m.blocks ≤ descriptors_at_most
  pub addresses : end_of_list m.blocks ≤ 2 ^ 32

abbrev pub IsUnderWay : ℕ → Plan → ℕ → Step → Type 0
IsUnderWay retry (Ending reply) moved step = IsTriedBy retry step
IsUnderWay retry (Unread b) moved step = IsTriedBy retry step × (b < 2 ^ 32)
IsUnderWay retry (Answering bytes reply) moved step = IsTriedBy retry step × (bytes ≡ [])
IsUnderWay retry (Reading r) moved step = IsReading retry step r
IsUnderWay retry (Writing w) moved step = IsWriting retry step w
IsUnderWay retry (Syncing s) moved step = IsSyncing retry step s
IsUnderWay retry (Moving m) moved step = IsMoving retry moved step m
IsUnderWay retry plan moved step = ⊥

-- the block that comes next has an address, and the descriptors of a list are few
abbrev pub IsWithin : Plan → ℕ → Type 0
IsWithin (Reading r) moved = r.at ≤ 2 ^ 32
IsWithin (Writing w) moved = w.at ≤ 2 ^ 32
IsWithin (Syncing s) moved = s.at ≤ 2 ^ 32
IsWithin (Moving m) moved = (m.hardened ≤ moved) × (moved ≤ descriptors_at_most)
IsWithin plan moved = Unit {0}

-- the address of a recovered block fits sense data
abbrev pub IsNamed : Option Recovery → Type 0
IsNamed None = Unit {0}
IsNamed (Some recovery) = recovery.b.0 < 2 ^ 32

-- what holds of a command wherever it stands
pub record IsCourse (c : Course) : Type 0 where
  pub retry : c.settings.retry ≤ 20
  pub under_way : IsUnderWay c.settings.retry c.plan c.moved c.step
  pub recovered : IsNamed c.recovered
