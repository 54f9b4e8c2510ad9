-- What a move needs before its commit, and what stands after it, be it done or cut off.
use Rattle.std.specs.Prelude.{◌≡◌, ◌≢◌, ℕ, ◌<◌, ◌≤◌, IsTrue, List, [], fold, All, Option, Some}
use Rattle.disk_base.specs.declared.address.Lba.{Lba}
use Rattle.disk_base.specs.declared.address.Psn.{Psn}
use Rattle.platter_model.specs.declared.op.Op.{Op}
use Rattle.platter_model.specs.Sector.{meant}
use Rattle.geometry_map.specs.Size.{capacity_of}
use Rattle.geometry_map.specs.DefectMap.{DefectMap, IsValidMap, place_of}
use Rattle.geometry_map.specs.Chains.{IsChain, IsFreeSpare}
use Rattle.move_jobs.specs.Job.{Job, spare_of}
use Rattle.sector_store.specs.Maps.{next_map}
use Rattle.sector_store.specs.Shapes.{payload_on}
use Rattle.sector_store.specs.Stored.{stored}
use Rattle.block_machine.specs.Blocks.{Blocks, blocks_after}
use Rattle.block_machine.specs.Turns.{blocks_lawful}
use Rattle.drive_scene.specs.GoodTurn.{IsAllowed}
use Rattle.drive_scene.specs.Carried.{IsCarried, HasOwner, commit_entries, cut_entries}

-- a move is ready for its commit, by the map before it, the operations so far, the blocks of the history, and its owner where that is in:
-- its chain goes from the block's place to free spares, the last of which carries its value; what is stored stands
pub record IsReadyToCommit (m : DefectMap) (ops : List Op) (blocks : Blocks) (owner : Option ℕ) (job : Job) : Type 0 where
  pub valid : IsValidMap m
  pub below : job.b.0 < capacity_of m.size
  pub chain_is : IsChain (place_of m job.b) job.chain
  pub begun : job.chain ≢ []
  pub spares : All (λ pair. IsFreeSpare m pair.new) job.chain
  pub written : meant (spare_of job) ops ≡ Some (payload_on (spare_of job) job.b job.value)
  pub stands : (q : Lba) → q.0 < capacity_of m.size → IsAllowed blocks q (stored m ops q)
  pub carried : IsCarried blocks job.why job.b job.value (stored m ops job.b)
  pub owned : HasOwner job.why owner

-- the blocks after a commit that is done, and after one that is cut off
abbrev pub blocks_committed : Blocks → Option ℕ → Job → Blocks
blocks_committed blocks owner job = fold blocks_after blocks (commit_entries job.why owner job.b job.value)

abbrev pub blocks_cut : Blocks → Option ℕ → Job → Blocks
blocks_cut blocks owner job = fold blocks_after blocks (cut_entries job.why owner job.b job.value)

-- what stands after operations that a commit ended: done, each block may have what the next map has for it; cut off, what either map
-- has. In both cases the blocks allow what is told
pub record StandsAfter (m : DefectMap) (after : List Op) (blocks : Blocks) (owner : Option ℕ) (job : Job) : Type 0 where
  pub lawful : IsTrue (blocks_lawful (capacity_of m.size) blocks (commit_entries job.why owner job.b job.value))
  pub done : (q : Lba) → q.0 < capacity_of m.size → IsAllowed (blocks_committed blocks owner job) q (stored (next_map m job.chain) after q)
  pub cut_lawful : IsTrue (blocks_lawful (capacity_of m.size) blocks (cut_entries job.why owner job.b job.value))
  pub cut_old : (q : Lba) → q.0 < capacity_of m.size → IsAllowed (blocks_cut blocks owner job) q (stored m after q)
  pub cut_new : (q : Lba) → q.0 < capacity_of m.size → IsAllowed (blocks_cut blocks owner job) q (stored (next_map m job.chain) after q)

-- what is ready to be committed stands after the commit, which writes to sectors of the maps alone
abbrev pub CommitTurnsStand : Type 0
CommitTurnsStand = (m : DefectMap) (ops after : List Op) (blocks : Blocks) (owner : Option ℕ) (job : Job)
    → ((p : Psn) → 16 ≤ p.0 → meant p after ≡ meant p ops) → IsReadyToCommit m ops blocks owner job → StandsAfter m after blocks owner job
