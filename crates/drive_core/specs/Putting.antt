-- Which block's new data a command puts, and where they go.
use Rattle.std.specs.Prelude.{◌≡◌, ◌⊎◌, ℕ, List, Some}
use Rattle.disk_base.specs.declared.address.Lba.{Lba}
use Rattle.write_cache.specs.Contents.{IsFullFor}
use Rattle.command_engine.specs.declared.need.Need.{Need}
use Rattle.command_engine.specs.declared.need.Need.TheVariants as need
use Rattle.command_engine.specs.Course.{Course, next_block}
use Rattle.command_engine.specs.Need.{need_of}
use Rattle.command_engine.specs.Standing.{IsCourse}
use Rattle.drive_core.specs.declared.accepted.Accepted.{Accepted}
use Rattle.drive_core.specs.declared.server.Server.{Server}
use Rattle.drive_core.specs.Accepting.{under_way}

-- a started command needs this, and these are the data of its next block
pub record NeedsPut (commands : List Accepted) (c : ℕ) (need : Need) (bytes : List ℕ) : Type 0 where
  pub work : Course
  pub under_way : under_way commands c ≡ Some work
  pub need_is : need_of work ≡ need
  pub stands : IsCourse work
  pub block : next_block work.plan ≡ bytes

-- a block's new data are to go to its place: the command writes through, or the cache is full
abbrev pub GoesThrough : Server → ℕ → Lba → List ℕ → Type 0
GoesThrough d c b bytes =
    NeedsPut d.commands.items c (need.PutThrough b) bytes ⊎ (NeedsPut d.commands.items c (need.Put b) bytes × IsFullFor b d.store.cache)
