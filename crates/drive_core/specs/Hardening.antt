-- When a command hardens a dirty block, and where it stands then.
use Rattle.std.specs.Prelude.{◌≡◌, ℕ, IsTrue, List, [], ◌∷◌, if◌then◌else◌, nat_lt, IsSome, Some}
use Rattle.disk_base.specs.declared.address.Lba.{Lba}
use Rattle.write_cache.specs.Contents.{newest}
use Rattle.cdb_reader.specs.declared.plan.Plan.{Plan}
use Rattle.cdb_reader.specs.declared.plan.Plan.TheVariants.{Syncing}
use Rattle.command_engine.specs.declared.answer.Answer.TheVariants.{Hardened, NextDirty}
use Rattle.command_engine.specs.Course.{Course}
use Rattle.command_engine.specs.Answers.{fits, after}
use Rattle.block_machine.specs.declared.entry.Entry.{Entry}
use Rattle.block_machine.specs.declared.entry.Entry.TheVariants.{Passed}
use Rattle.drive_core.specs.declared.server.Server.{Server}
use Rattle.drive_core.specs.Accepting.{under_way}
use Rattle.drive_scene.specs.Evidence.{lba}
use Rattle.drive_scene.specs.Holds.{needed_block}
use Rattle.drive_core.specs.Moves.{MayWork}
use Rattle.drive_scene.specs.Scene.{Scene}

-- where a command stands once it met a block dirty and the block was hardened
abbrev pub hardened_at : Lba → Course → Course
hardened_at b w = after (after w (NextDirty (Some b))) Hardened

-- that a command passes over the blocks from one to below another, where there are any
abbrev pub passed_to : ℕ → Lba → Lba → List Entry
passed_to c from to = if nat_lt from.0 to.0 then Passed c from to ∷ [] else []

-- what a command does in a turn before it hardens a block: a sync passes over the blocks before that
abbrev pub done_before : ℕ → Lba → Plan → List Entry
done_before c b (Syncing y) = passed_to c (lba y.at) b
done_before c b plan = []

-- work on a command isn't refused, the block that it needs next is dirty, and these entries come before the block is hardened
pub record MayHardenFor (s : Scene) (d : Server) (c : ℕ) (b : Lba) (entries : List Entry) : Type 0 where
  pub may : MayWork s d c
  pub course : Course
  pub under_way : under_way d.commands.items c ≡ Some course
  pub fit : IsTrue (fits course (NextDirty (Some b)))
  pub needed : needed_block s c ≡ Some b.0
  pub dirty : IsSome (newest b d.store.cache)
  pub before : entries ≡ done_before c b course.plan
