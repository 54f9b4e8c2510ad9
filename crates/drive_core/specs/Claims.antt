-- What the commands of the set claim of the blocks, and what a claim is refused for.
use Rattle.std.specs.Prelude.{ℕ, ◌+◌, ◌==◌, ◌&&◌, not, if◌then◌else◌, Bool, false, List, map, filter, find, Option}
use Rattle.std.specs.Option.{option_map, option_map_or, option_and_then, is_some}
use Rattle.disk_base.specs.declared.address.Lba.{Lba}
use Rattle.drive_scene.specs.Scene.{Scene}
use Rattle.drive_scene.specs.Holds.{held_block, needed_block}
use Rattle.drive_scene.specs.Evidence.{lba}
use Rattle.drive_scene.specs.declared.event.Holder.{Holder}
use Rattle.drive_scene.specs.declared.event.Holder.TheVariants.{Command}
use Rattle.drive_scene.specs.declared.answer.TurnAnswer.{TurnAnswer}
use Rattle.drive_scene.specs.declared.answer.TurnAnswer.TheVariants.{Held}
use Rattle.drive_core.specs.declared.able.Claim.{Claim}
use Rattle.write_cache.specs.Contents.{is_at}

-- the block that a command needs next, and the one that it holds
abbrev pub claim_of : Scene → ℕ → Claim
claim_of s c = record { c = c; needs = option_map lba (needed_block s c); holds = option_map lba (held_block s c) }

-- the claims of the set, by age
abbrev pub claims_of : Scene → List Claim
claims_of s = map (λ m. claim_of s m.task.c) s.hist.set

-- one more of the commands is older than the next of the set, where the command at this place is the next of them
abbrev pub older_after : ℕ → Option ℕ → ℕ
older_after older place = option_map_or (λ i. if i == older then older + 1 else older) place older

-- a block is held by the claim
abbrev pub is_holder : Claim → Bool
is_holder claim = is_some claim.holds

-- the claim holds this block
abbrev pub is_held_by : Lba → Claim → Bool
is_held_by b claim = option_map_or (is_at b) claim.holds false

-- the claims by which blocks are held, by age
abbrev pub holders_of : Scene → List Claim
holders_of s = filter is_holder (claims_of s)

-- a claim holds this block, and isn't this command's
abbrev pub keeps_from : ℕ → Lba → Claim → Bool
keeps_from c b claim = not (claim.c == c) && option_map_or (λ held. held.0 == b.0) claim.holds false

-- who else than a command holds a block: the oldest that does
abbrev pub holder_besides : List Claim → ℕ → Lba → Option Holder
holder_besides holders c b = option_map (λ claim. Command claim.c) (find (keeps_from c b) holders)

-- the refusal of a claim whose next block is held by another
abbrev pub held_back : List Claim → Claim → Option TurnAnswer
held_back holders claim = option_and_then (λ b. option_map (Held b) (holder_besides holders claim.c b)) claim.needs
