-- The block that a command needs next, and the one that it holds, as its need says them.
use Rattle.std.specs.Prelude.{◌≡◌, ◌||◌, nat_lt, Bool, if◌then◌else◌, [], Option, Some, None, IfSome}
use Rattle.disk_base.specs.declared.address.Lba.{Lba}
use Rattle.write_cache.specs.Contents.{Contents, dirty_within, IsLeast}
use Rattle.command_engine.specs.declared.need.Need.{Need}
use Rattle.command_engine.specs.declared.need.Need.TheVariants as need

-- the least dirty block of a cache from one address to below another, where there is one
pub record IsFirstWithin (cache : Contents) (from to : Lba) (first : Option Lba) : Type 0 where
  pub none : first ≡ None → dirty_within from to cache ≡ []
  pub least : IfSome first (IsLeast (dirty_within from to cache))

-- the block that a need is about
abbrev pub IsNeeded : Contents → Need → Option Lba → Type 0
IsNeeded cache (need.Take b medium stage) first = first ≡ Some b
IsNeeded cache (need.Put b) first = first ≡ Some b
IsNeeded cache (need.PutThrough b) first = first ≡ Some b
IsNeeded cache (need.Harden b) first = first ≡ Some b
IsNeeded cache (need.Pass from to) first = IsFirstWithin cache from to first
IsNeeded cache (need.Move b why) first = first ≡ Some b
IsNeeded cache need.Page first = first ≡ None
IsNeeded cache need.Nothing first = first ≡ None

-- the block that is held: it is needed by a stage past the first, or since it was hardened
abbrev pub held_of : Bool → Need → Option Lba
held_of hardened (need.Take b medium stage) = if nat_lt 0 stage.number || hardened then Some b else None
held_of hardened other = None
