-- The value that a move carries, and what its commit tells of the block, be it done or cut off.
use Rattle.std.specs.Prelude.{◌≡◌, ℕ, IsSome, false, List, [], ◌∷◌, ◌++◌, Option, Some, None}
use Rattle.disk_base.specs.declared.address.Lba.{Lba}
use Rattle.disk_base.specs.declared.block.Value.{Value}
use Rattle.disk_base.specs.declared.block.Value.TheVariants.{Data, Lost}
use Rattle.disk_base.specs.declared.stage.MoveWhy.{MoveWhy}
use Rattle.disk_base.specs.declared.stage.MoveWhy.TheVariants as why
use Rattle.block_machine.specs.declared.entry.Who.{Who}
use Rattle.block_machine.specs.declared.entry.Who.TheVariants as who
use Rattle.block_machine.specs.declared.entry.Entry.{Entry}
use Rattle.block_machine.specs.declared.entry.Entry.TheVariants.{Put, GiveUp, Harden, Cut}
use Rattle.block_machine.specs.Blocks.{Blocks, is_dirty, newest}

-- what the history says of the value that a move carries: a block that was found, or given up, isn't dirty; a dirty one is moved with its
-- newest value; and a write whose sector failed brings new data
abbrev pub IsValueOf : Blocks → MoveWhy → Lba → Value → Type 0
IsValueOf blocks why.Heavy b v = is_dirty (blocks b.0) ≡ false
IsValueOf blocks why.Reassign b v = is_dirty (blocks b.0) ≡ false
IsValueOf blocks why.Dirty b v = newest (blocks b.0) ≡ Some v
IsValueOf blocks why.GivenUp b v = (is_dirty (blocks b.0) ≡ false) × (v ≡ Lost)
IsValueOf blocks why.Write b v = (bytes : List ℕ) × (v ≡ Data bytes)

-- a value that was found is what is stored for the block
abbrev pub IsAsStored : MoveWhy → Value → Value → Type 0
IsAsStored why.Heavy v stored = v ≡ stored
IsAsStored why.Reassign v stored = v ≡ stored
IsAsStored other v stored = Unit {0}

-- a move of a block carries this value, by what the history has of the block and what is stored for it
abbrev pub IsCarried : Blocks → MoveWhy → Lba → Value → Value → Type 0
IsCarried blocks why b v stored = IsValueOf blocks why b v × IsAsStored why v stored

-- new data are put by the command that opened the move, which is in
abbrev pub HasOwner : MoveWhy → Option ℕ → Type 0
HasOwner why.Write owner = IsSome owner
HasOwner other owner = Unit {0}

-- who hardens: the command that opened the move while it is in, else the drive
abbrev pub hardener : Option ℕ → Who
hardener None = who.Drive
hardener (Some c) = who.Command c

-- new data are put, and a block that the stages gave up is given up
abbrev pub taken_up : MoveWhy → Option ℕ → Lba → Value → List Entry
taken_up why.Write (Some c) b (Data bytes) = Put c b bytes ∷ []
taken_up why.GivenUp owner b v = GiveUp b ∷ []
taken_up other owner b v = []

-- a value that was found is where it was, so nothing is hardened
abbrev pub made_hard : MoveWhy → Option ℕ → Lba → List Entry
made_hard why.Heavy owner b = []
made_hard why.Reassign owner b = []
made_hard other owner b = Harden (hardener owner) b ∷ []

-- the entries of a commit that is done
abbrev pub commit_entries : MoveWhy → Option ℕ → Lba → Value → List Entry
commit_entries why owner b v = taken_up why owner b v ++ made_hard why owner b

-- the entries of a commit that is cut off
abbrev pub cut_entries : MoveWhy → Option ℕ → Lba → Value → List Entry
cut_entries why owner b v = taken_up why owner b v ++ Cut ∷ []
