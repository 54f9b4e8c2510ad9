-- The blocks that marks name.
use Rattle.std.specs.Prelude.{ℕ, ◌+◌, ◌==◌, Bool, if◌then◌else◌, List, [], ◌∷◌, ◌++◌, fold, Option, Some, None}
use Rattle.std.specs.List.{list_any}
use Rattle.std.specs.Option.{option_map_or}
use Rattle.disk_base.specs.declared.address.Lba.{Lba}
use Rattle.run_picture.specs.declared.event.Event.{Event}
use Rattle.run_picture.specs.declared.event.Event.TheVariants.{Got, Missed, Wrote, Hardened, GivenUp}
use Rattle.run_picture.specs.declared.spans.Subject.{Subject}
use Rattle.run_picture.specs.declared.spans.Subject.TheVariants.{Dirty}
use Rattle.run_picture.specs.declared.marks.Mark.{Mark}
use Rattle.run_picture.specs.declared.marks.Mark.TheVariants.{At, Over}

-- the block whose value an event gets, changes, hardens or gives up
abbrev pub block_of_event : Event → Option Lba
block_of_event (Got c b) = Some b
block_of_event (Missed c b) = Some b
block_of_event (Wrote c b) = Some b
block_of_event (Hardened who b) = Some b
block_of_event (GivenUp b) = Some b
block_of_event other = None

-- the block that is dirty
abbrev pub block_of_subject : Subject → Option Lba
block_of_subject (Dirty b) = Some b
block_of_subject other = None

-- the block that a mark names
abbrev pub block_of : Mark → Option Lba
block_of (At p) = block_of_event p.event
block_of (Over s) = block_of_subject s.subject

-- the block is among these
abbrev pub is_in : Lba → List Lba → Bool
is_in b blocks = list_any (λ a. a.0 == b.0) blocks

-- blocks with this one at their end, unless it is among them
abbrev pub with_block : Lba → List Lba → List Lba
with_block b blocks = if is_in b blocks then blocks else blocks ++ b ∷ []

-- blocks with that of a mark
abbrev pub with_mark : List Lba → Mark → List Lba
with_mark blocks mark = option_map_or (λ b. with_block b blocks) (block_of mark) blocks

-- the blocks that marks name, each once, the one that is named first in front
abbrev pub blocks_of : List Mark → List Lba
blocks_of marks = fold with_mark [] marks

-- how many blocks stand before this one
abbrev pub place_of : Lba → List Lba → ℕ
place_of b [] = 0
place_of b (a ∷ blocks) = if a.0 == b.0 then 0 else place_of b blocks + 1
