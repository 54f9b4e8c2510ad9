-- The array of blocks that a history is about: what each may hold, and which entries it allows.
use Rattle.std.specs.Prelude.{ℕ, ◌-◌, ◌==◌, ◌&&◌, Bool, true, false, not, nat_lt, nat_le, if◌then◌else◌, List, [], ◌∷◌, ◌++◌, length, replicate, filter, slice_get, Option}
use Rattle.std.specs.List.{list_any, list_all, range_with_len}
use Rattle.std.specs.Option.{option_map_or}
use Rattle.std.specs.Str.{bytes_eq}
use Rattle.disk_base.specs.At.{put_at}
use Rattle.disk_base.specs.declared.block.Value.{Value}
use Rattle.disk_base.specs.declared.block.Value.TheVariants.{Data, Lost}
use Rattle.block_machine.specs.declared.array.BlockState.{BlockState}
use Rattle.block_machine.specs.declared.entry.Entry.{Entry}
use Rattle.block_machine.specs.declared.entry.Entry.TheVariants.{Get, Put, Harden, Passed, GiveUp, Cut}

-- the state of each block, by its address
abbrev pub Blocks : Type 0
Blocks = ℕ → BlockState

-- a block's data before anything was put: 512 zeros
abbrev pub zeros : Value
zeros = Data (replicate 512 0)

-- the state of a block that has this value on the medium, and nothing newer
abbrev pub hardened_with : Value → BlockState
hardened_with v = record { base = v ∷ []; newer = [] }

-- at first each block has zeros on the medium, and nothing newer
abbrev pub blocks_at_start : Blocks
blocks_at_start b = hardened_with zeros

-- two values are the same: the same bytes, or both lost
abbrev pub same_value : Value → Value → Bool
same_value (Data a) (Data b) = bytes_eq a b
same_value Lost Lost = true
same_value (Data a) Lost = false
same_value Lost (Data b) = false

-- a block is dirty where it has something newer than what is on the medium
abbrev pub is_dirty : BlockState → Bool
is_dirty s = not (length s.newer == 0)

-- the newest value of a dirty block; none where the block isn't dirty
abbrev pub newest : BlockState → Option Value
newest s = slice_get s.newer (length s.newer - 1)

-- the values that a block may turn out to have on the medium: those of base, and of a dirty block also each newer one, or
-- that it is lost
abbrev pub allowed : BlockState → List Value
allowed s = if is_dirty s then s.base ++ s.newer ++ Lost ∷ [] else s.base

-- what a get may bring: of a dirty block its newest value, unless that is lost; of another a value of base, or that the
-- block is bad
abbrev pub may_get : BlockState → Value → Bool
may_get s (Data d) = if is_dirty s then option_map_or (same_value (Data d)) (newest s) false else list_any (same_value (Data d)) s.base
may_get s Lost = not (is_dirty s)

-- the value that a get brought of a block that isn't dirty is from then on the only one that it has; a bad get changes
-- nothing
abbrev pub after_get : BlockState → Value → BlockState
after_get s (Data d) = if is_dirty s then s else hardened_with (Data d)
after_get s Lost = s

-- a value that is put, or that the block is lost, is the newest
abbrev pub after_put : BlockState → Value → BlockState
after_put s v = record s { newer = s.newer ++ v ∷ [] }

-- a harden leaves the newest value on the medium, and nothing newer
abbrev pub after_harden : BlockState → BlockState
after_harden s = option_map_or hardened_with (newest s) s

-- when the power goes off, a dirty block is left with any of the values that it is allowed; another stays as it is
abbrev pub after_cut : BlockState → BlockState
after_cut s = if is_dirty s then record { base = allowed s; newer = [] } else s

-- the blocks after an entry, whether it is lawful or not; entries that aren't named here change no block
abbrev pub blocks_after : Blocks → Entry → Blocks
blocks_after blocks (Get c b v) = put_at b.0 (after_get (blocks b.0) v) blocks
blocks_after blocks (Put c b v) = put_at b.0 (after_put (blocks b.0) (Data v)) blocks
blocks_after blocks (GiveUp b) = put_at b.0 (after_put (blocks b.0) Lost) blocks
blocks_after blocks (Harden who b) = put_at b.0 (after_harden (blocks b.0)) blocks
blocks_after blocks Cut = λ b. after_cut (blocks b)
blocks_after blocks other = blocks

-- no block from one address to below another is dirty
abbrev pub none_dirty : Blocks → ℕ → ℕ → Bool
none_dirty blocks from to = list_all (λ b. not (is_dirty (blocks b))) (range_with_len from (to - from))

-- whether the blocks allow an entry, at a capacity: a get brings what it may, a harden finds its block dirty, a give-up
-- finds it not dirty, and a pass finds no block of its range dirty
abbrev pub block_lawful : ℕ → Blocks → Entry → Bool
block_lawful capacity blocks (Get c b v) = nat_lt b.0 capacity && may_get (blocks b.0) v
block_lawful capacity blocks (Put c b v) = nat_lt b.0 capacity
block_lawful capacity blocks (GiveUp b) = nat_lt b.0 capacity && not (is_dirty (blocks b.0))
block_lawful capacity blocks (Harden who b) = nat_lt b.0 capacity && is_dirty (blocks b.0)
block_lawful capacity blocks (Passed c from to) = nat_le to.0 capacity && none_dirty blocks from.0 to.0
block_lawful capacity blocks other = true

-- addresses with this one at their end, unless it is among them
abbrev pub with_address : ℕ → List ℕ → List ℕ
with_address b addresses = if list_any (λ a. a == b) addresses then addresses else addresses ++ b ∷ []

-- addresses without this one
abbrev pub without_address : ℕ → List ℕ → List ℕ
without_address b addresses = filter (λ a. not (a == b)) addresses

-- the addresses of the dirty blocks after an entry; the block that is dirty for the longest time comes first
abbrev pub dirty_after : List ℕ → Entry → List ℕ
dirty_after dirty (Put c b v) = with_address b.0 dirty
dirty_after dirty (GiveUp b) = with_address b.0 dirty
dirty_after dirty (Harden who b) = without_address b.0 dirty
dirty_after dirty Cut = []
dirty_after dirty other = dirty
