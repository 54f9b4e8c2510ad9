-- What a cache holds.
use Rattle.std.specs.Prelude.{◌≡◌, ℕ, ◌-◌, ◌≤◌, ◌==◌, Bool, List, [], ◌∷◌, ◌++◌, length, take, Option, None, IsSome, All, Contains, find, not, filter, nat_le, nat_lt, ◌&&◌}
use Rattle.std.specs.List.{IsDistinct, list_any}
use Rattle.std.specs.Map.{keys_of, lookup, remove_entry, set_value}
use Rattle.std.specs.Option.{option_map_or}
use Rattle.disk_base.specs.declared.address.Lba.{Lba}
use Rattle.write_cache.specs.declared.cache.Look.{Look}
use Rattle.write_cache.specs.declared.cache.Look.TheVariants.{Dirty, Clean, Absent}

-- the most blocks that are dirty, and that are clean
abbrev pub dirty_room : ℕ
dirty_room = 64

abbrev pub clean_room : ℕ
clean_room = 64

-- each dirty block with its newest data, in the order in which they became dirty; and each clean block with its data, the
-- most recently used first
pub record Contents : Type 0 where
  pub dirty : List (Lba × List ℕ)
  pub clean : List (Lba × List ℕ)

-- k is the address b
abbrev pub is_at : Lba → Lba → Bool
is_at b k = b.0 == k.0

-- nothing is held
abbrev pub empty : Contents
empty = record { dirty = []; clean = [] }

-- the newest data of a dirty block
abbrev pub newest : Lba → Contents → Option (List ℕ)
newest b c = lookup (is_at b) c.dirty

-- the data of a clean block
abbrev pub clean_data : Lba → Contents → Option (List ℕ)
clean_data b c = lookup (is_at b) c.clean

-- there is no room for b among the dirty blocks
abbrev pub IsFullFor : Lba → Contents → Type 0
IsFullFor b c = (length c.dirty ≡ dirty_room) × (newest b c ≡ None)

-- b with these data, where it stands or else last
abbrev pub put_data : Lba → List ℕ → List (Lba × List ℕ) → List (Lba × List ℕ)
put_data b v held = option_map_or (λ _. set_value (is_at b) held v) (lookup (is_at b) held) (held ++ (b, v) ∷ [])

-- b is dirty with these data, and isn't clean
abbrev pub with_newest : Lba → List ℕ → Contents → Contents
with_newest b v c = record { dirty = put_data b v c.dirty; clean = remove_entry (is_at b) c.clean }

-- b with these data in front; of the others, as many of the first as there is room for
abbrev pub in_front : Lba → List ℕ → List (Lba × List ℕ) → List (Lba × List ℕ)
in_front b v held = (b, v) ∷ take (clean_room - 1) (remove_entry (is_at b) held)

-- b is clean with these data, and the most recent; where there is no room, the least recent gives way
abbrev pub with_clean : Lba → List ℕ → Contents → Contents
with_clean b v c = record { dirty = c.dirty; clean = in_front b v c.clean }

-- b isn't dirty
abbrev pub without_dirty : Lba → Contents → Contents
without_dirty b c = record { dirty = remove_entry (is_at b) c.dirty; clean = c.clean }

-- b isn't clean
abbrev pub without_clean : Lba → Contents → Contents
without_clean b c = record { dirty = c.dirty; clean = remove_entry (is_at b) c.clean }

-- what a look finds: the newest data of a dirty block, else the data of a clean one
abbrev pub found_at : Lba → Contents → Look
found_at b c = option_map_or Dirty (newest b c) (option_map_or Clean (clean_data b c) Absent)

-- a look makes a clean block the most recent
abbrev pub after_look : Lba → Contents → Contents
after_look b c = option_map_or (λ v. with_clean b v c) (clean_data b c) c

-- the first dirty block that isn't skipped
abbrev pub oldest_but : List Lba → Contents → Option Lba
oldest_but skip c = find (λ b. not (list_any (is_at b) skip)) (keys_of c.dirty)

-- b is from `from` to below `to`
abbrev pub is_within : Lba → Lba → Lba → Bool
is_within from to b = nat_le from.0 b.0 && nat_lt b.0 to.0

-- the dirty addresses from `from` to below `to`
abbrev pub dirty_within : Lba → Lba → Contents → List Lba
dirty_within from to c = filter (is_within from to) (keys_of c.dirty)

-- b is one of the addresses, and none is below it
pub record IsLeast (bs : List Lba) (b : Lba) : Type 0 where
  pub among : Contains bs b
  pub least : All (λ k. b.0 ≤ k.0) bs

-- both halves have room, and no block stands twice in a half or in both
pub record IsCache (c : Contents) : Type 0 where
  pub dirty_fit : length c.dirty ≤ dirty_room
  pub clean_fit : length c.clean ≤ clean_room
  pub dirty_once : IsDistinct is_at (keys_of c.dirty)
  pub clean_once : IsDistinct is_at (keys_of c.clean)
  pub apart : (b : Lba) → IsSome (newest b c) → clean_data b c ≡ None
