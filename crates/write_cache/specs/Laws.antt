-- What the changes of a cache mean for one block.
use Rattle.std.specs.Prelude.{◌≡◌, ℕ, false, List, None, Some, if◌then◌else◌}
use Rattle.disk_base.specs.declared.address.Lba.{Lba}
use Rattle.write_cache.specs.Contents.{Contents, IsCache, is_at, newest, clean_data, with_newest, with_clean, without_dirty, without_clean}

-- after a put of b, its newest data are those, and each other block's are what they were
abbrev pub PutIsSeen : Type 0
PutIsSeen = (b q : Lba) (v : List ℕ) (c : Contents) → newest q (with_newest b v c) ≡ (if is_at b q then Some v else newest q c)

-- without b among the dirty blocks, b isn't dirty, and each other block is what it was
abbrev pub SettlesOne : Type 0
SettlesOne = (b q : Lba) (c : Contents) → IsCache c → newest q (without_dirty b c) ≡ (if is_at b q then None else newest q c)

-- without b among the clean blocks, b isn't clean, and each other block is what it was
abbrev pub ForgetsOne : Type 0
ForgetsOne = (b q : Lba) (c : Contents) → IsCache c → clean_data q (without_clean b c) ≡ (if is_at b q then None else clean_data q c)

-- b kept clean has those data; another block that is clean then was clean with the same data
abbrev pub KeepsOthers : Type 0
KeepsOthers = (b : Lba) (v : List ℕ) (c : Contents) → IsCache c → (clean_data b (with_clean b v c) ≡ Some v)
    × ((q : Lba) (w : List ℕ) → is_at b q ≡ false → clean_data q (with_clean b v c) ≡ Some w → clean_data q c ≡ Some w)
