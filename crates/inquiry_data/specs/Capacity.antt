-- Where the last logical block is, and how long a block is (SBC-3, READ CAPACITY (10) and READ CAPACITY (16) commands).
use Rattle.std.specs.Prelude.{ℕ, ◌-◌, List, ◌++◌, replicate}
use Rattle.std.specs.Int.{w32, w64, to_be_bytes}

-- LOGICAL BLOCK LENGTH IN BYTES
abbrev pub block_length : List ℕ
block_length = to_be_bytes w32 512

-- 8 bytes: the address of the last of so many blocks, and the length
abbrev pub short_capacity : ℕ → List ℕ
short_capacity blocks = to_be_bytes w32 (blocks - 1) ++ block_length

-- 32 bytes: the same with a longer address; no protection, one logical block per physical block, no provisioning
abbrev pub long_capacity : ℕ → List ℕ
long_capacity blocks = to_be_bytes w64 (blocks - 1) ++ (block_length ++ replicate 20 0)
