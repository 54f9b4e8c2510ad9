-- A block whose bytes aren't all one is printed by all its digits.
use Rattle.std.proofs.Common.{◌≡◌, ℕ, Bool, false, ◌==◌, ◌&&◌, List, [], ◌∷◌, ◌++◌, length, replicate, slice_index, nat_eq, codes, refl, sym, ap, ◌∙◌}
use Rattle.std.specs.Prelude.{if◌then◌else◌}
use Rattle.std.specs.List.{list_all}
use lib.Pointwise.{pointwise}
use Rattle.text_words.specs.Digits.{hex_of, byte_word}
use Rattle.text_words.specs.Data.{block_word}

all_one_byte : (byte : ℕ) (bytes : List ℕ) → pointwise nat_eq bytes (replicate (length bytes) byte) ≡ list_all (λ b. b == byte) bytes
all_one_byte byte [] = refl
all_one_byte byte (b ∷ bytes) = ap (λ rest. b == byte && rest) (all_one_byte byte bytes)

pub mixed_word : (block : List ℕ) → length block ≡ 512 → pointwise nat_eq block (replicate 512 (slice_index block 0)) ≡ false → block_word block ≡ hex_of block
mixed_word block long mixed =
    let other : list_all (λ b. b == slice_index block 0) block ≡ false =
    sym (all_one_byte (slice_index block 0) block) ∙ ap (λ n. pointwise nat_eq block (replicate n (slice_index block 0))) long ∙ mixed in
    ap (λ (all : Bool). if all then codes "*" ++ byte_word (slice_index block 0) else hex_of block) other
