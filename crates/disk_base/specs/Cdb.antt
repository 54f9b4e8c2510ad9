-- Command descriptor blocks (SPC-4, 4.2).
use Rattle.std.specs.Prelude.{ℕ, ◌/◌, Bool, false, if◌then◌else◌, ◌==◌, ◌||◌, IsTrue, List, [], ◌∷◌, length}

-- whether a command block of this group of operation codes may have this length (SPC-4, 4.2.5.1)
abbrev pub allows_length : ℕ → ℕ → Bool
allows_length group len =
    if group == 0 then len == 6 else
    if group == 1 || group == 2 then len == 10 else
    if group == 4 then len == 16 else
    if group == 5 then len == 12 else
    (len == 6 || len == 10 || len == 12 || len == 16)

-- whether these bytes are a command block; the group is the first byte's top three bits
abbrev pub is_command_block : List ℕ → Bool
is_command_block [] = false
is_command_block (first ∷ rest) = allows_length (first / 32) (length (first ∷ rest))

abbrev pub IsCommandBlock : List ℕ → Type 0
IsCommandBlock bytes = IsTrue (is_command_block bytes)
