-- Bits as lists, the highest or first bit first.
use Rattle.std.specs.Prelude.{ℕ, zero, suc, ◌+◌, ◌*◌, ◌==◌, Bool, if◌then◌else◌, not, List, [], ◌∷◌, map, fold}
use Rattle.std.specs.Int.{bit_at}

-- the bits of a text of 0s and 1s
abbrev pub bits : List ℕ → List Bool
bits text = map (λ c. c == 49) text

-- the lowest so many bits of a number
unfoldable pub low_bits : ℕ → ℕ → List Bool
low_bits zero n = []
low_bits (suc k) n = (bit_at n k == 1) ∷ low_bits k n

-- the eight bits of a byte
abbrev pub byte_bits : ℕ → List Bool
byte_bits byte = low_bits 8 byte

-- the number that bits spell
abbrev pub number : List Bool → ℕ
number spelled = fold (λ n b. 2 * n + (if b then 1 else 0)) 0 spelled

-- whether two bits are the same
abbrev pub same : Bool → Bool → Bool
same a b = if a then b else not b

-- the list cut into pieces of eight from the front; what fills no piece is left out
unfoldable pub octets : {X : Type 0} → List X → List (List X)
octets (a ∷ b ∷ c ∷ d ∷ e ∷ f ∷ g ∷ h ∷ rest) = (a ∷ b ∷ c ∷ d ∷ e ∷ f ∷ g ∷ h ∷ []) ∷ octets rest
octets _ = []
