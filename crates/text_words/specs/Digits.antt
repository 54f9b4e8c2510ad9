-- Bytes as hexadecimal digits: upper case is written, either case is read.
use Rattle.std.specs.Prelude.{ℕ, List, [], ◌∷◌, Option, None}
use Rattle.std.specs.Result.{result_ok}
use Rattle.hex.specs.Hex.{encode_upper, decode_of, pair_value}

-- the digits of bytes, two each
abbrev pub hex_of : List ℕ → List ℕ
hex_of bytes = encode_upper bytes

-- the digits of one byte
abbrev pub byte_word : ℕ → List ℕ
byte_word byte = hex_of (byte ∷ [])

-- the bytes that digits give; none where there is another character, or an odd number of them
unfoldable pub bytes_of : List ℕ → Option (List ℕ)
bytes_of digits = result_ok (decode_of digits)

-- the byte that exactly two digits give
unfoldable pub byte_of : List ℕ → Option ℕ
byte_of (high ∷ low ∷ []) = result_ok (pair_value high low 0)
byte_of other = None
