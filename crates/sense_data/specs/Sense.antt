-- What a device server says of the command that it ends (SPC-4, fixed format sense data).
use Rattle.std.specs.Prelude.{ℕ, ◌+◌, ◌^◌, ◌<◌, ◌==◌, if◌then◌else◌, slice_index, List, [], ◌∷◌, ◌++◌, Option, Some, None, replicate}
use Rattle.std.specs.Option.{ForSome}
use Rattle.std.specs.Int.{w32, to_be_bytes, from_be_bytes}
use Rattle.sense_data.specs.declared.sense.Sense.{Sense}

-- the response code of current sense data, with the valid bit where the INFORMATION field says something
abbrev pub response_code : Option ℕ → ℕ
response_code None = 0x70
response_code (Some _) = 0xF0

-- the INFORMATION field, high byte first; zeros where it says nothing
abbrev pub information_bytes : Option ℕ → List ℕ
information_bytes None = replicate 4 0
information_bytes (Some n) = to_be_bytes w32 n

-- the 18 bytes of fixed format sense data: response code, an obsolete byte, sense key, INFORMATION, how many bytes follow,
-- COMMAND-SPECIFIC INFORMATION, additional sense code and its qualifier, field replaceable unit code, sense key specific bytes
abbrev pub sense_bytes : Sense → List ℕ
sense_bytes s =
    response_code s.information ∷ 0 ∷ s.key ∷ (information_bytes s.information ++ (10 ∷ (to_be_bytes w32 s.specific ++
    (s.asc ∷ s.ascq ∷ replicate 4 0))))

-- the fields are in the ranges of their types
pub record IsSense (s : Sense) : Type 0 where
  pub key : s.key < 2 ^ 8
  pub information : ForSome s.information (λ n. n < 2 ^ 32)
  pub specific : s.specific < 2 ^ 32
  pub asc : s.asc < 2 ^ 8
  pub ascq : s.ascq < 2 ^ 8

-- four bytes from a place on as a number, high byte first
abbrev pub number_at : List ℕ → ℕ → ℕ
number_at bs i = from_be_bytes w32 (slice_index bs i ∷ slice_index bs (i + 1) ∷ slice_index bs (i + 2) ∷ slice_index bs (i + 3) ∷ [])

-- a sense key with an additional sense code and its qualifier, and nothing besides
abbrev pub sense_of : ℕ → ℕ → ℕ → Sense
sense_of key asc ascq = record { key = key; information = None; specific = 0; asc = asc; ascq = ascq }

-- what stands in the fields' places of some bytes, each number high byte first
abbrev pub fields_of : List ℕ → Sense
fields_of bs = record {
  key = slice_index bs 2;
  information = if slice_index bs 0 == 0xF0 then Some (number_at bs 3) else None;
  specific = number_at bs 8;
  asc = slice_index bs 12;
  ascq = slice_index bs 13;
}
