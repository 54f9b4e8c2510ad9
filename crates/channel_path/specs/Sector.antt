-- A sector's samples: what a payload is written as, and what samples read as.
use Rattle.std.specs.Prelude.{◌≡◌, ℕ, ◌+◌, ◌*◌, ◌<◌, ◌≤◌, Bool, false, List, [], map, length, take, slice_index_or, ℤ}
use Rattle.std.specs.List.{range_with_len}
use Rattle.disk_base.specs.declared.address.Psn.{Psn}
use Rattle.disk_base.specs.declared.payload.Payload.{Payload}
use Rattle.disk_base.specs.declared.stage.How.{How}
use Rattle.disk_base.specs.declared.stage.How.TheVariants.{Light, Full, Erased}
use Rattle.disk_base.specs.Payload.{layout, IsPayload}
use Rattle.rs_sector.specs.Code.{AllEncode}
use Rattle.rs_sector.specs.Decoding.{IsNear, IsNearErased}
use Rattle.rs_sector.specs.Sector.{word_of, words_of, bytes_of}
use Rattle.rll_code.specs.Code.{IsCode}
use Rattle.rll_code.specs.Reading.{bytes_read, flags_read}
use Rattle.prml_viterbi.specs.Levels.{level_word, channel_bits, clean_samples}
use Rattle.prml_viterbi.specs.Detected.{IsDetected}

-- the samples are what a payload is written as: its bytes, dealt to four words with their checks, in the run-length-limited
-- code, as the clean samples of its levels
pub record IsEncoded (payload : Payload) (samples : List ℤ) : Type 0 where
  pub words : List (List ℕ)
  pub four : length words ≡ 4
  pub checked : AllEncode (words_of 132 (layout payload)) words
  pub channel : List Bool
  pub coded : IsCode (bytes_of 148 words) channel
  pub clean : samples ≡ clean_samples (level_word channel)

-- the samples are the clean ones of the levels of the code of bytes
pub record AreCoded (bytes : List ℕ) (samples : List ℤ) : Type 0 where
  pub channel : List Bool
  pub coded : IsCode bytes channel
  pub clean : samples ≡ clean_samples (level_word channel)

-- the encoded bytes and their flags are what samples are heard as: the channel bits of the detected word, read tolerantly
pub record AreHeard (samples : List ℤ) (bytes : List ℕ) (flags : List Bool) : Type 0 where
  pub word : List ℤ
  pub detected : IsDetected samples word
  pub bytes_are : bytes ≡ bytes_read (channel_bits word)
  pub flags_are : flags ≡ flags_read (channel_bits word)

-- the flags of word i among the flags of a sector's bytes
unfoldable pub flags_of : List Bool → ℕ → List Bool
flags_of flags i = map (λ k. slice_index_or flags (4 * k + i) false) (range_with_len 0 148)

-- a codeword is within reach of a word with flagged bytes, by a way of decoding: at most 4 wrong bytes, at most 8, or with
-- the flagged bytes as erasures
abbrev pub IsInReach : How → List ℕ → List Bool → List ℕ → Type 0
IsInReach Light word flags codeword = IsNear word 4 codeword
IsInReach Full word flags codeword = IsNear word 8 codeword
IsInReach Erased word flags codeword = IsNearErased word flags codeword

-- four codewords are within reach of the four words of a sector's bytes
pub record AreInReach (how : How) (bytes : List ℕ) (flags : List Bool) (codewords : List (List ℕ)) : Type 0 where
  pub four : length codewords ≡ 4
  pub each : (i : ℕ) → i < 4 → IsInReach how (word_of 148 bytes i) (flags_of flags i) (slice_index_or codewords i [])

-- a payload of a user block, a lost mark or a map record that carries this sector's number
pub record IsOf (p : Psn) (payload : Payload) : Type 0 where
  pub lowest : 1 ≤ payload.kind
  pub highest : payload.kind ≤ 3
  pub own : payload.psn ≡ p

-- samples of sector p read as a payload: each of the four words that are heard has a codeword within reach, and their data
-- are the bytes of that payload, which is one of the sector's
pub record ReadsAs (p : Psn) (samples : List ℤ) (how : How) (payload : Payload) : Type 0 where
  pub bytes : List ℕ
  pub flags : List Bool
  pub heard : AreHeard samples bytes flags
  pub codewords : List (List ℕ)
  pub in_reach : AreInReach how bytes flags codewords
  pub joined : layout payload ≡ bytes_of 132 (map (take 132) codewords)
  pub ranges : IsPayload payload
  pub of_sector : IsOf p payload
