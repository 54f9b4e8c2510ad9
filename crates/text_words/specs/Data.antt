-- The words of a command's data and of a block's value.
use Rattle.std.specs.Prelude.{ℕ, ◌==◌, if◌then◌else◌, List, [], ◌∷◌, ◌++◌, codes, drop, slice_index, replicate, Option, Some, None, option_map}
use Rattle.std.specs.List.{list_all}
use Rattle.std.specs.Result.{result_ok}
use Rattle.std.specs.Str.{bytes_eq}
use Rattle.hex.specs.Hex.{decode_sized}
use Rattle.disk_base.specs.declared.block.Value.{Value}
use Rattle.disk_base.specs.declared.block.Value.TheVariants.{Data, Lost}
use Rattle.disk_base.specs.declared.command.DataOut.{DataOut}
use Rattle.disk_base.specs.declared.command.DataOut.TheVariants.{Nothing, Fill, Given}
use Rattle.text_words.specs.declared.data.Mark.{Mark}
use Rattle.text_words.specs.declared.data.Mark.TheVariants.{Star, Equals}
use Rattle.text_words.specs.Digits.{hex_of, byte_word, bytes_of, byte_of}

-- data sent with a command: none, a fill, or their digits
abbrev pub sent_word : DataOut → List ℕ
sent_word Nothing = codes "-"
sent_word (Fill byte) = codes "*" ++ byte_word byte
sent_word (Given bytes) = codes "=" ++ hex_of bytes

-- a block's data: one byte where all are that byte, else all their digits
abbrev pub block_word : List ℕ → List ℕ
block_word bytes = if list_all (λ byte. byte == slice_index bytes 0) bytes then codes "*" ++ byte_word (slice_index bytes 0) else hex_of bytes

abbrev pub value_word : Value → List ℕ
value_word (Data block) = block_word block
value_word Lost = codes "bad"

-- the mark with which a word of data begins
abbrev pub mark_of : List ℕ → Option Mark
mark_of [] = None
mark_of (first ∷ digits) = if first == 42 then Some Star else if first == 61 then Some Equals else None

-- the data that the digits behind a mark give
abbrev pub data_of : Mark → List ℕ → Option DataOut
data_of Star word = option_map Fill (byte_of (drop 1 word))
data_of Equals word = option_map Given (bytes_of (drop 1 word))

-- the value of a block that a word gives
unfoldable pub value_of : List ℕ → Option Value
value_of word =
    if bytes_eq word (codes "bad") then Some Lost
    else if slice_index word 0 == 42 then option_map (λ byte. Data (replicate 512 byte)) (byte_of (drop 1 word))
    else option_map Data (result_ok (decode_sized word 512))
