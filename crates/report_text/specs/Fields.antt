-- What the words of an entry, an operation or a label are read as. A reading may take more than what is printed, since the line
-- that is read is compared with the print.
use Rattle.std.specs.Prelude.{ℕ, ◌==◌, if◌then◌else◌, List, [], codes, drop, slice_index, Option, Some, None, ℤ, pos, neg_ℤ}
use Rattle.std.specs.Result.{result_ok}
use Rattle.std.specs.Str.{bytes_eq}
use Rattle.hex.specs.Hex.{decode_sized}
use Rattle.disk_base.specs.declared.address.Lba.{Lba}
use Rattle.disk_base.specs.declared.address.Psn.{Psn}
use Rattle.disk_base.specs.declared.address.Tag.{Tag}
use Rattle.disk_base.specs.declared.command.Attribute.{Attribute}
use Rattle.disk_base.specs.declared.command.Attribute.TheVariants.{Simple, Ordered, Head}
use Rattle.disk_base.specs.declared.command.DataOut.{DataOut}
use Rattle.disk_base.specs.declared.command.DataOut.TheVariants.{Nothing as NoData}
use Rattle.sense_data.specs.declared.sense.Sense.{Sense}
use Rattle.sense_data.specs.Sense.{sense_bytes, fields_of}
use Rattle.platter_model.specs.declared.damage.Left.{Left}
use Rattle.platter_model.specs.declared.damage.Left.TheVariants.{Old, New, Nothing}
use Rattle.text_words.specs.Number.{number, number_in}
use Rattle.text_words.specs.Digits.{bytes_of}
use Rattle.text_words.specs.Data.{mark_of, data_of}
use Rattle.report_text.specs.Steps.{◌>>=◌, of_one}

-- the number from low to high that a word gives
abbrev pub number_of : ℕ → ℕ → List ℕ → Option ℕ
number_of low high word = number_in (number low high word)

-- the number of a command or of a move
abbrev pub command_of : List ℕ → Option ℕ
command_of word = number_of 0 4294967295 word

-- the same of the only word
abbrev pub lone_number : List (List ℕ) → Option ℕ
lone_number = of_one command_of

abbrev pub block_of : List ℕ → Option Lba
block_of word = do
  n ← number_of 0 18446744073709551615 word
  Some (record { 0 = n })

abbrev pub sector_of : ℕ → ℕ → List ℕ → Option Psn
sector_of low high word = do
  n ← number_of low high word
  Some (record { 0 = n })

abbrev pub tag_of : List ℕ → Option Tag
tag_of word = do
  n ← number_of 0 65535 word
  Some (record { 0 = n })

-- a number from least up, or a minus sign before one of at least 1
abbrev pub signed_of : ℕ → ℕ → ℕ → List ℕ → Option ℤ
signed_of below least above word = if slice_index word 0 == 45 then (do
  n ← number_of 1 below (drop 1 word)
  Some (neg_ℤ (pos n)))
    else (do
      n ← number_of least above word
      Some (pos n))

abbrev pub attribute_of : List ℕ → Attribute
attribute_of word =
    if bytes_eq word (codes "S") then Simple else
    if bytes_eq word (codes "O") then Ordered else Head

abbrev pub left_of : List ℕ → Left
left_of word =
    if bytes_eq word (codes "old") then Old else
    if bytes_eq word (codes "new") then New else Nothing

-- data sent with a command
abbrev pub sent_of : List ℕ → Option DataOut
sent_of word = if bytes_eq word (codes "-") then Some NoData else (do
  mark ← mark_of word
  data_of mark word)

-- data of a command
abbrev pub page_of : List ℕ → Option (List ℕ)
page_of word = if bytes_eq word (codes "-") then Some [] else bytes_of word

-- sense data whose bytes these are
abbrev pub sense_from : List ℕ → Option Sense
sense_from bytes = if bytes_eq (sense_bytes (fields_of bytes)) bytes then Some (fields_of bytes) else None

unfoldable pub sense_of : List ℕ → Option Sense
sense_of word = do
  bytes ← result_ok (decode_sized word 18)
  sense_from bytes
