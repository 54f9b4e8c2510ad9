-- Numbers of a line.
use Rattle.std.specs.Prelude.{ℕ, ◌-◌, ◌==◌, if◌then◌else◌, List, drop, slice_index, Result, Ok, Err, ℤ, pos, neg_ℤ}
use Rattle.disk_base.specs.declared.address.Psn.{Psn}
use Rattle.disk_base.specs.declared.address.Tag.{Tag as TaskTag}
use Rattle.text_words.specs.declared.number.Numeral.{Numeral}
use Rattle.text_words.specs.declared.number.Numeral.TheVariants.{Malformed, Outside, Within}
use Rattle.text_words.specs.Number.{number}
use Rattle.script_text.specs.declared.why.Why.{Why}
use Rattle.script_text.specs.declared.why.Why.TheVariants.{Number}
use Rattle.script_text.specs.Steps.{◌>>=◌}

-- a numeral has to be there and within its range
abbrev pub within_range : Numeral → Result ℕ Why
within_range Malformed = Err Number
within_range Outside = Err Number
within_range (Within n) = Ok n

-- the number from low to high that a word gives
abbrev pub number_of : ℕ → ℕ → List ℕ → Result ℕ Why
number_of low high word = within_range (number low high word)

-- the number from -127 to 127, but not 0, that a word gives; below 0 a minus sign stands before the digits
abbrev pub change_of : List ℕ → Result ℤ Why
change_of word = if slice_index word 0 == 45 then (do
  n ← number_of 1 127 (drop 1 word)
  Ok (neg_ℤ (pos n)))
    else (do
      n ← number_of 1 127 word
      Ok (pos n))

abbrev pub tag_of : List ℕ → Result TaskTag Why
tag_of word = do
  n ← number_of 0 65535 word
  Ok (record { 0 = n })

-- a sector from low up, on a drive of so many
abbrev pub sector_of : ℕ → ℕ → List ℕ → Result Psn Why
sector_of low total word = do
  n ← number_of low (total - 1) word
  Ok (record { 0 = n })
