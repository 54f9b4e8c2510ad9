-- Mode parameters by examples, of a drive of 912 blocks with the default settings.
use Rattle.std.proofs.Common.{◌≡◌, ℕ, Bool, true, false, List, [], ◌∷◌, ◌++◌, replicate, Result, Ok, Err, refl}
use Rattle.sense_data.specs.declared.sense.Sense.{Sense}
use Rattle.mode_pages.specs.declared.settings.Settings.{Settings}
use Rattle.mode_pages.specs.Settings.{default_settings}
use Rattle.mode_pages.specs.Refusals.{parameter_list_length_error, invalid_field_in_cdb, invalid_field_in_list, saving_not_supported}
use Rattle.mode_pages.specs.ModeSense.{sensed}
use Rattle.mode_pages.specs.ModeSelect.{selected}

-- a MODE SENSE of 6 or 10, with or without a block descriptor, of these values of this page
asked : Bool → Bool → ℕ → ℕ → ℕ → ℕ → Result (List ℕ) Sense
asked ten dbd control page subpage allocation =
    sensed default_settings 912 (record { ten = ten; dbd = dbd; control = control; page = page; subpage = subpage; allocation = allocation })

all_pages : asked false false 0 0x3F 0x00 255
    ≡ Ok ((0x2B ∷ 0x00 ∷ 0x10 ∷ 0x08 ∷ 0x00 ∷ 0x00 ∷ 0x03 ∷ 0x90 ∷ 0x00 ∷ 0x00 ∷ 0x02 ∷ 0x00 ∷ []) ++ (0x01 ∷ 0x0A ∷ 0xC0 ∷ 0x05 ∷ []) ++ replicate 8 0
    ++ (0x08 ∷ 0x12 ∷ 0x04 ∷ []) ++ replicate 17 0)
unfolding asked
all_pages = refl

all_pages_and_subpages : asked false true 2 0x3F 0xFF 255
    ≡ Ok ((0x33 ∷ 0x00 ∷ 0x10 ∷ 0x00 ∷ []) ++ (0x01 ∷ 0x0A ∷ 0xC0 ∷ 0x05 ∷ []) ++ replicate 8 0 ++ (0x08 ∷ 0x12 ∷ 0x04 ∷ []) ++ replicate 17 0
    ++ (0x5C ∷ 0x01 ∷ 0x00 ∷ 0x0C ∷ 0x01 ∷ 0x00 ∷ 0x00 ∷ 0x18 ∷ []) ++ replicate 8 0)
unfolding asked
all_pages_and_subpages = refl

caching_of_10 : asked true true 0 0x08 0x00 255
    ≡ Ok ((0x00 ∷ 0x1A ∷ 0x00 ∷ 0x10 ∷ 0x00 ∷ 0x00 ∷ 0x00 ∷ 0x00 ∷ []) ++ (0x08 ∷ 0x12 ∷ 0x04 ∷ []) ++ replicate 17 0)
unfolding asked
caching_of_10 = refl

-- cut in the midst of the page; the length is that of the whole
changeable_cut : asked false true 1 0x01 0x00 8 ≡ Ok (0x0F ∷ 0x00 ∷ 0x10 ∷ 0x00 ∷ 0x01 ∷ 0x0A ∷ 0xC4 ∷ 0xFF ∷ [])
unfolding asked
changeable_cut = refl

unknown : asked false false 0 0x0A 0x00 255 ≡ Err invalid_field_in_cdb
unfolding asked
unknown = refl

-- an unknown page is found before saved values are
unknown_saved : asked false false 3 0x1C 0x00 255 ≡ Err invalid_field_in_cdb
unfolding asked
unknown_saved = refl

saved : asked false false 3 0x08 0x00 255 ≡ Err saving_not_supported
unfolding asked
saved = refl

-- a MODE SELECT of 6 with these pages, and one with a block descriptor
given : List ℕ → Result Settings Sense
given pages = selected default_settings 912 false (0 ∷ 0 ∷ 0 ∷ 0 ∷ pages)

described : List ℕ → Result Settings Sense
described descriptor = selected default_settings 912 false (0 ∷ 0 ∷ 0 ∷ 8 ∷ descriptor)

-- the bytes of page 01 with this byte 2, this retry count and this byte 4
recovery : ℕ → ℕ → ℕ → List ℕ
recovery bits retry behind = (0x01 ∷ 0x0A ∷ bits ∷ retry ∷ behind ∷ []) ++ replicate 7 0

caches_off : selected default_settings 912 true (replicate 8 0 ++ (0x08 ∷ 0x12 ∷ []) ++ replicate 18 0) ≡ Ok (record default_settings { wce = false })
caches_off = refl

empty : selected default_settings 912 false [] ≡ Ok default_settings
empty = refl

header_alone : given [] ≡ Ok default_settings
unfolding given
header_alone = refl

-- the greatest retry count; bit 7 of the first byte isn't looked at
most_retries : given ((0x81 ∷ 0x0A ∷ 0x04 ∷ 20 ∷ []) ++ replicate 8 0) ≡ Ok (record default_settings { awre = false; arre = false; per = true; retry = 20 })
unfolding given
most_retries = refl

-- of two of one page the last counts
twice : given (recovery 0xC4 9 0 ++ recovery 0x80 7 0) ≡ Ok (record default_settings { arre = false; retry = 7 })
unfolding given recovery
twice = refl

more_retries : given (recovery 0xC0 21 0) ≡ Err invalid_field_in_list
unfolding given recovery
more_retries = refl

fixed_bit : given (recovery 0xC1 5 0) ≡ Err invalid_field_in_list
unfolding given recovery
fixed_bit = refl

fixed_byte : given (recovery 0xC0 5 1) ≡ Err invalid_field_in_list
unfolding given recovery
fixed_byte = refl

-- no page of a list with a fault is taken
second_wrong : given (recovery 0xC4 9 0 ++ recovery 0xC0 5 1) ≡ Err invalid_field_in_list
unfolding given recovery
second_wrong = refl

-- the first fault from the front: a fixed bit before a page that is cut short
front_first : given (recovery 0xC1 5 0 ++ 0x08 ∷ 0x12 ∷ []) ≡ Err invalid_field_in_list
unfolding given recovery
front_first = refl

-- a page is cut short before it is unknown
cut_short : given (0x0A ∷ 0x0A ∷ 0 ∷ []) ≡ Err parameter_list_length_error
unfolding given
cut_short = refl

unknown_page : given (0x0A ∷ 0x00 ∷ []) ≡ Err invalid_field_in_list
unfolding given
unknown_page = refl

wrong_length : given (0x08 ∷ 0x01 ∷ 0x04 ∷ []) ≡ Err invalid_field_in_list
unfolding given
wrong_length = refl

short_head : given (0x5C ∷ 0x01 ∷ 0x00 ∷ []) ≡ Err parameter_list_length_error
unfolding given
short_head = refl

without_subpage : given (0x1C ∷ 0x00 ∷ []) ≡ Err invalid_field_in_list
unfolding given
without_subpage = refl

short_header : selected default_settings 912 true (replicate 7 0) ≡ Err parameter_list_length_error
short_header = refl

odd_descriptor : selected default_settings 912 false (0 ∷ 0 ∷ 0 ∷ 16 ∷ []) ≡ Err invalid_field_in_list
odd_descriptor = refl

short_descriptor : described (0 ∷ 0 ∷ 3 ∷ 0x90 ∷ 0 ∷ 0 ∷ 2 ∷ []) ≡ Err parameter_list_length_error
unfolding described
short_descriptor = refl

same_capacity : described (0 ∷ 0 ∷ 3 ∷ 0x90 ∷ 0 ∷ 0 ∷ 2 ∷ 0 ∷ []) ≡ Ok default_settings
unfolding described
same_capacity = refl

all_blocks : described (0xFF ∷ 0xFF ∷ 0xFF ∷ 0xFF ∷ 0 ∷ 0 ∷ 2 ∷ 0 ∷ []) ≡ Ok default_settings
unfolding described
all_blocks = refl

as_now : described (0 ∷ 0 ∷ 0 ∷ 0 ∷ 0 ∷ 0 ∷ 2 ∷ 0 ∷ []) ≡ Ok default_settings
unfolding described
as_now = refl

other_capacity : described (0 ∷ 0 ∷ 3 ∷ 0x91 ∷ 0 ∷ 0 ∷ 2 ∷ 0 ∷ []) ≡ Err invalid_field_in_list
unfolding described
other_capacity = refl

other_block_length : described (0 ∷ 0 ∷ 3 ∷ 0x90 ∷ 0 ∷ 0 ∷ 4 ∷ 0 ∷ []) ≡ Err invalid_field_in_list
unfolding described
other_block_length = refl
