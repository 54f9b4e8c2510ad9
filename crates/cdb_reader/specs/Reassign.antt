-- The parameter list of REASSIGN BLOCKS (SBC-3, REASSIGN BLOCKS command).
use Rattle.std.specs.Prelude.{ℕ, zero, suc, ◌+◌, ◌-◌, ◌*◌, ◌/◌, ◌%◌, ◌==◌, not, nat_lt, nat_le, Bool, if◌then◌else◌, List, [], ◌∷◌, ◌++◌, length, Result, Ok, Err}
use Rattle.std.specs.List.{list_any}
use Rattle.disk_base.specs.declared.address.Lba.{Lba}
use Rattle.disk_base.specs.declared.command.DataOut.{DataOut}
use Rattle.disk_base.specs.declared.command.DataOut.TheVariants.{Nothing, Fill, Given}
use Rattle.sense_data.specs.declared.sense.Sense.{Sense}
use Rattle.sense_data.specs.Sense.{sense_of}
use Rattle.cdb_reader.specs.Fields.{two_bytes, four_bytes, eight_bytes}

-- the parameter list that was sent; one repeated byte counts as no list
abbrev pub list_sent : DataOut → List ℕ
list_sent Nothing = []
list_sent (Fill byte) = []
list_sent (Given bytes) = bytes

-- bytes of the header
abbrev pub header_length : ℕ
header_length = 4

-- how many bytes of descriptors the header states; a long list is stated in the whole header
abbrev pub length_stated : Bool → List ℕ → ℕ
length_stated long_list list = if long_list then four_bytes list 0 else two_bytes list 2

-- bytes of a descriptor, which is one address
abbrev pub descriptor_length : Bool → ℕ
descriptor_length long_address = if long_address then 8 else 4

abbrev pub address_at : Bool → List ℕ → ℕ → ℕ
address_at long_address list i = if long_address then eight_bytes list i else four_bytes list i

-- the blocks of the first descriptors, so many
abbrev pub first_blocks : Bool → List ℕ → ℕ → List Lba
first_blocks long_address list zero = []
first_blocks long_address list (suc k) =
    first_blocks long_address list k ++ record { 0 = address_at long_address list (header_length + descriptor_length long_address * k) } ∷ []

-- how many descriptors a list has
abbrev pub descriptor_count : Bool → List ℕ → ℕ
descriptor_count long_address list = (length list - header_length) / descriptor_length long_address

-- the most descriptors in one list
abbrev pub descriptors_at_most : ℕ
descriptors_at_most = 256

-- some block isn't below the capacity
abbrev pub some_past : List Lba → ℕ → Bool
some_past blocks capacity = list_any (λ block. nat_le capacity block.0) blocks

-- the blocks of a list, or why it is refused
abbrev pub blocks_of : Bool → Bool → List ℕ → ℕ → Result (List Lba) Sense
blocks_of long_address long_list list capacity =
    if nat_lt (length list) header_length then Err (sense_of 5 0x1A 0x00) else
    if not (length_stated long_list list == length list - header_length) then Err (sense_of 5 0x1A 0x00) else
    if not ((length list - header_length) % descriptor_length long_address == 0) then Err (sense_of 5 0x1A 0x00) else
    if nat_lt descriptors_at_most (descriptor_count long_address list) then Err (sense_of 5 0x26 0x00) else
    if some_past (first_blocks long_address list (descriptor_count long_address list)) capacity then Err (sense_of 5 0x21 0x00) else
    Ok (first_blocks long_address list (descriptor_count long_address list))
