-- The bytes of each answer, and the fields that are refused, by examples.
use Rattle.std.proofs.Common.{◌≡◌, ◌+◌, take, length, true, false, [], ◌∷◌, Some, None, option_map, refl}
use Rattle.inquiry_data.specs.Identity.{standard_data, inquiry_data}
use Rattle.inquiry_data.specs.Capacity.{short_capacity, long_capacity}
use Rattle.inquiry_data.specs.Luns.{reported_luns}

-- the additional length counts what follows it
standard-ends : length standard_data ≡ 5 + 0x1F
standard-ends = refl

standard-first : option_map (take 16) (inquiry_data false 0x00) ≡ Some (0x00 ∷ 0x00 ∷ 0x06 ∷ 0x02 ∷ 0x1F ∷ 0x00 ∷ 0x00 ∷ 0x02 ∷ 0x50 ∷ 0x4C ∷ 0x41 ∷ 0x54 ∷ 0x54 ∷ 0x45 ∷ 0x52 ∷ 0x20 ∷ [])
standard-first = refl

page_without_its_bit : inquiry_data false 0x83 ≡ None
page_without_its_bit = refl

supported : inquiry_data true 0x00 ≡ Some (0x00 ∷ 0x00 ∷ 0x00 ∷ 0x05 ∷ 0x00 ∷ 0x80 ∷ 0x83 ∷ 0xB0 ∷ 0xB1 ∷ [])
supported = refl

serial : inquiry_data true 0x80 ≡ Some (0x00 ∷ 0x80 ∷ 0x00 ∷ 0x08 ∷ 0x30 ∷ 0x30 ∷ 0x30 ∷ 0x30 ∷ 0x30 ∷ 0x30 ∷ 0x30 ∷ 0x31 ∷ [])
serial = refl

identification : option_map (take 9) (inquiry_data true 0x83) ≡ Some (0x00 ∷ 0x83 ∷ 0x00 ∷ 0x14 ∷ 0x02 ∷ 0x01 ∷ 0x00 ∷ 0x10 ∷ 0x50 ∷ [])
identification = refl

limits : option_map (take 13) (inquiry_data true 0xB0) ≡ Some (0x00 ∷ 0xB0 ∷ 0x00 ∷ 0x3C ∷ 0x00 ∷ 0x00 ∷ 0x00 ∷ 0x00 ∷ 0x00 ∷ 0x00 ∷ 0x01 ∷ 0x00 ∷ 0x00 ∷ [])
limits = refl

characteristics : option_map (take 7) (inquiry_data true 0xB1) ≡ Some (0x00 ∷ 0xB1 ∷ 0x00 ∷ 0x3C ∷ 0x1C ∷ 0x20 ∷ 0x00 ∷ [])
characteristics = refl

unknown_page : inquiry_data true 0xB2 ≡ None
unknown_page = refl

last_of_912 : short_capacity 912 ≡ 0x00 ∷ 0x00 ∷ 0x03 ∷ 0x8F ∷ 0x00 ∷ 0x00 ∷ 0x02 ∷ 0x00 ∷ []
last_of_912 = refl

long_of_912 : take 13 (long_capacity 912) ≡ 0x00 ∷ 0x00 ∷ 0x00 ∷ 0x00 ∷ 0x00 ∷ 0x00 ∷ 0x03 ∷ 0x8F ∷ 0x00 ∷ 0x00 ∷ 0x02 ∷ 0x00 ∷ 0x00 ∷ []
long_of_912 = refl

long_ends : length (long_capacity 912) ≡ 32
long_ends = refl

only_lun : reported_luns 0x00 ≡ Some (0x00 ∷ 0x00 ∷ 0x00 ∷ 0x08 ∷ 0 ∷ 0 ∷ 0 ∷ 0 ∷ 0 ∷ 0 ∷ 0 ∷ 0 ∷ 0 ∷ 0 ∷ 0 ∷ 0 ∷ [])
only_lun = refl

no_well_known : reported_luns 0x01 ≡ Some (0 ∷ 0 ∷ 0 ∷ 0 ∷ 0 ∷ 0 ∷ 0 ∷ 0 ∷ [])
no_well_known = refl

refused_select : reported_luns 0x03 ≡ None
refused_select = refl
