-- What the logical unit says of itself: standard INQUIRY data and vital product data pages (SPC-4, INQUIRY command and
-- vital product data parameters; SBC-3, vital product data parameters).
use Rattle.std.specs.Prelude.{ℕ, ◌==◌, if◌then◌else◌, Bool, true, false, length, List, [], ◌∷◌, ◌++◌, Option, Some, None, replicate, codes}
use Rattle.std.specs.Int.{w16, w32, to_be_bytes}

-- T10 VENDOR IDENTIFICATION, blanks at its end
abbrev pub vendor : List ℕ
vendor = codes "PLATTER "

-- PRODUCT IDENTIFICATION, blanks at its end
abbrev pub product : List ℕ
product = codes "SIMULATED DISK  "

-- PRODUCT REVISION LEVEL
abbrev pub revision : List ℕ
revision = codes "0100"

-- PRODUCT SERIAL NUMBER
abbrev pub serial_number : List ℕ
serial_number = codes "00000001"

-- 36 bytes: a direct access block device that is there (byte 0), SPC-4 (version 6), response data format 2, how many bytes
-- follow byte 4, command queuing (byte 7), then the texts
abbrev pub standard_data : List ℕ
standard_data = 0x00 ∷ 0x00 ∷ 0x06 ∷ 0x02 ∷ 31 ∷ 0x00 ∷ 0x00 ∷ 0x02 ∷ (vendor ++ product ++ revision)

-- a page of vital product data: peripheral qualifier and device type, page code, page length, and what the page says
abbrev pub vital_page : ℕ → List ℕ → List ℕ
vital_page code content = 0x00 ∷ code ∷ (to_be_bytes w16 (length content) ++ content)

-- Supported VPD Pages: the page codes, ascending
abbrev pub page_codes : List ℕ
page_codes = 0x00 ∷ 0x80 ∷ 0x83 ∷ 0xB0 ∷ 0xB1 ∷ []

-- Device Identification: one designator, in ASCII, of the logical unit, by T10 vendor identification and serial number
abbrev pub designators : List ℕ
designators = let designator = vendor ++ serial_number in 0x02 ∷ 0x01 ∷ 0x00 ∷ length designator ∷ designator

-- Block Limits: MAXIMUM TRANSFER LENGTH is 256 blocks, nothing else is limited
abbrev pub block_limits : List ℕ
block_limits = replicate 4 0 ++ (to_be_bytes w32 256 ++ replicate 52 0)

-- Block Device Characteristics: MEDIUM ROTATION RATE is 7,200 a minute
abbrev pub block_device_characteristics : List ℕ
block_device_characteristics = to_be_bytes w16 7200 ++ replicate 58 0

-- the page of a page code, where there is one
abbrev pub vital_product_data : ℕ → Option (List ℕ)
vital_product_data page =
    if page == 0x00 then Some (vital_page page page_codes) else
    if page == 0x80 then Some (vital_page page serial_number) else
    if page == 0x83 then Some (vital_page page designators) else
    if page == 0xB0 then Some (vital_page page block_limits) else
    if page == 0xB1 then Some (vital_page page block_device_characteristics) else
    None

-- the data of an INQUIRY by its EVPD bit and PAGE CODE field, before the allocation length cuts them; none where the
-- two are refused: without the bit the field has to be 0
abbrev pub inquiry_data : Bool → ℕ → Option (List ℕ)
inquiry_data true page = vital_product_data page
inquiry_data false page = if page == 0x00 then Some standard_data else None
