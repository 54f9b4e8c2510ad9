-- Mode pages: their bytes, and the bits of them that can be changed (SPC-4, mode page and subpage formats and page codes).
use Rattle.std.specs.Prelude.{ℕ, Bool, not, if◌then◌else◌, ◌==◌, bit_and, bit_or, List, ◌∷◌, replicate}
use Rattle.mode_pages.specs.declared.settings.Settings.{Settings}
use Rattle.mode_pages.specs.declared.page.Page.{Page}
use Rattle.mode_pages.specs.declared.page.Page.TheVariants.{ErrorRecovery, Caching, BackgroundControl}

-- this bit where a flag is set, else no bit
abbrev pub flag : Bool → ℕ → ℕ
flag set bit = if set then bit else 0

-- whether a byte has this bit
abbrev pub is_set : ℕ → ℕ → Bool
is_set byte bit = not (bit_and byte bit == 0)

-- a page with these settings: AWRE, ARRE and PER in byte 2 and the read retry count in byte 3 (SBC-3, Read-Write Error
-- Recovery mode page); WCE and RCD in byte 2 (SBC-3, Caching mode page); EN_BMS in byte 4, with a scan each 24 hours
-- (SBC-3, Background Control mode page)
abbrev pub page_bytes : Page → Settings → List ℕ
page_bytes ErrorRecovery s =
    0x01 ∷ 0x0A ∷ bit_or (bit_or (flag s.awre 0x80) (flag s.arre 0x40)) (flag s.per 0x04) ∷ s.retry ∷ replicate 8 0
page_bytes Caching s =
    0x08 ∷ 0x12 ∷ bit_or (flag s.wce 0x04) (flag s.rcd 0x01) ∷ replicate 17 0
page_bytes BackgroundControl s =
    0x5C ∷ 0x01 ∷ 0x00 ∷ 0x0C ∷ flag s.bms 0x01 ∷ 0 ∷ 0 ∷ 0x18 ∷ replicate 8 0

-- a page's head, and behind it 1 for each bit that can be changed: AWRE, ARRE and PER and the whole retry count; WCE and
-- RCD; EN_BMS
abbrev pub changeable : Page → List ℕ
changeable ErrorRecovery = 0x01 ∷ 0x0A ∷ 0xC4 ∷ 0xFF ∷ replicate 8 0
changeable Caching = 0x08 ∷ 0x12 ∷ 0x05 ∷ replicate 17 0
changeable BackgroundControl = 0x5C ∷ 0x01 ∷ 0x00 ∷ 0x0C ∷ 0x01 ∷ replicate 11 0
