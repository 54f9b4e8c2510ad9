-- What MODE SENSE gives (SPC-4, MODE SENSE (6) and (10) commands, mode parameter list format).
use Rattle.std.specs.Prelude.{ℕ, ◌+◌, min, Bool, true, false, if◌then◌else◌, ◌==◌, ◌&&◌, List, [], ◌∷◌, ◌++◌, length, take, Option, Some, None, Result, Ok, Err}
use Rattle.std.specs.List.{flat_map}
use Rattle.std.specs.Int.{w16, w32, to_be_bytes}
use Rattle.sense_data.specs.declared.sense.Sense.{Sense}
use Rattle.mode_pages.specs.declared.settings.Settings.{Settings}
use Rattle.mode_pages.specs.declared.page.Page.{Page}
use Rattle.mode_pages.specs.declared.page.Page.TheVariants.{ErrorRecovery, Caching, BackgroundControl}
use Rattle.mode_pages.specs.declared.request.ModeRequest.{ModeRequest}
use Rattle.mode_pages.specs.Settings.{default_settings}
use Rattle.mode_pages.specs.Pages.{page_bytes, changeable}
use Rattle.mode_pages.specs.Refusals.{invalid_field_in_cdb, saving_not_supported}

-- the pages that a page code and a subpage code ask for: one of them, or all, without or with subpages
abbrev pub pages_asked : ℕ → ℕ → Option (List Page)
pages_asked code subpage =
    if (code == 0x01) && (subpage == 0x00) then Some (ErrorRecovery ∷ []) else
    if (code == 0x08) && (subpage == 0x00) then Some (Caching ∷ []) else
    if (code == 0x1C) && (subpage == 0x01) then Some (BackgroundControl ∷ []) else
    if (code == 0x3F) && (subpage == 0x00) then Some (ErrorRecovery ∷ Caching ∷ []) else
    if (code == 0x3F) && (subpage == 0xFF) then Some (ErrorRecovery ∷ Caching ∷ BackgroundControl ∷ []) else
    None

-- a page by the page control: 0 with the present values, 1 with the bits that can be changed, else with the default values
abbrev pub page_shown : ℕ → Settings → Page → List ℕ
page_shown control s page =
    if control == 0 then page_bytes page s else
    if control == 1 then changeable page else
    page_bytes page default_settings

-- the short block descriptor: how many blocks there are, as far as four bytes can say, and their length, 512 bytes (SBC-3,
-- short LBA mode parameter block descriptor)
abbrev pub block_descriptor : ℕ → List ℕ
block_descriptor capacity = to_be_bytes w32 (min capacity 0xFFFF_FFFF) ++ (0x00 ∷ 0x00 ∷ 0x02 ∷ 0x00 ∷ [])

-- the header of 10 or of 6: how many bytes follow the length itself, medium type 0, DPOFUA, and the descriptor's length;
-- behind the header come `after` bytes
abbrev pub header : Bool → ℕ → ℕ → List ℕ
header true descriptor after = to_be_bytes w16 (6 + after) ++ (0x00 ∷ 0x10 ∷ 0x00 ∷ 0x00 ∷ 0x00 ∷ descriptor ∷ [])
header false descriptor after = (3 + after) ∷ 0x00 ∷ 0x10 ∷ descriptor ∷ []

-- a header with what stands behind it
abbrev pub with_header : Bool → Bool → List ℕ → List ℕ
with_header ten dbd body = header ten (if dbd then 0 else 8) (length body) ++ body

-- all mode parameters that a request with these pages asks for
abbrev pub mode_data : Settings → ℕ → ModeRequest → List Page → List ℕ
mode_data s capacity r pages =
    with_header r.ten r.dbd ((if r.dbd then [] else block_descriptor capacity) ++ flat_map (page_shown r.control s) pages)

-- what MODE SENSE gives where it asks for these pages, if for any: cut by the allocation length, and no saved values
abbrev pub sensed_pages : Settings → ℕ → ModeRequest → Option (List Page) → Result (List ℕ) Sense
sensed_pages s capacity r None = Err invalid_field_in_cdb
sensed_pages s capacity r (Some pages) =
    if r.control == 3 then Err saving_not_supported else Ok (take r.allocation (mode_data s capacity r pages))

-- what MODE SENSE gives, or its refusal
abbrev pub sensed : Settings → ℕ → ModeRequest → Result (List ℕ) Sense
sensed s capacity r = sensed_pages s capacity r (pages_asked r.page r.subpage)
