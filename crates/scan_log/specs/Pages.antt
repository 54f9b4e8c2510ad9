-- The log pages (SPC-4, log parameters; SBC-3, Background Scan Results log page).
use Rattle.std.specs.Prelude.{ℕ, ◌+◌, ◌*◌, ◌/◌, ◌==◌, ◌&&◌, nat_le, if◌then◌else◌, length, map, drop, List, [], ◌∷◌, ◌++◌, Option, Some, None, replicate}
use Rattle.std.specs.Int.{w16, w32, w64, to_be_bytes}
use Rattle.scan_log.specs.declared.finding.Finding.{Finding}
use Rattle.scan_log.specs.declared.state.ScanState.{ScanState}

-- a log page: page code, subpage code 0, page length, and what follows
abbrev pub log_page : ℕ → List ℕ → List ℕ
log_page code content = code ∷ 0x00 ∷ (to_be_bytes w16 (length content) ++ content)

-- the page codes that are served, ascending
abbrev pub page_codes : List ℕ
page_codes = 0x00 ∷ 0x15 ∷ []

-- a log parameter: parameter code, control byte (a list parameter in binary), parameter length, content
abbrev pub parameter : ℕ → List ℕ → List ℕ
parameter code content = to_be_bytes w16 code ++ (0x03 ∷ length content ∷ content)

-- how much of the medium the scan in hand has passed, in parts of 65,536, rounded down
abbrev pub progress : ScanState → ℕ
progress state = state.cursor * 65536 / state.capacity

-- content of the Background Scan Status parameter: power on minutes, a reserved byte, whether a scan is active, scans
-- performed, progress, medium scans performed
abbrev pub status_content : ScanState → List ℕ
status_content state =
    to_be_bytes w32 state.minutes ++ (0x00 ∷ (if state.active then 0x01 else 0x00) ∷
    (to_be_bytes w16 state.passes ++ (to_be_bytes w16 (progress state) ++ to_be_bytes w16 state.passes)))

-- content of a Background Scan parameter: power on minutes, reassign status beside the sense key, additional sense code
-- and its qualifier, five vendor specific bytes, the block's address
abbrev pub finding_content : Finding → List ℕ
finding_content f =
    to_be_bytes w32 f.minutes ++ ((f.status * 16 + f.key) ∷ f.asc ∷ f.ascq ∷ (replicate 5 0 ++ to_be_bytes w64 f.b.0))

-- parameters of these contents, with ascending codes from this one on
abbrev pub parameters_from : ℕ → List (List ℕ) → List ℕ
parameters_from code [] = []
parameters_from code (content ∷ rest) = parameter code content ++ parameters_from (code + 1) rest

-- the contents of all parameters by their codes: the status has 0000h, the findings follow, the oldest first
abbrev pub contents : ScanState → List Finding → List (List ℕ)
contents state findings = status_content state ∷ map finding_content findings

-- the Background Scan Results page with the parameters from a pointer on
abbrev pub scan_results : ScanState → List Finding → ℕ → List ℕ
scan_results state findings pointer = log_page 0x15 (parameters_from pointer (drop pointer (contents state findings)))

-- the data of a LOG SENSE by its PAGE CODE, SUBPAGE CODE and PARAMETER POINTER fields, before the allocation length cuts
-- them; none where the three are refused: an unknown page or subpage, or a pointer above the page's last parameter
abbrev pub log_data : ScanState → List Finding → ℕ → ℕ → ℕ → Option (List ℕ)
log_data state findings page subpage pointer =
    if (page == 0x00) && ((subpage == 0) && (pointer == 0)) then Some (log_page 0x00 page_codes) else
    if (page == 0x15) && ((subpage == 0) && nat_le pointer (length findings)) then Some (scan_results state findings pointer) else
    None
