-- The log and its pages, by examples.
use Rattle.std.proofs.Common.{◌≡◌, ℕ, replicate, true, false, [], ◌∷◌, ◌++◌, Some, None, refl}
use Rattle.scan_log.specs.declared.finding.Finding.{Finding}
use Rattle.scan_log.specs.declared.state.ScanState.{ScanState}
use Rattle.scan_log.specs.Findings.{fits_a_byte, newest_64}
use Rattle.scan_log.specs.Pages.{finding_content, progress, log_data}

-- a block that was moved, at this minute
moved : ℕ → Finding
moved minute = record { minutes = minute; status = 2; key = 1; asc = 0x18; ascq = 0x02; b = record { 0 = 5 } }

-- a scan of 912 blocks that comes to this one next
at : ℕ → ScanState
at block = record { minutes = 0; active = true; passes = 0; cursor = block; capacity = 912 }

moved-bytes : finding_content (moved 6) ≡ 0 ∷ 0 ∷ 0 ∷ 6 ∷ 0x21 ∷ 0x18 ∷ 0x02 ∷ 0 ∷ 0 ∷ 0 ∷ 0 ∷ 0 ∷ 0 ∷ 0 ∷ 0 ∷ 0 ∷ 0 ∷ 0 ∷ 0 ∷ 5 ∷ []
unfolding moved
moved-bytes = refl

wide_status : fits_a_byte (record { minutes = 0; status = 16; key = 1; asc = 0; ascq = 0; b = record { 0 = 5 } }) ≡ false
wide_status = refl

progress-begins : progress (at 0) ≡ 0
unfolding at
progress-begins = refl

progress-half : progress (at 456) ≡ 0x8000
unfolding at
progress-half = refl

-- 65,464.1 parts
progress-rounded_down : progress (at 911) ≡ 65464
unfolding at
progress-rounded_down = refl

-- a log that was full takes the newest and loses the oldest
full-log : newest_64 (moved 1 ∷ (replicate 63 (moved 2) ++ moved 3 ∷ [])) ≡ replicate 63 (moved 2) ++ moved 3 ∷ []
full-log = refl

short-log : newest_64 (moved 1 ∷ moved 2 ∷ []) ≡ moved 1 ∷ moved 2 ∷ []
short-log = refl

empty-results : log_data (at 0) [] 0x15 0 0 ≡ Some (0x15 ∷ 0 ∷ 0 ∷ 0x10 ∷ 0 ∷ 0 ∷ 0x03 ∷ 0x0C ∷ 0 ∷ 0 ∷ 0 ∷ 0 ∷ 0 ∷ 1 ∷ 0 ∷ 0 ∷ 0 ∷ 0 ∷ 0 ∷ 0 ∷ [])
unfolding at
empty-results = refl

-- the oldest has parameter code 1, and a pointer of 2 shows the next alone
second-alone : log_data (at 0) (moved 1 ∷ moved 2 ∷ []) 0x15 0 2 ≡ Some (0x15 ∷ 0 ∷ 0 ∷ 24 ∷ 0 ∷ 2 ∷ 0x03 ∷ 0x14 ∷ finding_content (moved 2))
second-alone = refl

pointer_above : log_data (at 0) (moved 1 ∷ moved 2 ∷ []) 0x15 0 3 ≡ None
pointer_above = refl

supported : log_data (at 0) (moved 1 ∷ []) 0x00 0 0 ≡ Some (0 ∷ 0 ∷ 0 ∷ 2 ∷ 0x00 ∷ 0x15 ∷ [])
supported = refl

supported-pointer : log_data (at 0) (moved 1 ∷ []) 0x00 0 1 ≡ None
supported-pointer = refl

subpage : log_data (at 0) [] 0x15 1 0 ≡ None
subpage = refl

unknown_page : log_data (at 0) [] 0x0D 0 0 ≡ None
unknown_page = refl
