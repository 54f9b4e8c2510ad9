-- Scans of small drives, and what is found of a block at retry count 0, which has five stages.
use Rattle.std.proofs.Common.{◌≡◌, ℕ, true, false, refl}
use Rattle.std.specs.Prelude.{Some, None}
use Rattle.scanner_core.specs.declared.finding.ScanFinding.TheVariants.{Light, Heavy, Unread}
use Rattle.scanner_core.specs.Scan.{Scan, scan_of, begun, gone_on, finding_of, answered}

-- a scan at block 1 of 3, of which so many stages failed
abbrev behind : ℕ → Scan
behind failed = scan_of 3 1 7 (Some (record { retry = 0; failed = failed; found = false }))

second_block : gone_on (begun 3) ≡ scan_of 3 1 0 None
second_block = refl

first_block_again : gone_on (scan_of 3 2 7 None) ≡ scan_of 3 0 8 None
first_block_again = refl

passes_end : gone_on (scan_of 1 0 65535 None) ≡ scan_of 1 0 65535 None
passes_end = refl

by_the_plain_read : finding_of (begun 3) 0 true ≡ Some Light
by_the_plain_read = refl

by_the_last_light_stage : finding_of (behind 2) 0 true ≡ Some Light
by_the_last_light_stage = refl

by_a_heavy_stage : finding_of (behind 3) 0 true ≡ Some Heavy
by_a_heavy_stage = refl

by_none : finding_of (behind 4) 0 false ≡ Some Unread
by_none = refl

a_stage_is_left : finding_of (behind 3) 0 false ≡ None
a_stage_is_left = refl

stays_while_a_stage_is_left : answered (behind 3) 0 false ≡ behind 4
stays_while_a_stage_is_left = refl

goes_on_once_found : answered (behind 3) 0 true ≡ scan_of 3 2 7 None
goes_on_once_found = refl

-- a read in hand keeps its retry count
other_count_is_passed_over : finding_of (behind 4) 20 false ≡ Some Unread
other_count_is_passed_over = refl
