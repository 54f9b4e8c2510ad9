-- What a history tells of the background scan, as LOG SENSE shows it (SBC-3, Background Scan Results log page).
use Rattle.std.specs.Prelude.{ℕ, ◌+◌, ◌/◌, ◌%◌, min, Bool, List, [], ◌∷◌, ◌++◌}
use Rattle.scan_log.specs.declared.finding.Finding.{Finding}
use Rattle.scan_log.specs.declared.state.ScanState.{ScanState}
use Rattle.scan_log.specs.Findings.{newest_64}
use Rattle.block_machine.specs.declared.entry.Entry.{Entry}
use Rattle.block_machine.specs.declared.entry.Entry.TheVariants.{Scanned, Logged, Cut, PoweredOn, Tick}

-- what LOG SENSE can show since the power came on: the minutes, how many blocks the scan was done with, and the last 64
-- findings
pub record Scan : Type 0 where
  pub minutes : ℕ
  pub scanned : ℕ
  pub findings : List Finding

-- at power on nothing is counted and nothing was found
abbrev pub scan_at_start : Scan
scan_at_start = record { minutes = 0; scanned = 0; findings = [] }

-- minutes are counted up to here
abbrev pub minutes_at_most : ℕ
minutes_at_most = 4294967295

-- passes of the scan are counted up to here
abbrev pub passes_at_most : ℕ
passes_at_most = 65535

-- after an entry: blocks, findings and minutes are counted, a cut takes the findings, and at power on all begins anew
abbrev pub scan_after : Scan → Entry → Scan
scan_after scan (Scanned b what) = record scan { scanned = scan.scanned + 1 }
scan_after scan (Logged finding) = record scan { findings = newest_64 (scan.findings ++ finding ∷ []) }
scan_after scan (Tick minutes) = record scan { minutes = min (scan.minutes + minutes) minutes_at_most }
scan_after scan Cut = record scan { findings = [] }
scan_after scan (PoweredOn outcome) = scan_at_start
scan_after scan other = scan

-- what LOG SENSE shows of it over so many blocks: the scan takes block after block and begins again behind the last
abbrev pub scan_shown : ℕ → Bool → Scan → ScanState
scan_shown capacity active scan = record {
  minutes = scan.minutes;
  active = active;
  passes = min (scan.scanned / capacity) passes_at_most;
  cursor = scan.scanned % capacity;
  capacity = capacity;
}
