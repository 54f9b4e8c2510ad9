-- Where the background scan of a drive is, and what it finds of a block.
use Rattle.std.specs.Prelude.{◌≡◌, ℕ, ◌+◌, ◌/◌, ◌%◌, ◌<◌, ◌==◌, min, Bool, false, if◌then◌else◌, Option, Some, None, IsSome, is_some, unwrap_or}
use Rattle.disk_base.specs.declared.stage.Stage.{Stage}
use Rattle.read_recovery.specs.Stages.{Progress, next_stage, found_stage, is_heavy}
use Rattle.read_recovery.specs.Stages as stages
use Rattle.scanner_core.specs.declared.finding.ScanFinding.{ScanFinding}
use Rattle.scanner_core.specs.declared.finding.ScanFinding.TheVariants.{Light, Heavy, Unread}

-- the drive's capacity, the block that the scan is at, how often it went over all blocks, and how far the read in hand has come
pub record Scan : Type 0 where
  pub capacity : ℕ
  pub cursor : ℕ
  pub passes : ℕ
  pub step : Option Progress

-- the scan of these parts
abbrev pub scan_of : ℕ → ℕ → ℕ → Option Progress → Scan
scan_of capacity cursor passes step = record { capacity = capacity; cursor = cursor; passes = passes; step = step }

-- a scan that begins
abbrev pub begun : ℕ → Scan
begun capacity = scan_of capacity 0 0 None

-- a read that no stage has found yet, and one is left
pub record IsUnderWay (p : Progress) : Type 0 where
  pub unfound : p.found ≡ false
  pub left : IsSome (next_stage p)

abbrev pub IsInHand : Option Progress → Type 0
IsInHand None = Unit {0}
IsInHand (Some p) = IsUnderWay p

-- what every scan keeps
pub record IsScan (scan : Scan) : Type 0 where
  pub within : scan.cursor < scan.capacity
  pub in_hand : IsInHand scan.step

-- the read of the cursor's block: the one in hand, or one that begins
abbrev pub reading : Scan → ℕ → Progress
reading scan retry = unwrap_or scan.step (stages.begun retry)

-- it after its next stage found or failed
abbrev pub reading_after : Scan → ℕ → Bool → Progress
reading_after scan retry found = stages.answered (reading scan retry) found

-- passes are counted up to here
abbrev pub passes_at_most : ℕ
passes_at_most = 65535

-- the scan at the next block, which behind the last one is the first
abbrev pub gone_on : Scan → Scan
gone_on scan =
    if scan.cursor + 1 == scan.capacity
    then scan_of scan.capacity 0 (min (scan.passes + 1) passes_at_most) None
    else scan_of scan.capacity (scan.cursor + 1) scan.passes None

-- what is found of a block by the stage that found it
abbrev pub finding_by : Option Stage → ScanFinding
finding_by None = Unread
finding_by (Some stage) = if is_heavy stage then Heavy else Light

-- what a read finds, once it is over
abbrev pub finding_at : Progress → Option ScanFinding
finding_at p = if is_some (next_stage p) then None else Some (finding_by (found_stage p))

abbrev pub finding_of : Scan → ℕ → Bool → Option ScanFinding
finding_of scan retry found = finding_at (reading_after scan retry found)

-- the scan after a stage of its block found or failed: the read goes on, or the scan does
abbrev pub answered : Scan → ℕ → Bool → Scan
answered scan retry found =
    if is_some (next_stage (reading_after scan retry found))
    then record scan { step = Some (reading_after scan retry found) }
    else gone_on scan

-- where a scan is after so many blocks
pub record IsAfter (n : ℕ) (scan : Scan) : Type 0 where
  pub cursor : scan.cursor ≡ n % scan.capacity
  pub passes : scan.passes ≡ min (n / scan.capacity) passes_at_most
