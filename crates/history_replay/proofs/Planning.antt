-- What a command owes at its start depends on few parts of the state.
use Rattle.std.proofs.Common.{◌≡◌, ◌∙◌, ap, refl, ℕ, Bool, cond, List}
use Rattle.std.specs.Prelude.{◌&&◌, Result, Ok, Err}
use Rattle.std.specs.Option.{option_map_or}
use Rattle.disk_base.specs.declared.command.DataOut.{DataOut}
use Rattle.sense_data.specs.declared.sense.Sense.{Sense}
use Rattle.sense_data.specs.Attentions.{Waiting}
use Rattle.sense_data.specs.Sense.{sense_of}
use Rattle.cdb_reader.specs.declared.plan.Plan.{Plan}
use Rattle.cdb_reader.specs.Request.{Request, LogSense, RequestSense}
use Rattle.mode_pages.specs.declared.settings.Settings.{Settings}
use Rattle.scan_log.specs.declared.finding.Finding.{Finding}
use Rattle.scan_log.specs.declared.state.ScanState.{ScanState}
use Rattle.scan_log.specs.Pages.{log_data}
use Rattle.block_machine.specs.Attentions.{attention_met}
use Rattle.block_machine.specs.Plans.{answering, first_plan, is_medium, plan_asked, plan_unless_refused, refusing}
use Rattle.block_machine.specs.Scan.{Scan, scan_shown}
use Rattle.block_machine.specs.State as machine
use Rattle.block_machine.specs.State.{State, state_at_start}
use Rattle.history_replay.specs.declared.known.Known.{Known}
use Rattle.history_replay.specs.Kept.{ShowSame}
use Rattle.history_replay.specs.Known.{scan_of, state_of}

-- a state with these parts
abbrev parts : Settings → Waiting → Bool → Scan → State
parts settings waiting corrupt scan = record (state_at_start waiting) { settings = settings; corrupt = corrupt; scan = scan }

-- LOG SENSE alone shows the scan
asked-scan : (capacity : ℕ) (x : Settings) (w : Waiting) (k : Bool) (a b : Scan) (i : ℕ) (sent : DataOut) (r : Request) → ShowSame capacity a b
    → plan_asked capacity (parts x w k a) i sent r ≡ plan_asked capacity (parts x w k b) i sent r
asked-scan capacity x w k a b i sent (LogSense page subpage pointer allocation) same =
    ap (λ (shown : ScanState). answering allocation (log_data shown a.findings page subpage pointer)) (same.0 x.bms)
    ∙ ap (λ (findings : List Finding). answering allocation (log_data (scan_shown capacity x.bms b) findings page subpage pointer)) same.1
asked-scan capacity x w k a b i sent other same = refl

-- and no other part of the state counts
asked-parts : (capacity : ℕ) (s : State) (i : ℕ) (sent : DataOut) (r : Request)
    → plan_asked capacity (parts s.settings s.waiting s.corrupt s.scan) i sent r ≡ plan_asked capacity s i sent r
asked-parts capacity s i sent (RequestSense allocation) = refl
asked-parts capacity s i sent (LogSense page subpage pointer allocation) = refl
asked-parts capacity s i sent other = refl

unless-refused : (capacity : ℕ) (x : Settings) (w : Waiting) (k : Bool) (a : Scan) (s : State) (i : ℕ) (sent : DataOut) (r : Result Request Sense)
    → k ≡ s.corrupt
    → ((request : Request) → plan_asked capacity (parts x w k a) i sent request ≡ plan_asked capacity s i sent request)
    → plan_unless_refused capacity (parts x w k a) i sent r ≡ plan_unless_refused capacity s i sent r
unless-refused capacity x w k a s i sent (Ok request) same asked =
    ap (λ (p : Plan). cond (k && is_medium request) (refusing (sense_of 3 0x31 0x00)) p) (asked request)
    ∙ ap (λ (c : Bool). cond (c && is_medium request) (refusing (sense_of 3 0x31 0x00)) (plan_asked capacity s i sent request)) same
unless-refused capacity x w k a s i sent (Err sense) same asked = refl

-- the first plan of a command
pub plan_same : (capacity : ℕ) (known : Known) (s : State) (i : ℕ) (duty : machine.Duty) → known.settings ≡ s.settings → known.waiting ≡ s.waiting
    → known.corrupt ≡ s.corrupt → ShowSame capacity (scan_of known.scan) s.scan
    → first_plan capacity (state_of known) i duty ≡ first_plan capacity s i duty
plan_same capacity known s i duty settings waiting corrupt scan =
    let asked : (request : Request) → plan_asked capacity (state_of known) i duty.sent request ≡ plan_asked capacity s i duty.sent request =
    λ request. asked-scan capacity known.settings known.waiting known.corrupt (scan_of known.scan) s.scan i duty.sent request scan
    ∙ ap (λ (x : Settings). plan_asked capacity (parts x known.waiting known.corrupt s.scan) i duty.sent request) settings
    ∙ ap (λ (w : Waiting). plan_asked capacity (parts s.settings w known.corrupt s.scan) i duty.sent request) waiting
    ∙ ap (λ (k : Bool). plan_asked capacity (parts s.settings s.waiting k s.scan) i duty.sent request) corrupt
    ∙ asked-parts capacity s i duty.sent request in
    ap (λ (p : Plan). option_map_or refusing (attention_met known.waiting i duty.code) p)
    (unless-refused capacity known.settings known.waiting known.corrupt (scan_of known.scan) s i duty.sent duty.asks corrupt asked)
    ∙ ap (λ (w : Waiting). option_map_or refusing (attention_met w i duty.code) (plan_unless_refused capacity s i duty.sent duty.asks)) waiting
