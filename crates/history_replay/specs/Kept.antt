-- What is kept of a history while it is replayed, beside the state that the history has come to.
use Rattle.std.specs.Prelude.{◌≡◌, ◌<◌, ◌≤◌, ◌+◌, ◌*◌, ◌==◌, ℕ, Bool, true, false, All, IsTrue, List, [], nat_lt, slice_index, if◌then◌else◌, Option, Some, None}
use Rattle.std.specs.List.{list_any}
use Rattle.std.specs.Option.{option_map, option_and_then}
use Rattle.std.specs.Ordering.{nat_cmp}
use Rattle.std.specs.BTreeMap.{BTreeMap, get}
use Rattle.disk_base.specs.declared.command.DataOut.{DataOut}
use Rattle.task_set.specs.declared.member.Member.{Member}
use Rattle.task_set.specs.Members.{IsIn}
use Rattle.cdb_reader.specs.declared.plan.Plan.{Plan}
use Rattle.cdb_reader.specs.Read.{read_of}
use Rattle.scan_log.specs.Findings.{fits_a_byte}
use Rattle.block_machine.specs.declared.entry.Entry.{Entry}
use Rattle.block_machine.specs.declared.entry.Entry.TheVariants.{Arrived, Started, Get, Put, Harden, Passed, GiveUp, Page, Ended, Aborted, Asked, Mode, Scanned, Logged, Cut, PoweredOn, Tick}
use Rattle.block_machine.specs.declared.entry.Who.TheVariants.{Command, Drive}
use Rattle.block_machine.specs.declared.turn.Label.{Label}
use Rattle.block_machine.specs.declared.turn.Label.TheVariants.{Arrive, Work}
use Rattle.block_machine.specs.Blocks.{Blocks, is_dirty}
use Rattle.block_machine.specs.Deeds.{done_by}
use Rattle.block_machine.specs.Entries.{are_asked, ends_as_told, entry_lawful, may_write_for, outcome_lawful, works_on}
use Rattle.block_machine.specs.Scan.{Scan, scan_shown}
use Rattle.disk_base.specs.Along.{all_along}
use Rattle.block_machine.specs.Steps.{entry_after}
use Rattle.block_machine.specs.State as machine
use Rattle.block_machine.specs.State.{State, state_at_start}
use Rattle.history_replay.specs.declared.duty.Duty.{Duty}
use Rattle.history_replay.specs.declared.kept.Kept.{Kept}
use Rattle.history_replay.specs.declared.known.Known.{Known}
use Rattle.history_replay.specs.Deeds.{left_of, working_state}
use Rattle.history_replay.specs.Known.{scan_of, state_of}
use Rattle.history_replay.specs.Warning.{KnownWait}

-- a command that came, on a unit of so many blocks
abbrev pub duty_arrived : ℕ → List ℕ → DataOut → machine.Duty
duty_arrived capacity cdb sent =
    record { code = slice_index cdb 0; asks = read_of cdb sent capacity; sent = sent; owes = None; dirty_then = [] }

-- a command that is kept: its request is read again where it is wanted
abbrev pub duty_kept : ℕ → Duty → machine.Duty
duty_kept capacity duty = record (duty_arrived capacity duty.cdb duty.sent) { owes = duty.owes; dirty_then = duty.dirty_then.items }

-- the commands of a set are kept
abbrev pub AreKept : ℕ → BTreeMap ℕ Duty → List Member → (ℕ → machine.Duty) → Type 0
AreKept capacity kept set duties = (c : ℕ) → IsIn set c → option_map (duty_kept capacity) (get nat_cmp kept c) ≡ Some (duties c)

-- the command that an entry of a turn is a deed of, where a command may do that in the turn
abbrev pub doer_of : Label → Entry → Option ℕ
doer_of label (Get c b v) = if works_on label c then Some c else None
doer_of label (Put c b v) = if may_write_for label c then Some c else None
doer_of label (Harden (Command c) b) = if may_write_for label c then Some c else None
doer_of label (Passed c from to) = if works_on label c then Some c else None
doer_of label (Page c bytes) = if works_on label c then Some c else None
doer_of label (Ended c reply) = if works_on label c then Some c else None
doer_of (Work c) (Mode settings) = Some c
doer_of label other = None

-- what is left of what a command owes after an entry
abbrev pub left_at : Label → Blocks → machine.Duty → Entry → Option Plan
left_at label blocks duty e = option_and_then (left_of duty.owes) (done_by label (working_state blocks duty.asks duty.dirty_then) e)

-- the entry is as the command and the blocks have it: what is hardened is dirty; an end tells of a recovery; new mode values are
-- those that are asked for
abbrev pub is_as_told : Known → Blocks → machine.Duty → Entry → Bool
is_as_told known blocks duty (Harden who b) = is_dirty (blocks b.0)
is_as_told known blocks duty (Ended c reply) = ends_as_told duty.owes duty reply
is_as_told known blocks duty (Mode settings) = are_asked known.capacity (state_of known) duty duty.asks settings
is_as_told known blocks duty other = true

-- a command after an entry that is what it owes
abbrev pub duty_done : Known → Label → Blocks → machine.Duty → Entry → Option machine.Duty
duty_done known label blocks duty e =
    if is_as_told known blocks duty e then option_map (λ plan. record duty { owes = Some plan }) (left_at label blocks duty e) else None

-- the command is in no more after this entry
abbrev pub is_over : Entry → ℕ → Bool
is_over (Ended c reply) d = d == c
is_over (Aborted c) d = d == c
is_over Cut d = true
is_over other d = false

-- LOG SENSE shows the same of two scans
abbrev pub ShowSame : ℕ → Scan → Scan → Type 0
ShowSame capacity a b = ((active : Bool) → scan_shown capacity active a ≡ scan_shown capacity active b) × (a.findings ≡ b.findings)

-- these are the addresses of the dirty blocks
abbrev pub AreMarked : Blocks → List ℕ → Type 0
AreMarked blocks dirty = (b : ℕ) → is_dirty (blocks b) ≡ list_any (λ a. a == b) dirty

-- what is kept stands for a state, as far as commands go, on a unit of so many blocks
pub record Stands (capacity : ℕ) (kept : Kept) (s : State) : Type 0 where
  -- a unit has from 1 to 4,096 blocks
  pub some : 1 ≤ capacity
  pub few : capacity ≤ 4096
  pub unit : kept.known.capacity ≡ capacity
  -- what the calls below need: passes are counted up to 65,535; only known attentions wait; numbers rise
  pub counted : kept.known.scan.scanned < 65536 * capacity
  pub warned : KnownWait kept.known.waiting
  pub older : All (λ m. m.task.c ≤ kept.arrived) kept.set
  -- each part is the state's
  pub arrived : kept.arrived ≡ s.arrived
  pub set : kept.set ≡ s.set
  pub duties : AreKept capacity kept.duties s.set s.duties
  pub settings : kept.known.settings ≡ s.settings
  pub waiting : kept.known.waiting ≡ s.waiting
  pub corrupt : kept.known.corrupt ≡ s.corrupt
  pub scan : ShowSame capacity (scan_of kept.known.scan) s.scan
  pub dirty : kept.dirty.items ≡ s.dirty
  pub marked : AreMarked s.blocks s.dirty

-- a step that may come or not: what is kept stands for the state after it, where it may
abbrev pub Takes : ℕ → (State → Bool) → (State → State) → Kept → Kept → Bool → Type 0
Takes capacity lawful after old new may =
    (s : State) → Stands capacity old s → (may ≡ lawful s) × (IsTrue may → Stands capacity new (after s))

-- entries of the drive on its own, of the power and of the time, which belong to no command
abbrev pub comes_alone : ℕ → Entry → Bool
comes_alone capacity (GiveUp b) = nat_lt b.0 capacity
comes_alone capacity (Logged finding) = fits_a_byte finding
comes_alone capacity (PoweredOn outcome) = outcome_lawful outcome
comes_alone capacity (Harden Drive b) = true
comes_alone capacity (Scanned b what) = true
comes_alone capacity Cut = true
comes_alone capacity (Tick minutes) = true
comes_alone capacity other = false

-- neither does a command come with this entry, nor does one start
abbrev pub IsLater : Entry → Type 0
IsLater (Arrived c i t a cdb sent) = ⊥
IsLater (Started c) = ⊥
IsLater other = Unit {0}

-- entries may come one after another
abbrev pub all_lawful : ℕ → Label → State → List Entry → Bool
all_lawful capacity label s entries = all_along (entry_after capacity label) (entry_lawful capacity label) s entries

-- the turn isn't an arrival
abbrev pub IsNoArrival : Label → Type 0
IsNoArrival (Arrive i) = ⊥
IsNoArrival other = Unit {0}

-- what the turn of an arrival begins with, where so many commands came before it
abbrev pub BeginsArrival : ℕ → Entry → Type 0
BeginsArrival arrived (Arrived c i t a cdb sent) = c ≡ arrived + 1
BeginsArrival arrived (Asked i what) = Unit {0}
BeginsArrival arrived other = ⊥

-- what else may stand in it
abbrev pub IsOfArrival : Entry → Type 0
IsOfArrival (Asked i what) = Unit {0}
IsOfArrival (Ended c reply) = Unit {0}
IsOfArrival (Aborted c) = Unit {0}
IsOfArrival other = ⊥
