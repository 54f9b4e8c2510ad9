-- Which entries, operations and labels there are: their numbers are in the ranges of their types, findings are what minutes,
-- status and block give, and what happens from outside is a line that a script of some drive may have.
use Rattle.std.specs.Prelude.{◌≡◌, ℕ, ◌<◌, ◌≤◌, ⊤, List, length, Option, Some, None, ℤ, pos, negsuc}
use Rattle.hex.specs.Hex.{IsBytes}
use Rattle.disk_base.specs.declared.block.Value.{Value}
use Rattle.disk_base.specs.declared.block.Value.TheVariants.{Data, Lost}
use Rattle.sense_data.specs.declared.sense.Sense.{Sense}
use Rattle.sense_data.specs.Sense.{IsSense}
use Rattle.block_machine.specs.declared.entry.Who.{Who}
use Rattle.block_machine.specs.declared.entry.Who.TheVariants.{Command, Drive}
use Rattle.block_machine.specs.declared.entry.Recovered.{Recovered}
use Rattle.block_machine.specs.declared.entry.Recovered.TheVariants.{Ready, Corrupt, Formatting}
use Rattle.block_machine.specs.declared.entry.Entry.{Entry}
use Rattle.block_machine.specs.declared.entry.Entry.TheVariants.{Arrived, Started, Get, Put, Harden, Passed, GiveUp, Page, Ended, Aborted, Asked, Mode, Scanned, Logged, Cut, PoweredOn, Tick, Blank, Fresh}
use Rattle.block_machine.specs.declared.turn.Label.{Label}
use Rattle.block_machine.specs.declared.turn.Label.TheVariants.{Arrive, Work, Job, Scan, Destage, World}
use Rattle.script_text.specs.Proper.{IsAsked, IsCommand, IsEvent}
use Rattle.report_text.specs.declared.shown.Shown.{Shown}
use Rattle.report_text.specs.declared.shown.Shown.TheVariants.{Wrote, Torn, WriteFailed, Damaged, Faulty, Fetched, Tried, Cut as CutOff, Power}
use Rattle.report_text.specs.Findings.{finding_of}

-- numbers of 32 and of 64 bits
abbrev pub IsShort : ℕ → Type 0
IsShort n = n ≤ 4294967295

abbrev pub IsLong : ℕ → Type 0
IsLong n = n ≤ 18446744073709551615

-- a head offset of 8 bits
abbrev pub IsOffset : ℤ → Type 0
IsOffset (pos n) = n ≤ 127
IsOffset (negsuc n) = n ≤ 127

abbrev pub IsShown : Shown → Type 0
IsShown (Wrote p) = IsShort p.0
IsShown (Torn p left) = IsShort p.0
IsShown (WriteFailed p) = IsShort p.0
IsShown (Damaged p) = IsShort p.0
IsShown (Faulty p) = IsShort p.0
IsShown (Fetched p attempt) = IsShort p.0 × (attempt.reread ≤ 255) × IsOffset attempt.offset
IsShown (Tried p stage found) = IsShort p.0 × (stage ≤ 255)
IsShown CutOff = ⊤
IsShown Power = ⊤

-- the data of a block
abbrev pub IsBlock : List ℕ → Type 0
IsBlock block = (length block ≡ 512) × IsBytes block

abbrev pub IsValue : Value → Type 0
IsValue (Data block) = IsBlock block
IsValue Lost = ⊤

abbrev pub IsWho : Who → Type 0
IsWho (Command c) = IsShort c
IsWho Drive = ⊤

abbrev pub MaySay : Option Sense → Type 0
MaySay None = ⊤
MaySay (Some sense) = IsSense sense

abbrev pub IsRecovered : Recovered → Type 0
IsRecovered (Ready number) = IsLong number
IsRecovered (Corrupt slot) = slot ≤ 255
IsRecovered (Formatting number) = IsLong number

-- an entry, so many minutes after the power came on
abbrev pub IsEntry : ℕ → Entry → Type 0
IsEntry minutes (Arrived c i t a cdb sent) = IsShort c × IsCommand i t.0 cdb sent
IsEntry minutes (Started c) = IsShort c
IsEntry minutes (Get c b value) = IsShort c × IsLong b.0 × IsValue value
IsEntry minutes (Put c b block) = IsShort c × IsLong b.0 × IsBlock block
IsEntry minutes (Harden who b) = IsWho who × IsLong b.0
IsEntry minutes (Passed c from to) = IsShort c × IsLong from.0 × IsLong to.0
IsEntry minutes (GiveUp b) = IsLong b.0
IsEntry minutes (Page c bytes) = IsShort c × IsBytes bytes
IsEntry minutes (Ended c reply) = IsShort c × (reply.status < 256) × MaySay reply.sense
IsEntry minutes (Aborted c) = IsShort c
IsEntry minutes (Asked i what) = (1 ≤ i) × (i ≤ 8) × IsAsked what
IsEntry minutes (Mode settings) = settings.retry ≤ 255
IsEntry minutes (Scanned b what) = IsLong b.0
IsEntry minutes (Logged finding) = (finding.status ≤ 255) × IsLong finding.b.0 × (finding_of minutes finding.status finding.b ≡ Some finding)
IsEntry minutes Cut = ⊤
IsEntry minutes (PoweredOn outcome) = IsRecovered outcome
IsEntry minutes (Tick n) = n ≤ 65535
IsEntry minutes (Blank c) = IsShort c
IsEntry minutes (Fresh c) = IsShort c

-- the greatest drive has 4,096 sectors
abbrev pub IsLabel : Label → Type 0
IsLabel (Arrive i) = (1 ≤ i) × (i ≤ 8)
IsLabel (Work c) = IsShort c
IsLabel (Job j) = IsShort j
IsLabel Scan = ⊤
IsLabel Destage = ⊤
IsLabel (World event) = IsEvent 4096 event
