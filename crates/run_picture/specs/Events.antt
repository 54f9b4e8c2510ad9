-- What entries are in a picture.
use Rattle.std.specs.Prelude.{ℕ}
use Rattle.disk_base.specs.declared.address.Lba.{Lba}
use Rattle.disk_base.specs.declared.block.Value.{Value}
use Rattle.disk_base.specs.declared.block.Value.TheVariants.{Data, Lost}
use Rattle.block_machine.specs.declared.entry.Entry.{Entry}
use Rattle.block_machine.specs.declared.entry.Entry.TheVariants.{Arrived, Started, Get, Put, Harden, Passed, GiveUp, Page, Ended, Aborted, Asked, Mode, Scanned, Logged, Cut, PoweredOn, Tick, Blank, Fresh}
use Rattle.run_picture.specs.declared.event.Event.{Event}
use Rattle.run_picture.specs.declared.event.Event.TheVariants.{Came, Began, Answered, Gone, Got, Missed, Wrote, Hardened, GivenUp, FoundClean, Gave, Requested, ModeChanged, Visited, Noted, PowerOff, PowerOn, Waited, Emptied, Filled}

-- a get brings a block's data, or finds it lost
abbrev pub event_of_get : ℕ → Lba → Value → Event
event_of_get c b (Data block) = Got c b
event_of_get c b Lost = Missed c b

-- what an entry tells, without its data
abbrev pub event_of : Entry → Event
event_of (Arrived c i t a cdb sent) = Came c i
event_of (Started c) = Began c
event_of (Get c b value) = event_of_get c b value
event_of (Put c b block) = Wrote c b
event_of (Harden who b) = Hardened who b
event_of (Passed c from to) = FoundClean c from to
event_of (GiveUp b) = GivenUp b
event_of (Page c bytes) = Gave c
event_of (Ended c reply) = Answered c reply.status
event_of (Aborted c) = Gone c
event_of (Asked i what) = Requested i
event_of (Mode settings) = ModeChanged
event_of (Scanned b what) = Visited b
event_of (Logged finding) = Noted finding.status finding.b
event_of Cut = PowerOff
event_of (PoweredOn outcome) = PowerOn
event_of (Tick minutes) = Waited
event_of (Blank c) = Emptied c
event_of (Fresh c) = Filled c
