-- Words for histories in examples.
use Rattle.std.proofs.Common.{ℕ, zero, suc, ◌+◌, ◌/◌, ◌%◌, Bool, List, [], ◌∷◌, ◌++◌, length}
use Rattle.std.specs.Prelude.{replicate, Option, Some, None}
use Rattle.disk_base.specs.declared.address.Lba.{Lba}
use Rattle.disk_base.specs.declared.block.Value.TheVariants.{Data, Lost}
use Rattle.disk_base.specs.declared.command.Attribute.{Attribute}
use Rattle.disk_base.specs.declared.command.Attribute.TheVariants.{Simple}
use Rattle.disk_base.specs.declared.command.DataOut.{DataOut}
use Rattle.disk_base.specs.declared.command.DataOut.TheVariants.{Nothing, Fill, Given}
use Rattle.disk_base.specs.declared.command.Function.{Function}
use Rattle.sense_data.specs.declared.sense.Sense.{Sense}
use Rattle.sense_data.specs.Sense.{sense_of}
use Rattle.sense_data.specs.Attentions.{none_waiting}
use Rattle.cdb_reader.specs.Replies as replies
use Rattle.mode_pages.specs.declared.settings.Settings.{Settings}
use Rattle.platter_model.specs.declared.world.World.TheVariants as world
use Rattle.block_machine.specs.declared.entry.Seen.{Seen}
use Rattle.block_machine.specs.declared.entry.Seen.TheVariants.{Light}
use Rattle.block_machine.specs.declared.entry.Recovered.{Recovered}
use Rattle.block_machine.specs.declared.entry.Who.TheVariants.{Command, Drive}
use Rattle.block_machine.specs.declared.entry.Entry.{Entry}
use Rattle.block_machine.specs.declared.entry.Entry.TheVariants.{Arrived, Started, Get, Put, Harden, Passed, GiveUp, Ended, Aborted, Asked, Mode, Scanned, Cut, PoweredOn, Tick}
use Rattle.block_machine.specs.declared.turn.Label.{Label}
use Rattle.block_machine.specs.declared.turn.Label.TheVariants.{Arrive, Work, Job, Scan, Destage, World}
use Rattle.block_machine.specs.declared.turn.Turn.{Turn}
use Rattle.block_machine.specs.Attentions.{attentions_at_start}
use Rattle.block_machine.specs.State.{State, state_at_start}
use Rattle.block_machine.specs.History.{legal, legal_from, first_unlawful}

abbrev pub turn : Label → List Entry → Turn
turn label entries = record { label = label; ops_from = 0; ops_to = 0; entries = entries }

abbrev pub lba : ℕ → Lba
lba b = record { 0 = b }

-- a block whose bytes are all this one
abbrev pub all_of : ℕ → List ℕ
all_of byte = replicate 512 byte

-- command blocks of ten bytes with an operation code, the flags of byte 1, an address and a count
abbrev pub ten : ℕ → ℕ → ℕ → ℕ → List ℕ
ten code flags b count = code ∷ flags ∷ 0 ∷ 0 ∷ b / 256 ∷ b % 256 ∷ 0 ∷ count / 256 ∷ count % 256 ∷ 0 ∷ []

abbrev pub fua : ℕ
fua = 0x08

abbrev pub read : ℕ → ℕ → List ℕ
read b count = ten 0x28 0 b count

abbrev pub write : ℕ → ℕ → List ℕ
write b count = ten 0x2A 0 b count

abbrev pub forced_read : ℕ → ℕ → List ℕ
forced_read b count = ten 0x28 fua b count

abbrev pub forced_write : ℕ → ℕ → List ℕ
forced_write b count = ten 0x2A fua b count

abbrev pub write_and_verify : ℕ → ℕ → List ℕ
write_and_verify b count = ten 0x2E 0 b count

abbrev pub verify : ℕ → ℕ → List ℕ
verify b count = ten 0x2F 0 b count

abbrev pub sync : ℕ → ℕ → List ℕ
sync b count = ten 0x35 0 b count

abbrev pub test_unit_ready : List ℕ
test_unit_ready = replicate 6 0

-- REASSIGN BLOCKS, and its parameter list
abbrev pub reassign : List ℕ
reassign = 0x07 ∷ 0 ∷ 0 ∷ 0 ∷ 0 ∷ 0 ∷ []

abbrev pub blocks_named : List ℕ → DataOut
blocks_named [] = Given (0 ∷ 0 ∷ 0 ∷ 0 ∷ [])
blocks_named (b ∷ []) = Given (0 ∷ 0 ∷ 0 ∷ 4 ∷ 0 ∷ 0 ∷ 0 ∷ b ∷ [])
blocks_named (b ∷ d ∷ more) = Given (0 ∷ 0 ∷ 0 ∷ 8 ∷ 0 ∷ 0 ∷ 0 ∷ b ∷ 0 ∷ 0 ∷ 0 ∷ d ∷ [])

-- a command of an initiator comes, with a tag that is its number; it is SIMPLE
abbrev pub comes_as : Attribute → ℕ → ℕ → List ℕ → DataOut → Turn
comes_as attribute c i cdb sent = turn (Arrive i) (Arrived c i (record { 0 = c }) attribute cdb sent ∷ [])

abbrev pub sends : ℕ → ℕ → List ℕ → DataOut → Turn
sends c i cdb sent = comes_as Simple c i cdb sent

abbrev pub comes : ℕ → ℕ → List ℕ → Turn
comes c i cdb = sends c i cdb Nothing

-- commands that a function ends
abbrev pub gone : List ℕ → List Entry
gone [] = []
gone (c ∷ cs) = Aborted c ∷ gone cs

-- an initiator asks for a function, which ends these commands
abbrev pub asks : ℕ → Function → List ℕ → Turn
asks i what cs = turn (Arrive i) (Asked i what ∷ gone cs)

abbrev pub starts : ℕ → Turn
starts c = turn (Work c) (Started c ∷ [])

-- a command starts, and does all this in the same turn
abbrev pub at_once : ℕ → List Entry → Turn
at_once c entries = turn (Work c) (Started c ∷ entries)

abbrev pub works : ℕ → List Entry → Turn
works c entries = turn (Work c) entries

abbrev pub moves : ℕ → List Entry → Turn
moves j entries = turn (Job j) entries

-- entries by the words of a report
abbrev pub get : ℕ → ℕ → ℕ → Entry
get c b byte = Get c (lba b) (Data (all_of byte))

abbrev pub get_bad : ℕ → ℕ → Entry
get_bad c b = Get c (lba b) Lost

abbrev pub put : ℕ → ℕ → ℕ → Entry
put c b byte = Put c (lba b) (all_of byte)

abbrev pub hard : ℕ → ℕ → Entry
hard c b = Harden (Command c) (lba b)

abbrev pub hard_by_drive : ℕ → Entry
hard_by_drive b = Harden Drive (lba b)

abbrev pub pass : ℕ → ℕ → ℕ → Entry
pass c from to = Passed c (lba from) (lba to)

abbrev pub lose : ℕ → Entry
lose b = GiveUp (lba b)

abbrev pub good : ℕ → Entry
good c = Ended c replies.good

abbrev pub check : ℕ → Sense → Entry
check c sense = Ended c (replies.check_condition sense)

-- sense data with a key and codes alone
abbrev pub fails : ℕ → ℕ → ℕ → ℕ → Entry
fails c key asc ascq = check c (sense_of key asc ascq)

-- .. and with INFORMATION
abbrev pub fails_at : ℕ → ℕ → ℕ → ℕ → ℕ → Entry
fails_at c key asc ascq b = check c (record (sense_of key asc ascq) { information = Some b })

-- RECOVERED DATA WITH RETRIES at a block
abbrev pub recovered : ℕ → ℕ → Entry
recovered c b = fails_at c 1 0x17 0x01 b

-- TASK SET FULL
abbrev pub full : ℕ → Entry
full c = Ended c (record { status = 0x28; sense = None })

-- a new drive, and one that has told every initiator that the power came on
abbrev pub new_drive : State
new_drive = state_at_start attentions_at_start

abbrev pub told_drive : State
told_drive = state_at_start none_waiting

-- the capacity of the default disk
abbrev pub disk : ℕ
disk = 912

-- legal once every initiator was told, and from the start on
abbrev pub is_legal : List Turn → Bool
is_legal turns = legal_from disk told_drive turns

abbrev pub is_legal_on : List Turn → Bool
is_legal_on turns = legal disk turns

-- the number of the first turn that may not come, of the same two
abbrev pub stops_at : List Turn → Option ℕ
stops_at turns = first_unlawful disk told_drive turns

abbrev pub stops_on_at : List Turn → Option ℕ
stops_on_at turns = first_unlawful disk new_drive turns

-- the power goes off, and comes on again with this outcome
abbrev pub cut : Turn
cut = turn (World world.Cut) (Cut ∷ [])

abbrev pub power : Recovered → Turn
power outcome = turn (World world.Power) (PoweredOn outcome ∷ [])

abbrev pub minutes : ℕ → Turn
minutes n = turn (World (world.Minutes n)) (Tick n ∷ [])

-- the scan is done with a block
abbrev pub scans : ℕ → Seen → List Entry → Turn
scans b what entries = turn Scan (Scanned (lba b) what ∷ entries)

abbrev pub destages : List Entry → Turn
destages entries = turn Destage entries

-- TEST UNIT READY of an initiator that is told this attention, as the c-th command
abbrev pub told : ℕ → ℕ → ℕ → ℕ → List Turn
told c i asc ascq = comes c i test_unit_ready ∷ at_once c (fails c 6 asc ascq ∷ []) ∷ []

-- .. and of one that nothing waits for
abbrev pub ready : ℕ → ℕ → List Turn
ready c i = comes c i test_unit_ready ∷ at_once c (good c ∷ []) ∷ []

-- a read of one block that gives this
abbrev pub reads : ℕ → ℕ → ℕ → List Turn
reads c b byte = comes c 1 (read b 1) ∷ starts c ∷ works c (get c b byte ∷ good c ∷ []) ∷ []

-- a read of one block that no stage finds
abbrev pub reads_bad : ℕ → ℕ → List Turn
reads_bad c b = comes c 1 (read b 1) ∷ starts c ∷ works c (get_bad c b ∷ fails_at c 3 0x11 0x00 b ∷ []) ∷ []

-- a write of one block into the cache
abbrev pub writes : ℕ → ℕ → ℕ → List Turn
writes c b byte = sends c 1 (write b 1) (Fill byte) ∷ starts c ∷ works c (put c b byte ∷ good c ∷ []) ∷ []

-- a write of one block through to the medium
abbrev pub forces : ℕ → ℕ → ℕ → List Turn
forces c b byte = sends c 1 (forced_write b 1) (Fill byte) ∷ starts c ∷ works c (put c b byte ∷ hard c b ∷ good c ∷ []) ∷ []

-- a write of one block without FUA that goes through all the same
abbrev pub hardens_plainly : ℕ → ℕ → ℕ → List Turn
hardens_plainly c b byte = sends c 1 (write b 1) (Fill byte) ∷ starts c ∷ works c (put c b byte ∷ hard c b ∷ good c ∷ []) ∷ []

-- turns that only tried a sector
abbrev pub tries : ℕ → ℕ → List Turn
tries c zero = []
tries c (suc n) = works c [] ∷ tries c n

-- MODE SELECT (10) of one page that changes the mode values
abbrev pub selects : ℕ → List ℕ → Settings → List Turn
selects c page made = sends c 1 (0x55 ∷ 0x10 ∷ 0 ∷ 0 ∷ 0 ∷ 0 ∷ 0 ∷ 0 ∷ (8 + length page) ∷ 0 ∷ []) (Given (replicate 8 0 ++ page))
    ∷ at_once c (Mode made ∷ good c ∷ []) ∷ []

-- the error recovery page with these bits of AWRE, ARRE and PER, and five retries
abbrev pub recovery_page : ℕ → List ℕ
recovery_page bits = 0x01 ∷ 0x0A ∷ bits ∷ 0x05 ∷ replicate 8 0

-- the scan finds so many blocks at once, from one on
abbrev pub scans_light : ℕ → ℕ → List Turn
scans_light b zero = []
scans_light b (suc n) = scans b Light [] ∷ scans_light (b + 1) n

-- a command for which there is no room
abbrev pub comes_full : ℕ → ℕ → List ℕ → Turn
comes_full c i cdb = turn (Arrive i) (Arrived c i (record { 0 = c }) Simple cdb Nothing ∷ full c ∷ [])
