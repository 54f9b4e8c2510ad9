-- Laws on commands from their arrival to their end, in words on entries alone.
use Rattle.std.specs.Prelude.{◌≡◌, ℕ, zero, suc, ◌+◌, ◌<◌, ◌≤◌, ◌==◌, if◌then◌else◌, IsTrue, List, [], ◌∷◌, ◌++◌, fold, Result, Ok}
use Rattle.disk_base.specs.declared.address.Lba.{Lba}
use Rattle.disk_base.specs.declared.command.DataOut.{DataOut}
use Rattle.sense_data.specs.declared.sense.Sense.{Sense}
use Rattle.cdb_reader.specs.Request.{Request}
use Rattle.cdb_reader.specs.Request as request
use Rattle.cdb_reader.specs.Plan.{block_of}
use Rattle.block_machine.specs.declared.entry.Entry.{Entry}
use Rattle.block_machine.specs.declared.entry.Entry.TheVariants.{Started, Put}
use Rattle.block_machine.specs.declared.turn.Turn.{Turn}
use Rattle.block_machine.specs.Parts.{Life, GetOf, PutOf, HardenOf, asked, before_start}
use Rattle.block_machine.specs.Laws.{renews, NoneRenews, NoneCuts, succeeds, settings_left, AsksToForce}

-- data put at a block
pub record Written : Type 0 where
  pub at : ℕ
  pub block : List ℕ

abbrev pub puts_after : ℕ → List Written → Entry → List Written
puts_after c puts (Put d b v) = if c == d then puts ++ record { at = b.0; block = v } ∷ [] else puts
puts_after c puts other = puts

-- all that a command put, in order
abbrev pub puts_of : ℕ → List Entry → List Written
puts_of c entries = fold (puts_after c) [] entries

-- so many blocks from one on with their data
abbrev pub blocks_sent : ℕ → DataOut → ℕ → List Written
blocks_sent b sent zero = []
blocks_sent b sent (suc k) = blocks_sent b sent k ++ record { at = b + k; block = block_of sent k } ∷ []

-- a write of any kind of so many blocks from one on
abbrev pub AsksToWrite : Result Request Sense → ℕ → ℕ → Type 0
AsksToWrite (Ok (request.Write from count fua)) b n = (from ≡ b) × (count ≡ n)
AsksToWrite (Ok (request.WriteAndVerify from count)) b n = (from ≡ b) × (count ≡ n)
AsksToWrite other b n = ⊥

-- a law: a write of any kind that ends GOOD, or with a recovered error, put each of its blocks, once, in order and with its data
abbrev pub WritesPutEachBlockOnce : ℕ → List Turn → Type 0
WritesPutEachBlockOnce capacity turns = (write : Life turns) (b n : ℕ)
    → AsksToWrite (asked capacity write.command) b n → IsTrue (succeeds write.reply)
    → puts_of write.command.number write.during ≡ blocks_sent b write.command.sent n

-- a sync of a range with this block
abbrev pub AsksToSync : Result Request Sense → ℕ → Type 0
AsksToSync (Ok (request.SynchronizeCache from count)) b = (from ≤ b) × (b < from + count)
AsksToSync other b = ⊥

-- something newer than the medium has came to a block, among entries: it was put, or given up
pub record RenewalOf (b : Lba) (entries : List Entry) : Type 0 where
  pub entry : Entry
  pub renewing : IsTrue (renews b.0 entry)
  pub before : List Entry
  pub behind : List Entry
  pub whole : entries ≡ before ++ entry ∷ behind

-- a law: where something newer came to a block of a sync's range before the sync started, and the power stayed on from then to the
-- start, the block is hardened behind that before the sync ends GOOD
abbrev pub SyncsHardenWhatWasPut : ℕ → List Turn → Type 0
SyncsHardenWhatWasPut capacity turns = (b : Lba) (sync : Life turns) (renewal : RenewalOf b (before_start sync))
    → AsksToSync (asked capacity sync.command) b.0 → IsTrue (succeeds sync.reply)
    → NoneCuts renewal.behind
    → HardenOf b (renewal.behind ++ Started sync.command.number ∷ sync.during)

-- a law: what a write put that goes through and ends GOOD, or with a recovered error, is what each later read of the block gives
-- that isn't bad, over any power cuts, until something newer is put or the block is given up
abbrev pub ForcedWritesStand : ℕ → List Turn → Type 0
ForcedWritesStand capacity turns = (b : Lba) (write : Life turns) (put : PutOf b write.during) (get : GetOf b write.behind) (from count : ℕ)
    → AsksToForce (asked capacity write.command) (settings_left (before_start write)) from count → IsTrue (succeeds write.reply)
    → put.writer ≡ write.command.number
    → NoneRenews b.0 put.behind → NoneRenews b.0 get.before
    → get.block ≡ put.block

-- a law: so is what was put at a block of a sync's range before the sync started, where the power stayed on from the put to the
-- start, once the sync has ended GOOD
abbrev pub SyncedValuesStand : ℕ → List Turn → Type 0
SyncedValuesStand capacity turns = (b : Lba) (sync : Life turns) (put : PutOf b (before_start sync)) (get : GetOf b sync.behind)
    → AsksToSync (asked capacity sync.command) b.0 → IsTrue (succeeds sync.reply)
    → NoneCuts put.behind
    → NoneRenews b.0 put.behind → NoneRenews b.0 sync.during → NoneRenews b.0 get.before
    → get.block ≡ put.block
