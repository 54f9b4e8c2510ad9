-- What laws find among entries: commands from their arrival to their end, and gets, puts and hardens of a block.
use Rattle.std.specs.Prelude.{◌≡◌, ℕ, List, ◌∷◌, ◌++◌, Result}
use Rattle.disk_base.specs.declared.address.Lba.{Lba}
use Rattle.disk_base.specs.declared.address.Tag.{Tag}
use Rattle.disk_base.specs.declared.block.Value.TheVariants.{Data}
use Rattle.disk_base.specs.declared.command.Attribute.{Attribute}
use Rattle.disk_base.specs.declared.command.DataOut.{DataOut}
use Rattle.sense_data.specs.declared.sense.Sense.{Sense}
use Rattle.sense_data.specs.declared.reply.Reply.{Reply}
use Rattle.cdb_reader.specs.Read.{read_of}
use Rattle.cdb_reader.specs.Request.{Request}
use Rattle.block_machine.specs.declared.entry.Who.{Who}
use Rattle.block_machine.specs.declared.entry.Entry.{Entry}
use Rattle.block_machine.specs.declared.entry.Entry.TheVariants.{Arrived, Started, Get, Put, Harden, Ended}
use Rattle.block_machine.specs.declared.turn.Turn.{Turn}
use Rattle.block_machine.specs.History.{entries_of}

-- a command as it arrives
pub record Command : Type 0 where
  pub number : ℕ
  pub initiator : ℕ
  pub tag : Tag
  pub attribute : Attribute
  pub cdb : List ℕ
  pub sent : DataOut

-- its arrival
abbrev pub arrival : Command → Entry
arrival x = Arrived x.number x.initiator x.tag x.attribute x.cdb x.sent

-- what it asks for on a disk of so many blocks
abbrev pub asked : ℕ → Command → Result Request Sense
asked capacity x = read_of x.cdb x.sent capacity

-- a command that was answered, among the entries of turns: what came before it arrived, from then to its end with a reply, and
-- behind that
pub record Answered (turns : List Turn) : Type 0 where
  pub command : Command
  pub reply : Reply
  pub before : List Entry
  pub between : List Entry
  pub behind : List Entry
  pub whole : entries_of turns ≡ before ++ arrival command ∷ (between ++ Ended command.number reply ∷ behind)

-- a command's life among the entries of turns: what came before it arrived, while it waited, from its start to its end with a
-- reply, and behind that
pub record Life (turns : List Turn) : Type 0 where
  pub command : Command
  pub reply : Reply
  pub before : List Entry
  pub queued : List Entry
  pub during : List Entry
  pub behind : List Entry
  pub whole : entries_of turns ≡ before ++ arrival command ∷ (queued ++ Started command.number ∷ (during ++ Ended command.number reply ∷ behind))

-- all that came before its start
abbrev pub before_start : {turns : List Turn} → Life turns → List Entry
before_start life = life.before ++ arrival life.command ∷ life.queued

-- all that came from its arrival to its end
abbrev pub since_arrival : {turns : List Turn} → Life turns → List Entry
since_arrival life = life.queued ++ Started life.command.number ∷ life.during

-- a get of a block that isn't bad, among entries: by which command, which data it brought, and what came before and behind
pub record GetOf (b : Lba) (entries : List Entry) : Type 0 where
  pub reader : ℕ
  pub block : List ℕ
  pub before : List Entry
  pub behind : List Entry
  pub whole : entries ≡ before ++ Get reader b (Data block) ∷ behind

-- a put of a block
pub record PutOf (b : Lba) (entries : List Entry) : Type 0 where
  pub writer : ℕ
  pub block : List ℕ
  pub before : List Entry
  pub behind : List Entry
  pub whole : entries ≡ before ++ Put writer b block ∷ behind

-- a harden of a block
pub record HardenOf (b : Lba) (entries : List Entry) : Type 0 where
  pub who : Who
  pub before : List Entry
  pub behind : List Entry
  pub whole : entries ≡ before ++ Harden who b ∷ behind
