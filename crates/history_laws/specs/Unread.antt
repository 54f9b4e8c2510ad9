-- How a command comes to end with UNRECOVERED READ ERROR, in words on entries alone.
use Rattle.std.specs.Prelude.{◌≡◌, ℕ, ◌==◌, if◌then◌else◌, IsTrue, List, ◌∷◌, ◌++◌, fold, Option, Some, None}
use Rattle.disk_base.specs.declared.block.Value.TheVariants.{Data, Lost}
use Rattle.sense_data.specs.declared.reply.Reply.{Reply}
use Rattle.cdb_reader.specs.Replies.{same_reply, unrecovered_read}
use Rattle.block_machine.specs.declared.entry.Who.TheVariants.{Command}
use Rattle.block_machine.specs.declared.entry.Entry.{Entry}
use Rattle.block_machine.specs.declared.entry.Entry.TheVariants.{Get, Put, Harden, Passed, Ended}
use Rattle.block_machine.specs.declared.turn.Turn.{Turn}

-- the block that a command got bad, where that was the last that it did to a block, after an entry
abbrev pub bad_after : ℕ → Option ℕ → Entry → Option ℕ
bad_after c bad (Get d b Lost) = if c == d then Some b.0 else bad
bad_after c bad (Get d b (Data v)) = if c == d then None else bad
bad_after c bad (Put d b v) = if c == d then None else bad
bad_after c bad (Harden (Command d) b) = if c == d then None else bad
bad_after c bad (Passed d from to) = if c == d then None else bad
bad_after c bad other = bad

-- after entries
abbrev pub last_bad : ℕ → List Entry → Option ℕ
last_bad c entries = fold (bad_after c) None entries

-- an end of a command in a turn of a history: the turns before and behind, and the entries of the turn before and behind
pub record EndIn (turns : List Turn) : Type 0 where
  pub number : ℕ
  pub reply : Reply
  pub turn : Turn
  pub before : List Turn
  pub behind : List Turn
  pub earlier : List Entry
  pub later : List Entry
  pub among : turns ≡ before ++ turn ∷ behind
  pub within : turn.entries ≡ earlier ++ Ended number reply ∷ later

-- a law: where a command ends with UNRECOVERED READ ERROR at a block, whatever it asked for, the last that it did to a block in this
-- turn was a bad get of this one
abbrev pub UnreadEndsFollowBadGets : ℕ → List Turn → Type 0
UnreadEndsFollowBadGets capacity turns = (end : EndIn turns) (b : ℕ)
    → IsTrue (same_reply end.reply (unrecovered_read b))
    → last_bad end.number end.earlier ≡ Some b
