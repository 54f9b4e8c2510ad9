-- What a turn of taking a block's value finds, and what the command is answered.
use Rattle.std.specs.Prelude.{◌≡◌, ℕ, Bool, true, List, [], ◌∷◌, Option, Some, None}
use Rattle.disk_base.specs.declared.address.Lba.{Lba}
use Rattle.disk_base.specs.declared.block.Value.{Value}
use Rattle.disk_base.specs.declared.block.Value.TheVariants.{Lost}
use Rattle.sector_store.specs.declared.answer.TryAnswer.{TryAnswer}
use Rattle.sector_store.specs.declared.answer.TryAnswer.TheVariants.{Found, Nothing, Off}
use Rattle.sector_store.specs.declared.caching.Search.{Search}
use Rattle.sector_store.specs.State.{Contained}
use Rattle.sector_store.specs.Caching.{IsSought}
use Rattle.command_engine.specs.declared.answer.Answer.{Answer}
use Rattle.command_engine.specs.declared.answer.Answer.TheVariants.{Got, Missed}
use Rattle.command_engine.specs.declared.need.Need.TheVariants.{Take}
use Rattle.block_machine.specs.declared.entry.Entry.{Entry}
use Rattle.block_machine.specs.declared.entry.Entry.TheVariants.{Get}
use Rattle.drive_core.specs.declared.accepted.Errand.{Errand}
use Rattle.drive_core.specs.declared.taking.Sought.{Sought}

-- what the store is to seek for a command that reads
abbrev pub search_for : Sought → Search
search_for q = record { b = q.b; medium = q.medium; stage = q.stage; rcd = q.settings.rcd; keeps = q.gives }

-- what a command that reads is answered, by what the store found
abbrev pub answer_of : TryAnswer → Answer
answer_of (Found v) = Got v
answer_of Nothing = Missed
answer_of Off = Missed

-- the store sought a block's value for a command, which is answered so
pub record IsTaken (old : Contained) (q : Sought) (answer : Answer) (new : Contained) : Type 0 where
  pub seen : TryAnswer
  pub answered : answer ≡ answer_of seen
  pub sought : IsSought old (search_for q) seen new

-- the value that a command gets with an answer: it is lost where that was the last stage's
abbrev pub value_got : Answer → Bool → Option Value
value_got (Got v) over = Some v
value_got Missed true = Some Lost
value_got answer over = None

-- the entry of a value that is got
abbrev pub got_entries : ℕ → Lba → Option Value → List Entry
got_entries c b None = []
got_entries c b (Some v) = Get c b v ∷ []

-- a command needs this value
abbrev pub errand_for : Sought → Errand
errand_for q = record { need = Take q.b q.medium q.stage; settings = q.settings; gives = q.gives }
