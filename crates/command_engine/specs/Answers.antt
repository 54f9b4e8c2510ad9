-- Which answers fit a need, what a command stands at after one, and the deeds that it stands for.
use Rattle.std.specs.Prelude.{ℕ, ◌+◌, ◌==◌, ◌&&◌, not, nat_lt, nat_le, is_none, unwrap_or, Bool, true, false, if◌then◌else◌, List, [], ◌∷◌, Option, Some, None}
use Rattle.disk_base.specs.declared.block.Value.TheVariants.{Data, Lost}
use Rattle.disk_base.specs.declared.address.Lba.{Lba}
use Rattle.disk_base.specs.declared.stage.MoveWhy.{MoveWhy}
use Rattle.disk_base.specs.declared.stage.MoveWhy.TheVariants.{Dirty, Reassign, GivenUp}
use Rattle.disk_base.specs.declared.stage.Stage.{Stage}
use Rattle.read_recovery.specs.Stages.{begun, next_stage, answered}
use Rattle.cdb_reader.specs.declared.plan.Moving as moving
use Rattle.cdb_reader.specs.declared.plan.Plan.{Plan}
use Rattle.cdb_reader.specs.declared.plan.Plan.TheVariants.{Ending, Unread, Answering, Reading, Writing, Syncing, Moving}
use Rattle.cdb_reader.specs.declared.plan.Deed.{Deed}
use Rattle.cdb_reader.specs.declared.plan.Deed.TheVariants as deed
use Rattle.cdb_reader.specs.Plan.{after_written, next}
use Rattle.command_engine.specs.declared.answer.Answer.{Answer}
use Rattle.command_engine.specs.declared.answer.Answer.TheVariants.{Got, Missed, Put, Hardened, WriteFault, NextDirty, Moved, NoSpare, Paged}
use Rattle.command_engine.specs.declared.need.Need.{Need}
use Rattle.command_engine.specs.declared.need.Need.TheVariants as need
use Rattle.command_engine.specs.declared.step.Recovery.{Recovery}
use Rattle.command_engine.specs.declared.step.Step.{Step}
use Rattle.command_engine.specs.declared.step.Step.TheVariants as step
use Rattle.command_engine.specs.declared.step.Step.TheVariants.{Trying, Hardening, Faulted, Spareless}
use Rattle.command_engine.specs.Course.{Course, next_block}
use Rattle.command_engine.specs.Need.{need_of, in_hand}

-- the block that comes next was hardened for this read
abbrev pub is_hardened : Plan → Bool
is_hardened (Reading r) = r.hardened
is_hardened plan = false

-- an answer fits a need. A block that was hardened for a read isn't dirty again before it is read, and a write may fault
-- where the settings move no block to a spare sector for it
abbrev pub fits_need : (moves hardened : Bool) → Need → Answer → Bool
fits_need moves hardened (need.Take b medium stage) (Got value) = true
fits_need moves hardened (need.Take b medium stage) Missed = true
fits_need moves hardened (need.Take b medium stage) (NextDirty (Some dirty)) = medium && not hardened && dirty.0 == b.0
fits_need moves hardened (need.Put b) Put = true
fits_need moves hardened (need.Put b) Hardened = true
fits_need moves hardened (need.Put b) WriteFault = not moves
fits_need moves hardened (need.PutThrough b) Hardened = true
fits_need moves hardened (need.PutThrough b) WriteFault = not moves
fits_need moves hardened (need.Harden b) Hardened = true
fits_need moves hardened (need.Harden b) WriteFault = not moves
fits_need moves hardened (need.Pass from to) (NextDirty None) = true
fits_need moves hardened (need.Pass from to) (NextDirty (Some dirty)) = nat_le from.0 dirty.0 && nat_lt dirty.0 to.0
fits_need moves hardened (need.Move b why) Moved = true
fits_need moves hardened (need.Move b why) NoSpare = true
fits_need moves hardened need.Page Paged = true
fits_need moves hardened need a = false

-- an answer fits what a command needs
abbrev pub fits : Course → Answer → Bool
fits c a = fits_need c.settings.awre (is_hardened c.plan) (need_of c) a

-- the last stage fails with this answer
abbrev pub gives_up : Step → Answer → Bool
gives_up (Trying progress) Missed = is_none (next_stage (answered progress false))
gives_up step a = false

-- the command is a list of blocks that are to be moved
abbrev pub is_moving : Plan → Bool
is_moving (Moving m) = true
is_moving plan = false

-- a block of a list waits for its move then; of another command, this is to be done
abbrev pub waits : Bool → MoveWhy → Step → Step
waits listed why other = if listed then step.Moving why else other

-- what is to be done then about the block that comes next: the next stage, or what is new. A block of a list is moved once its
-- value is known: with its newest value where it is dirty, with the value that a stage found, or as lost where all failed
abbrev pub step_after : ℕ → Bool → Step → Answer → Step
step_after retry listed (Trying progress) Missed =
    if is_none (next_stage (answered progress false)) then waits listed GivenUp (Trying (begun retry)) else Trying (answered progress false)
step_after retry listed step (Got value) = waits listed Reassign (Trying (begun retry))
step_after retry listed step (NextDirty (Some dirty)) = waits listed Dirty Hardening
step_after retry listed step WriteFault = Faulted
step_after retry listed step NoSpare = Spareless
step_after retry listed step a = Trying (begun retry)

-- with a move for this reason the block's newest value comes to the medium; what was found there is moved as it is
abbrev pub settles : MoveWhy → Bool
settles Dirty = true
settles GivenUp = true
settles why = false

-- the block of a list whose newest value comes to the medium with its move
abbrev pub settled : Plan → ℕ → Step → Option Lba
settled (Moving m) moved (step.Moving why) = if settles why then in_hand m moved else None
settled plan moved step = None

-- a list of blocks, once this one of them is hardened
abbrev pub past : moving.Moving → Option Lba → Plan
past m None = Moving m
past m (Some b) = unwrap_or (next (Moving m) (deed.Hardened b)) (Moving m)

-- the plan that is owed then
abbrev pub owed_after : Plan → (lost : Bool) → (settled : Option Lba) → Answer → Plan
owed_after (Answering bytes reply) lost settled Paged = Ending reply
owed_after (Reading r) lost settled (Got (Data d)) = Reading (record r { at = r.at + 1; hardened = false })
owed_after (Reading r) lost settled (Got Lost) = Unread r.at
owed_after (Reading r) lost settled Missed = if lost then Unread r.at else Reading r
owed_after (Reading r) lost settled Hardened = Reading (record r { hardened = true })
owed_after (Writing w) lost settled Put = after_written w
owed_after (Writing w) lost settled Hardened = after_written w
owed_after (Syncing s) lost settled Hardened = Syncing (record s { at = s.at + 1 })
owed_after (Syncing s) lost settled (NextDirty None) = Syncing (record s { at = s.end })
owed_after (Syncing s) lost settled (NextDirty (Some dirty)) = Syncing (record s { at = dirty.0 })
owed_after (Moving m) lost settled Moved = past m settled
owed_after plan lost settled a = plan

-- how many descriptors of a list were moved then
abbrev pub moved_after : Bool → ℕ → Answer → ℕ
moved_after listed moved Moved = if listed then moved + 1 else moved
moved_after listed moved a = moved

-- this block is the last that was found past the plain read, where this stage isn't that
abbrev pub found_by : ℕ → Option Stage → Option Recovery → Option Recovery
found_by b None recovered = recovered
found_by b (Some stage) recovered = if stage.number == 0 then recovered else Some (record { b = record { 0 = b }; stage = stage })

-- the last block then that was found past the plain read
abbrev pub recovered_after : Plan → Step → Answer → Option Recovery → Option Recovery
recovered_after (Reading r) (Trying progress) (Got (Data d)) recovered = found_by r.at (next_stage progress) recovered
recovered_after plan step a recovered = recovered

-- where a command stands after an answer
abbrev pub after : Course → Answer → Course
after c a = record {
  settings = c.settings;
  gives = c.gives;
  plan = owed_after c.plan (gives_up c.step a) (settled c.plan c.moved c.step) a;
  moved = moved_after (is_moving c.plan) c.moved a;
  step = step_after c.settings.retry (is_moving c.plan) c.step a;
  recovered = recovered_after c.plan c.step a c.recovered;
}

-- what only the history knows at an answer: the bytes of a page; whether the value that was got is a dirty block's; whether 64
-- other blocks were dirty as the turn began
pub record Known : Type 0 where
  pub page : List ℕ
  pub dirty : Bool
  pub full : Bool

-- the deeds that an answer to a need stands for, where `block` is the data of the block that comes next. A value that is put
-- and hardened at once is that because writes go through or the cache was full. The values of a list's blocks are got for
-- their moves alone
abbrev pub deeds : Known → (lost listed : Bool) (block : List ℕ) → Need → Answer → List Deed
deeds known lost listed block (need.Take b medium stage) (Got value) = if listed then [] else deed.Got b value (not medium && known.dirty) ∷ []
deeds known lost listed block (need.Take b medium stage) Missed = if lost && not listed then deed.Got b Lost false ∷ [] else []
deeds known lost listed block (need.Put b) Put = deed.Put b block false ∷ []
deeds known lost listed block (need.Put b) Hardened = deed.Put b block true ∷ deed.Hardened b ∷ []
deeds known lost listed block (need.PutThrough b) Hardened = deed.Put b block known.full ∷ deed.Hardened b ∷ []
deeds known lost listed block (need.Harden b) Hardened = deed.Hardened b ∷ []
deeds known lost listed block (need.Pass from to) (NextDirty None) = deed.Passed from to ∷ []
deeds known lost listed block (need.Pass from to) (NextDirty (Some dirty)) = if nat_lt from.0 dirty.0 then deed.Passed from dirty ∷ [] else []
deeds known lost listed block (need.Move b why) Moved = if settles why then deed.Hardened b ∷ [] else []
deeds known lost listed block need.Page Paged = deed.Page known.page ∷ []
deeds known lost listed block need a = []

abbrev pub deeds_of : Course → Answer → Known → List Deed
deeds_of c a known = deeds known (gives_up c.step a) (is_moving c.plan) (next_block c.plan) (need_of c) a

-- a plan with the bytes of its page
abbrev pub with_page : List ℕ → Plan → Plan
with_page page (Answering bytes reply) = Answering page reply
with_page page plan = plan
