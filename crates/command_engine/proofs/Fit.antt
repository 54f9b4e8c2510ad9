-- The answers that fit, one by one, and what each tells of where the command stands.
use Rattle.std.proofs.Common.{◌≡◌, ℕ, ◌<◌, ◌≤◌, Bool, true, false, not, ◌&&◌, nat_lt, nat_le, List, Some, None, refl}
use Rattle.std.specs.Prelude.{Option, if◌then◌else◌}
use Rattle.std.proofs.lemmas.Bool.{ltb-true, leb-true, and_parts}
use Rattle.disk_base.specs.declared.address.Lba.{Lba}
use Rattle.disk_base.specs.declared.block.Value.{Value}
use Rattle.disk_base.specs.declared.block.Value.TheVariants.{Data, Lost}
use Rattle.disk_base.specs.declared.stage.MoveWhy.{MoveWhy}
use Rattle.disk_base.specs.declared.stage.Stage.{Stage}
use Rattle.sense_data.specs.declared.reply.Reply.{Reply}
use Rattle.read_recovery.specs.Stages.{Progress, next_stage}
use Rattle.cdb_reader.specs.declared.plan.Reading as reading
use Rattle.cdb_reader.specs.declared.plan.Writing as writing
use Rattle.cdb_reader.specs.declared.plan.Syncing as syncing
use Rattle.cdb_reader.specs.declared.plan.Moving as moving
use Rattle.cdb_reader.specs.declared.plan.Plan.{Plan}
use Rattle.cdb_reader.specs.declared.plan.Plan.TheVariants.{Answering, Reading, Writing, Syncing, Moving}
use Rattle.command_engine.specs.declared.answer.Answer.{Answer}
use Rattle.command_engine.specs.declared.answer.Answer.TheVariants.{Got, Missed, Put, Hardened, WriteFault, NextDirty, Moved, NoSpare, Paged}
use Rattle.command_engine.specs.declared.need.Need.{Need}
use Rattle.command_engine.specs.declared.need.Need.TheVariants as need
use Rattle.command_engine.specs.declared.step.Step.{Step}
use Rattle.command_engine.specs.declared.step.Step.TheVariants as step
use Rattle.command_engine.specs.declared.step.Step.TheVariants.{Trying, Hardening, Faulted}
use Rattle.command_engine.specs.Need.{need_by, need_at_move, taking, taking_block, in_hand}
use Rattle.command_engine.specs.Answers.{is_hardened, fits_need}

-- an answer that fits where a command stands
pub data Fit (moved : ℕ) : Plan → Step → Answer → Type 0 where
  read_found : (r : reading.Reading) (p : Progress) (stage : Stage) (d : List ℕ) → nat_lt r.at r.end ≡ true → next_stage p ≡ Some stage → Fit moved (Reading r) (Trying p) (Got (Data d))
  read_lost : (r : reading.Reading) (p : Progress) (stage : Stage) → nat_lt r.at r.end ≡ true → next_stage p ≡ Some stage → Fit moved (Reading r) (Trying p) (Got Lost)
  read_missed : (r : reading.Reading) (p : Progress) (stage : Stage) → nat_lt r.at r.end ≡ true → next_stage p ≡ Some stage → Fit moved (Reading r) (Trying p) Missed
  read_dirty : (r : reading.Reading) (p : Progress) (stage : Stage) (b : Lba) → nat_lt r.at r.end ≡ true → next_stage p ≡ Some stage → r.through ≡ true → r.hardened ≡ false → Fit moved (Reading r) (Trying p) (NextDirty (Some b))
  read_hardened : (r : reading.Reading) → nat_lt r.at r.end ≡ true → Fit moved (Reading r) Hardening Hardened
  read_faulted : (r : reading.Reading) → nat_lt r.at r.end ≡ true → Fit moved (Reading r) Hardening WriteFault
  write_put : (w : writing.Writing) (p : Progress) → nat_lt w.at w.end ≡ true → w.through ≡ false → Fit moved (Writing w) (Trying p) Put
  write_hardened : (w : writing.Writing) (p : Progress) → nat_lt w.at w.end ≡ true → Fit moved (Writing w) (Trying p) Hardened
  write_faulted : (w : writing.Writing) (p : Progress) → nat_lt w.at w.end ≡ true → Fit moved (Writing w) (Trying p) WriteFault
  sync_clean : (s : syncing.Syncing) (p : Progress) → nat_lt s.at s.end ≡ true → Fit moved (Syncing s) (Trying p) (NextDirty None)
  sync_dirty : (s : syncing.Syncing) (p : Progress) (b : Lba) → nat_lt s.at s.end ≡ true → s.at ≤ b.0 → b.0 < s.end → Fit moved (Syncing s) (Trying p) (NextDirty (Some b))
  sync_hardened : (s : syncing.Syncing) → nat_lt s.at s.end ≡ true → Fit moved (Syncing s) Hardening Hardened
  sync_faulted : (s : syncing.Syncing) → nat_lt s.at s.end ≡ true → Fit moved (Syncing s) Hardening WriteFault
  paged : (bytes : List ℕ) (reply : Reply) (step : Step) → Fit moved (Answering bytes reply) step Paged
  list_found : (m : moving.Moving) (p : Progress) (stage : Stage) (b : Lba) (value : Value) → in_hand m moved ≡ Some b → next_stage p ≡ Some stage → Fit moved (Moving m) (Trying p) (Got value)
  list_missed : (m : moving.Moving) (p : Progress) (stage : Stage) (b : Lba) → in_hand m moved ≡ Some b → next_stage p ≡ Some stage → Fit moved (Moving m) (Trying p) Missed
  list_dirty : (m : moving.Moving) (p : Progress) (stage : Stage) (b dirty : Lba) → in_hand m moved ≡ Some b → next_stage p ≡ Some stage → Fit moved (Moving m) (Trying p) (NextDirty (Some dirty))
  list_moved : (m : moving.Moving) (why : MoveWhy) (b : Lba) → in_hand m moved ≡ Some b → Fit moved (Moving m) (step.Moving why) Moved
  list_spareless : (m : moving.Moving) (why : MoveWhy) (b : Lba) → in_hand m moved ≡ Some b → Fit moved (Moving m) (step.Moving why) NoSpare

-- where something fits, a block is left
if_left : (moves hardened left : Bool) (n : Need) (a : Answer) → fits_need moves hardened (if left then n else need.Nothing) a ≡ true
    → (left ≡ true) × (fits_need moves hardened n a ≡ true)
if_left moves hardened true n a h = (refl, h)
if_left moves hardened false n a h = absurd (cc)

pub not_true : (b : Bool) → not b ≡ true → b ≡ false
not_true false h = refl
not_true true h = absurd (cc)

at_stage : (moves : Bool) (moved : ℕ) (r : reading.Reading) (p : Progress) (o : Option Stage) (a : Answer) → nat_lt r.at r.end ≡ true → next_stage p ≡ o
    → fits_need moves r.hardened (taking r o) a ≡ true → Fit moved (Reading r) (Trying p) a
at_stage moves moved r p None a left is h = absurd (cc)
at_stage moves moved r p (Some stage) (Got (Data d)) left is h = read_found r p stage d left is
at_stage moves moved r p (Some stage) (Got Lost) left is h = read_lost r p stage left is
at_stage moves moved r p (Some stage) Missed left is h = read_missed r p stage left is
at_stage moves moved r p (Some stage) (NextDirty (Some b)) left is h =
    let outer = and_parts (r.through && not r.hardened) _ h in
    let inner = and_parts r.through (not r.hardened) outer.0 in
    read_dirty r p stage b left is inner.0 (not_true r.hardened inner.1)
at_stage moves moved r p (Some stage) (NextDirty None) left is h = absurd (cc)
at_stage moves moved r p (Some stage) a left is h = absurd (cc)

at_harden : (moves : Bool) (moved : ℕ) (r : reading.Reading) (a : Answer) → nat_lt r.at r.end ≡ true → fits_need moves r.hardened (need.Harden (record { 0 = r.at })) a ≡ true
    → Fit moved (Reading r) Hardening a
at_harden moves moved r Hardened left h = read_hardened r left
at_harden moves moved r WriteFault left h = read_faulted r left
at_harden moves moved r a left h = absurd (cc)

at_read : (moves : Bool) (moved : ℕ) (r : reading.Reading) (step : Step) (a : Answer) → fits_need moves r.hardened (need_by (Reading r) moved step) a ≡ true → Fit moved (Reading r) step a
at_read moves moved r (Trying p) a h =
    let parts = if_left moves r.hardened (nat_lt r.at r.end) (taking r (next_stage p)) a h in
    at_stage moves moved r p (next_stage p) a parts.0 refl parts.1
at_read moves moved r Hardening a h = let parts = if_left moves r.hardened (nat_lt r.at r.end) _ a h in at_harden moves moved r a parts.0 parts.1
at_read moves moved r other a h = let parts = if_left moves r.hardened (nat_lt r.at r.end) need.Nothing a h in absurd (cc)

at_put : (moves : Bool) (moved : ℕ) (w : writing.Writing) (p : Progress) (through : Bool) (a : Answer) → nat_lt w.at w.end ≡ true → w.through ≡ through
    → fits_need moves false (if through then need.PutThrough (record { 0 = w.at }) else need.Put (record { 0 = w.at })) a ≡ true → Fit moved (Writing w) (Trying p) a
at_put moves moved w p false Put left is h = write_put w p left is
at_put moves moved w p through Hardened left is h = write_hardened w p left
at_put moves moved w p through WriteFault left is h = write_faulted w p left
at_put moves moved w p true a left is h = absurd (cc)
at_put moves moved w p false a left is h = absurd (cc)

at_write : (moves : Bool) (moved : ℕ) (w : writing.Writing) (step : Step) (a : Answer) → fits_need moves false (need_by (Writing w) moved step) a ≡ true → Fit moved (Writing w) step a
at_write moves moved w (Trying p) a h =
    let parts = if_left moves false (nat_lt w.at w.end) _ a h in at_put moves moved w p w.through a parts.0 refl parts.1
at_write moves moved w other a h = let parts = if_left moves false (nat_lt w.at w.end) need.Nothing a h in absurd (cc)

at_pass : (moves : Bool) (moved : ℕ) (s : syncing.Syncing) (p : Progress) (a : Answer) → nat_lt s.at s.end ≡ true
    → fits_need moves false (need.Pass (record { 0 = s.at }) (record { 0 = s.end })) a ≡ true → Fit moved (Syncing s) (Trying p) a
at_pass moves moved s p (NextDirty None) left h = sync_clean s p left
at_pass moves moved s p (NextDirty (Some b)) left h =
    let parts = and_parts (nat_le s.at b.0) (nat_lt b.0 s.end) h in
    sync_dirty s p b left (leb-true s.at b.0 parts.0) (ltb-true b.0 s.end parts.1)
at_pass moves moved s p a left h = absurd (cc)

at_sync_harden : (moves : Bool) (moved : ℕ) (s : syncing.Syncing) (a : Answer) → nat_lt s.at s.end ≡ true → fits_need moves false (need.Harden (record { 0 = s.at })) a ≡ true
    → Fit moved (Syncing s) Hardening a
at_sync_harden moves moved s Hardened left h = sync_hardened s left
at_sync_harden moves moved s WriteFault left h = sync_faulted s left
at_sync_harden moves moved s a left h = absurd (cc)

at_sync : (moves : Bool) (moved : ℕ) (s : syncing.Syncing) (step : Step) (a : Answer) → fits_need moves false (need_by (Syncing s) moved step) a ≡ true → Fit moved (Syncing s) step a
at_sync moves moved s (Trying p) a h = let parts = if_left moves false (nat_lt s.at s.end) _ a h in at_pass moves moved s p a parts.0 parts.1
at_sync moves moved s Hardening a h = let parts = if_left moves false (nat_lt s.at s.end) _ a h in at_sync_harden moves moved s a parts.0 parts.1
at_sync moves moved s other a h = let parts = if_left moves false (nat_lt s.at s.end) need.Nothing a h in absurd (cc)

at_page : (moves : Bool) (moved : ℕ) (bytes : List ℕ) (reply : Reply) (step : Step) (a : Answer) → fits_need moves false need.Page a ≡ true → Fit moved (Answering bytes reply) step a
at_page moves moved bytes reply step Paged h = paged bytes reply step
at_page moves moved bytes reply step a h = absurd (cc)

at_list_stage : (moves : Bool) (moved : ℕ) (m : moving.Moving) (p : Progress) (b : Lba) (o : Option Stage) (a : Answer) → in_hand m moved ≡ Some b → next_stage p ≡ o
    → fits_need moves false (taking_block b true o) a ≡ true → Fit moved (Moving m) (Trying p) a
at_list_stage moves moved m p b None a hand is h = absurd (cc)
at_list_stage moves moved m p b (Some stage) (Got value) hand is h = list_found m p stage b value hand is
at_list_stage moves moved m p b (Some stage) Missed hand is h = list_missed m p stage b hand is
at_list_stage moves moved m p b (Some stage) (NextDirty (Some dirty)) hand is h = list_dirty m p stage b dirty hand is
at_list_stage moves moved m p b (Some stage) a hand is h = absurd (cc)

at_move : (moves : Bool) (moved : ℕ) (m : moving.Moving) (b : Lba) (why : MoveWhy) (a : Answer) → in_hand m moved ≡ Some b
    → fits_need moves false (need.Move b why) a ≡ true → Fit moved (Moving m) (step.Moving why) a
at_move moves moved m b why Moved hand h = list_moved m why b hand
at_move moves moved m b why NoSpare hand h = list_spareless m why b hand
at_move moves moved m b why a hand h = absurd (cc)

at_list : (moves : Bool) (moved : ℕ) (m : moving.Moving) (o : Option Lba) (step : Step) (a : Answer) → in_hand m moved ≡ o
    → fits_need moves false (need_at_move o step) a ≡ true → Fit moved (Moving m) step a
at_list moves moved m None step a hand h = absurd (cc)
at_list moves moved m (Some b) (Trying p) a hand h = at_list_stage moves moved m p b (next_stage p) a hand refl h
at_list moves moved m (Some b) (step.Moving why) a hand h = at_move moves moved m b why a hand h
at_list moves moved m (Some b) other a hand h = absurd (cc)

-- each answer that fits is one of these
pub fit_of : (moves : Bool) (moved : ℕ) (plan : Plan) (step : Step) (a : Answer) → fits_need moves (is_hardened plan) (need_by plan moved step) a ≡ true → Fit moved plan step a
fit_of moves moved (Reading r) step a h = at_read moves moved r step a h
fit_of moves moved (Writing w) step a h = at_write moves moved w step a h
fit_of moves moved (Syncing s) step a h = at_sync moves moved s step a h
fit_of moves moved (Moving m) step a h = at_list moves moved m (in_hand m moved) step a refl h
fit_of moves moved (Answering bytes reply) step a h = at_page moves moved bytes reply step a h
fit_of moves moved plan step a h = absurd (cc)
