-- What a started command needs next.
use Rattle.std.specs.Prelude.{ℕ, ◌+◌, ◌<◌, ◌≤◌, max, nat_lt, Bool, true, if◌then◌else◌, List, [], ◌∷◌, slice_get, Option, Some, None}
use Rattle.disk_base.specs.declared.address.Lba.{Lba}
use Rattle.disk_base.specs.declared.stage.Stage.{Stage}
use Rattle.read_recovery.specs.Stages.{next_stage}
use Rattle.cdb_reader.specs.declared.plan.Reading as reading
use Rattle.cdb_reader.specs.declared.plan.Writing as writing
use Rattle.cdb_reader.specs.declared.plan.Syncing as syncing
use Rattle.cdb_reader.specs.declared.plan.Moving as moving
use Rattle.cdb_reader.specs.declared.plan.Plan.{Plan}
use Rattle.cdb_reader.specs.declared.plan.Plan.TheVariants.{Answering, Reading, Writing, Syncing, Moving}
use Rattle.command_engine.specs.declared.need.Need.{Need}
use Rattle.command_engine.specs.declared.need.Need.TheVariants as need
use Rattle.command_engine.specs.declared.step.Step.{Step}
use Rattle.command_engine.specs.declared.step.Step.TheVariants as step
use Rattle.command_engine.specs.declared.step.Step.TheVariants.{Trying, Hardening}
use Rattle.command_engine.specs.Course.{Course}

abbrev pub lba : ℕ → Lba
lba b = record { 0 = b }

-- the value of a block, by the next stage where it isn't found in the cache
abbrev pub taking_block : Lba → Bool → Option Stage → Need
taking_block b medium None = need.Nothing
taking_block b medium (Some stage) = need.Take b medium stage

abbrev pub taking : reading.Reading → Option Stage → Need
taking r stage = taking_block (lba r.at) r.through stage

-- what a read or a verification needs at the block that comes next
abbrev pub need_at_read : reading.Reading → Step → Need
need_at_read r (Trying progress) = taking r (next_stage progress)
need_at_read r Hardening = need.Harden (lba r.at)
need_at_read r other = need.Nothing

abbrev pub need_in_reading : reading.Reading → Step → Need
need_in_reading r step = if nat_lt r.at r.end then need_at_read r step else need.Nothing

-- what a write needs at the block that comes next
abbrev pub need_at_write : writing.Writing → Step → Need
need_at_write w (Trying progress) = if w.through then need.PutThrough (lba w.at) else need.Put (lba w.at)
need_at_write w other = need.Nothing

abbrev pub need_in_writing : writing.Writing → Step → Need
need_in_writing w step = if nat_lt w.at w.end then need_at_write w step else need.Nothing

-- what a sync needs from the block that comes next on
abbrev pub need_at_sync : syncing.Syncing → Step → Need
need_at_sync s (Trying progress) = need.Pass (lba s.at) (lba s.end)
need_at_sync s Hardening = need.Harden (lba s.at)
need_at_sync s other = need.Nothing

abbrev pub need_in_syncing : syncing.Syncing → Step → Need
need_in_syncing s step = if nat_lt s.at s.end then need_at_sync s step else need.Nothing

-- the block of the descriptor that comes next in a list, behind those that were moved
abbrev pub in_hand : moving.Moving → ℕ → Option Lba
in_hand m moved = slice_get m.blocks moved

-- what a list of blocks needs at the one that comes next: its value from the medium, unless it is dirty, and then its move
abbrev pub need_at_move : Option Lba → Step → Need
need_at_move (Some b) (Trying progress) = taking_block b true (next_stage progress)
need_at_move (Some b) (step.Moving why) = need.Move b why
need_at_move b other = need.Nothing

abbrev pub need_by : Plan → ℕ → Step → Need
need_by (Answering bytes reply) moved step = need.Page
need_by (Reading r) moved step = need_in_reading r step
need_by (Writing w) moved step = need_in_writing w step
need_by (Syncing s) moved step = need_in_syncing s step
need_by (Moving m) moved step = need_at_move (in_hand m moved) step
need_by plan moved step = need.Nothing

-- what a command needs next
abbrev pub need_of : Course → Need
need_of c = need_by c.plan c.moved c.step

-- the address behind all blocks of a list
abbrev pub end_of_list : List Lba → ℕ
end_of_list [] = 0
end_of_list (b ∷ blocks) = max (b.0 + 1) (end_of_list blocks)

-- the address behind all blocks that a command names
abbrev pub end_of : Plan → ℕ
end_of (Reading r) = r.end
end_of (Writing w) = w.end
end_of (Syncing s) = s.end
end_of (Moving m) = end_of_list m.blocks
end_of plan = 0

-- each block that a need names is below an address
abbrev pub IsBelow : ℕ → Need → Type 0
IsBelow end (need.Take b medium stage) = b.0 < end
IsBelow end (need.Put b) = b.0 < end
IsBelow end (need.PutThrough b) = b.0 < end
IsBelow end (need.Harden b) = b.0 < end
IsBelow end (need.Pass from to) = (from.0 < to.0) × (to.0 ≤ end)
IsBelow end (need.Move b why) = b.0 < end
IsBelow end need.Page = Unit {0}
IsBelow end need.Nothing = Unit {0}
