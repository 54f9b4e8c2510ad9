-- Which blocks are held from one turn to the next, and which a command needs.
use Rattle.std.specs.Prelude.{◌≡◌, ◌≢◌, ℕ, ◌-◌, ◌==◌, ◌&&◌, ◌||◌, not, nat_lt, Bool, false, if◌then◌else◌, List, find, length, All, AllPairs, Option, Some, None}
use Rattle.std.specs.List.{range_with_len}
use Rattle.std.specs.Option.{option_map, option_map_or, option_and_then, option_or, is_none}
use Rattle.platter_model.specs.declared.op.Op.{Op}
use Rattle.cdb_reader.specs.declared.plan.Plan.{Plan}
use Rattle.cdb_reader.specs.declared.plan.Plan.TheVariants.{Reading, Writing, Syncing}
use Rattle.block_machine.specs.Blocks.{Blocks, is_dirty}
use Rattle.block_machine.specs.State.{owed_by}
use Rattle.block_machine.specs.declared.turn.Label.{Label}
use Rattle.block_machine.specs.declared.turn.Label.TheVariants.{Work, Job, Destage}
use Rattle.drive_scene.specs.declared.event.Holder.{Holder}
use Rattle.drive_scene.specs.declared.event.Holder.TheVariants as holder
use Rattle.move_table.specs.Table.{is_owned_by, job_in}
use Rattle.drive_scene.specs.Scene.{Scene}

-- the block that a plan holds: a read tried or hardened it, and didn't get it yet; a write put it and owes its harden; or a write of
-- it failed, be it for a write or for a sync
abbrev pub held_by_plan : List Op → Plan → Option ℕ
held_by_plan window (Reading r) = if not (length window == 0) || r.hardened then Some r.at else None
held_by_plan window (Writing w) = if (not (length window == 0) || w.owes_harden) && nat_lt w.at w.end then Some w.at else None
held_by_plan window (Syncing y) = if not (length window == 0) && nat_lt y.at y.end then Some y.at else None
held_by_plan window plan = None

-- the block that a command holds
abbrev pub held_block : Scene → ℕ → Option ℕ
held_block s c = option_and_then (held_by_plan (s.windows c)) (owed_by s.hist c)

abbrev pub holds : Scene → ℕ → ℕ → Bool
holds s b c = option_map_or (λ h. h == b) (held_block s c) false

-- whether a turn works on a command: on it itself, or on a move that it opened
abbrev pub works_on : Scene → Label → ℕ → Bool
works_on s (Work c) d = d == c
works_on s (Job j) d = option_map_or (λ job. is_owned_by d job.owner) (job_in s.back.flights j) false
works_on s label d = false

-- the oldest command that holds a block, besides the one that the turn works on
abbrev pub command_besides : Scene → Label → ℕ → Option ℕ
command_besides s label b = option_map (λ m. m.task.c) (find (λ m. not (works_on s label m.task.c) && holds s b m.task.c) s.hist.set)

-- whether a turn is that of a move
abbrev pub goes_on_with : Label → ℕ → Bool
goes_on_with (Job j) k = k == j
goes_on_with label k = false

-- the first move of a block that is in flight, besides the turn's own
abbrev pub move_besides : Scene → Label → ℕ → Option ℕ
move_besides s label b = option_map (λ f. f.j) (find (λ f. not (goes_on_with label f.j) && f.job.b.0 == b) s.back.flights)

-- who else than a turn's own holds a block: a move of it, else the oldest such command
abbrev pub holder_besides : Scene → Label → ℕ → Option Holder
holder_besides s label b = option_or (option_map holder.Job (move_besides s label b)) (option_map holder.Command (command_besides s label b))

-- the block that a destage writes: the one that is dirty for the longest time, of those that nobody holds and whose destage didn't fail
abbrev pub destaged : Scene → Option ℕ
destaged s = find (λ b. not (s.back.stuck b) && is_none (holder_besides s Destage b)) s.hist.dirty

-- no block is held twice: not by two commands, nor by two moves; and a command that holds the block of a move opened that move
pub record IsApart (s : Scene) : Type 0 where
  pub commands : (c q b : ℕ) → held_block s c ≡ Some b → held_block s q ≡ Some b → c ≡ q
  pub moves : AllPairs (λ f g. f.job.b ≢ g.job.b) s.back.flights
  pub owned : All (λ f. (c : ℕ) → held_block s c ≡ Some f.job.b.0 → f.job.owner ≡ Some c) s.back.flights

-- the first dirty block from one address to below another
abbrev pub first_dirty : Blocks → ℕ → ℕ → Option ℕ
first_dirty blocks from to = find (λ b. is_dirty (blocks b)) (range_with_len from (to - from))

-- the block that a plan needs next
abbrev pub needed_by_plan : Blocks → Plan → Option ℕ
needed_by_plan blocks (Reading r) = if nat_lt r.at r.end then Some r.at else None
needed_by_plan blocks (Writing w) = if nat_lt w.at w.end then Some w.at else None
needed_by_plan blocks (Syncing y) = first_dirty blocks y.at y.end
needed_by_plan blocks plan = None

-- the block that a command needs next
abbrev pub needed_block : Scene → ℕ → Option ℕ
needed_block s c = option_and_then (needed_by_plan s.hist.blocks) (owed_by s.hist c)
