-- Which turns may come, and why others are refused, in the order of the reasons.
use Rattle.std.specs.Prelude.{ℕ, ◌-◌, ◌%◌, ◌&&◌, ◌||◌, nat_le, Bool, true, false, if◌then◌else◌, List, [], ◌∷◌, ◌++◌, map, filter, length, slice_get, slice_index_or, find, Option, Some, None, fold}
use Rattle.std.specs.Option.{option_map, option_map_or, option_and_then, is_none, is_some, option_or}
use Rattle.task_set.specs.declared.member.Member.{Member}
use Rattle.task_set.specs.Members.{member_of, first_forbidding}
use Rattle.platter_model.specs.TrueLog.{is_off}
use Rattle.block_machine.specs.Attentions.{initiators}
use Rattle.drive_scene.specs.declared.event.Event.{Event}
use Rattle.drive_scene.specs.declared.event.Event.TheVariants as event
use Rattle.block_machine.specs.declared.turn.Label.TheVariants.{Work}
use Rattle.drive_scene.specs.declared.answer.TurnAnswer.{TurnAnswer}
use Rattle.drive_scene.specs.declared.answer.TurnAnswer.TheVariants as answer
use Rattle.drive_scene.specs.declared.answer.Waiting.{Waiting}
use Rattle.drive_scene.specs.declared.answer.Pick.{Pick}
use Rattle.drive_scene.specs.declared.answer.Pick.TheVariants as pick
use Rattle.drive_scene.specs.Scene.{Scene}
use Rattle.move_table.specs.Table.{is_owned_by, job_in}
use Rattle.drive_scene.specs.declared.event.Holder.TheVariants as holder
use Rattle.drive_scene.specs.Holds.{holder_besides, needed_block, destaged}
use Rattle.drive_scene.specs.Run.{Run, scene_of}
use Rattle.drive_scene.specs.Evidence.{lba}

-- so many turns a drive can number
abbrev pub turns_at_most : ℕ
turns_at_most = 4294967294

abbrev pub is_spent : Run → Bool
is_spent r = nat_le turns_at_most (length r.turns)

-- a block that a command needs is held by another
abbrev pub held_by_other : Scene → ℕ → ℕ → Option TurnAnswer
held_by_other s c b = option_map (λ other. answer.Held (lba b) other) (holder_besides s (Work c) b)

-- a command waits for the first move in flight that it opened
abbrev pub awaited : Scene → ℕ → Option TurnAnswer
awaited s c = option_map (λ f. answer.Held f.job.b (holder.Job f.j)) (find (λ f. is_owned_by c f.job.owner) s.back.flights)

-- a command that was started may be kept waiting for a move of its own, or for the block that it needs
abbrev pub kept_waiting : Scene → ℕ → Option TurnAnswer
kept_waiting s c = option_or (awaited s c) (option_and_then (held_by_other s c) (needed_block s c))

-- and one that wasn't started, by the oldest that forbids its start
abbrev pub work_refused : Scene → ℕ → Member → Option TurnAnswer
work_refused s c m =
    if m.started then kept_waiting s c else option_map answer.Dormant (first_forbidding s.hist.set m.task)

-- why work on a command is refused: it isn't in, or has to wait
abbrev pub refusal_of_work : Scene → ℕ → ℕ → Option TurnAnswer
refusal_of_work s coming c = option_map_or (work_refused s c) (member_of s.hist.set c) (Some (answer.Idle coming))

-- a command of the set is able: work on it isn't refused
abbrev pub is_able : Scene → Member → Bool
is_able s m = is_none (work_refused s m.task.c m)

-- whether something of an initiator arrives
abbrev pub arrives : Waiting → ℕ → Bool
arrives w i = slice_index_or w.arrivals (i - 1) false

-- the arrivals that may come, by initiator
abbrev pub able_arrivals : Waiting → List Pick
able_arrivals w = map pick.Arrive (filter (arrives w) initiators)

-- the commands on which work may come, by age
abbrev pub able_commands : Scene → List Pick
able_commands s = map (λ m. pick.Work m.task.c) (filter (is_able s) s.hist.set)

-- the moves in flight, by number
abbrev pub able_jobs : Scene → List Pick
able_jobs s = map (λ f. pick.Job f.j) s.back.flights

-- no scan comes so far
abbrev pub able_scan : Scene → Waiting → List Pick
able_scan s w = []

-- a destage, where one is asked for and a block may be destaged
abbrev pub able_destage : Scene → Waiting → List Pick
able_destage s w = if w.destages && is_some (destaged s) then pick.Destage ∷ [] else []

-- the turns that may come, in their order
abbrev pub able : Scene → Waiting → List Pick
able s w = able_arrivals w ++ (able_commands s ++ (able_jobs s ++ (able_scan s w ++ able_destage s w)))

-- the one of them that a number picks
abbrev pub picked : Scene → Waiting → ℕ → Option Pick
picked s w x = slice_get (able s w) (x % length (able s w))

-- nothing waits outside
abbrev pub nothing_waiting : Waiting
nothing_waiting = record {
  arrivals = false ∷ false ∷ false ∷ false ∷ false ∷ false ∷ false ∷ false ∷ [];
  scans = false;
  destages = false;
}

-- the turn of a run that a number picks: none while the power is off, and none where no turn is left
abbrev pub pick_of : Run → Waiting → ℕ → Option Pick
pick_of r w x = if is_off r.ops || is_spent r then None else picked (scene_of r) w x

-- why an event is refused while the power is on and turns are left
abbrev pub refusal_on : Scene → ℕ → Event → Option TurnAnswer
refusal_on s coming (event.Work c) = refusal_of_work s coming c
refusal_on s coming (event.Any x) = option_map_or (λ p. None) (picked s nothing_waiting x) (Some (answer.Idle coming))
refusal_on s coming (event.Job j) = if is_some (job_in s.back.flights j) then None else Some (answer.Idle coming)
refusal_on s coming event.Destage = if is_some (destaged s) then None else Some (answer.Idle coming)
refusal_on s coming other = None

abbrev pub needs_power : Event → Bool
needs_power (event.World w) = false
needs_power other = true

-- the power is off, and the event isn't one from outside
abbrev pub refused_off : Run → Event → Option TurnAnswer
refused_off r e = if needs_power e && is_off r.ops then Some answer.Off else None

-- no number is left for a turn
abbrev pub refused_spent : Run → Option TurnAnswer
refused_spent r = if is_spent r then Some answer.Spent else None

-- the first reason that there is
abbrev pub first_reason : List (Option TurnAnswer) → Option TurnAnswer
first_reason reasons = fold option_or None reasons

-- why an event is refused, by the first reason; none where its turn comes
abbrev pub refusal : Run → Event → Option TurnAnswer
refusal r e = first_reason (refused_off r e ∷ refused_spent r ∷ refusal_on (scene_of r) r.coming e ∷ [])
