-- How many turns the rest of a phase, and of a script, takes at most.
use Rattle.std.specs.Prelude.{ℕ, ◌+◌, ◌-◌, ◌*◌, zero, suc, if◌then◌else◌, List, sum_by, length, Result, Ok, Err}
use Rattle.std.specs.Option.{option_map_or}
use Rattle.sense_data.specs.declared.sense.Sense.{Sense}
use Rattle.task_set.specs.declared.member.Member.{Member}
use Rattle.task_set.specs.Members.{member_of}
use Rattle.cdb_reader.specs.declared.plan.Plan.{Plan}
use Rattle.cdb_reader.specs.declared.plan.Plan.TheVariants.{Ending, Unread, Answering, Changing, Reading, Writing, Syncing, Moving, Over}
use Rattle.cdb_reader.specs.Plan.{blocks_left}
use Rattle.cdb_reader.specs.Request.{Request, Read, Write, WriteAndVerify, Verify, SynchronizeCache, ReassignBlocks}
use Rattle.cdb_reader.specs.Read.{read_of}
use Rattle.block_machine.specs.State.{State}
use Rattle.script_text.specs.declared.script.Line.{Line}
use Rattle.script_text.specs.declared.script.Line.TheVariants as line
use Rattle.script_text.specs.Weight.{weight_of}
use Rattle.drive_scene.specs.declared.event.Arrival.{Arrival}
use Rattle.drive_scene.specs.declared.event.Arrival.TheVariants.{Command, Function}
use Rattle.drive_scene.specs.Scene.{Scene, capacity}
use Rattle.drive_scene.specs.GoodTurn.{window_at_most}
use Rattle.script_runner.specs.Arrivals.{Sends, arriving}
use Rattle.script_runner.specs.Wanted.{Wanted}

-- the entries of a command that still owes a plan: of a block that is read, or written, two; and its end
abbrev pub steps_of : Plan → ℕ
steps_of (Ending reply) = 1
steps_of (Unread b) = 1
steps_of (Answering bytes reply) = 2
steps_of Changing = 2
steps_of (Reading r) = 2 * (r.end - r.at) + 1 + (if r.hardened then 0 else 1)
steps_of (Writing w) =
    2 * (w.end - w.at) + 1 + (if w.owes_harden then 0 else 1) + (if w.verifies then 2 * (w.end - w.from) + 3 else 0)
steps_of (Syncing s) = s.end - s.at + 1
steps_of (Moving m) = length (blocks_left m) + 1
steps_of Over = 0

-- the same of what a command block asks for
abbrev pub steps_asked : Result Request Sense → ℕ
steps_asked (Ok (Read from count fua)) = 2 * count + 2
steps_asked (Ok (Verify from count)) = 2 * count + 2
steps_asked (Ok (Write from count fua)) = 2 * count + 2
steps_asked (Ok (WriteAndVerify from count)) = 4 * count + 5
steps_asked (Ok (SynchronizeCache from count)) = count + 2
steps_asked (Ok (ReassignBlocks blocks)) = length blocks + 2
steps_asked (Ok other) = 2
steps_asked (Err sense) = 2

-- a move of a block takes at most a write to each of 128 spares and a check of it, and the commit of the last
abbrev pub turns_of_move : ℕ
turns_of_move = 2 * 128 + 1

-- with the turn that opens it; from one entry of a command to its next one move is opened at most
abbrev pub turns_to_move : ℕ
turns_to_move = turns_of_move + 1

-- an entry, and before it the tries of all stages and a move
abbrev pub turns_a_step : ℕ
turns_a_step = window_at_most + turns_to_move + 1

-- a step of the scan tries all stages, at most 25, and may move what it found
abbrev pub turns_of_scan : ℕ
turns_of_scan = 25 + turns_of_move

-- the entries of a command that is in: before its start that and what it asks for, and then what it owes
abbrev pub steps_of_member : State → Member → ℕ
steps_of_member h m = (if m.started then 0 else steps_asked (h.duties m.task.c).asks + 1) + option_map_or steps_of (h.duties m.task.c).owes 0

-- the turns of a command: none where it isn't in. Beside its entries it has the tries that its window has room for, and a move
abbrev pub turns_left : Scene → ℕ → ℕ
turns_left s c =
    option_map_or (λ m. turns_a_step * steps_of_member s.hist m + (window_at_most - length (s.windows c)) + turns_to_move) (member_of s.hist.set c) 0

abbrev pub sum_upto : (ℕ → ℕ) → ℕ → ℕ
sum_upto f zero = 0
sum_upto f (suc n) = sum_upto f n + f (suc n)

-- the turns of what is still to arrive, on a drive of so many blocks
abbrev pub turns_of_arrival : ℕ → Arrival → ℕ
turns_of_arrival blocks (Command x) =
    1 + turns_a_step * (steps_asked (read_of x.cdb x.sent blocks) + 1) + window_at_most + turns_to_move
turns_of_arrival blocks (Function i what) = 1

-- of each of the eight initiators
abbrev pub turns_to_send : ℕ → Sends → ℕ
turns_to_send blocks sends = sum_upto (λ i. sum_by (turns_of_arrival blocks) (sends i)) 8

-- with a turn for each destage
abbrev pub turns_wanted : ℕ → Wanted → ℕ
turns_wanted blocks wanted = turns_to_send blocks wanted.sends + wanted.destages

-- the turns of the rest of a phase: of all commands that came, and of what is still wanted
abbrev pub turns_of_phase : Scene → Wanted → ℕ
turns_of_phase s wanted = turns_wanted (capacity s) wanted + sum_upto (turns_left s) s.hist.arrived

-- at most so many turns does a line have
abbrev pub turns_of_line : ℕ → Line → ℕ
turns_of_line blocks (line.Command i tag attribute cdb sent) = turns_of_arrival blocks (Command (arriving i tag attribute cdb sent))
turns_of_line blocks (line.Scan count) = turns_of_scan * count
turns_of_line blocks (line.Destage count) = count
turns_of_line blocks other = 1

abbrev pub turns_of_lines : ℕ → List Line → ℕ
turns_of_lines blocks lines = sum_by (turns_of_line blocks) lines

-- a command has at most 5 entries, and 64 for each unit of its weight: by what a line is and by what it weighs it has at most
-- so many turns
abbrev pub turns_a_line : ℕ
turns_a_line = 1 + turns_a_step * (5 + 1) + window_at_most + turns_to_move

abbrev pub turns_a_weight : ℕ
turns_a_weight = turns_a_step * 64

-- so many turns do lines have at most by their number and their weight
abbrev pub turns_by_weight : ℕ → List Line → ℕ
turns_by_weight blocks lines = turns_a_line * length lines + turns_a_weight * sum_by (weight_of blocks) lines
