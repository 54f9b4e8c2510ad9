-- Turns of moves that are steps, what they come to, who holds the block of a move, and turns that are none.
use Rattle.std.proofs.Common.{◌≡◌, ◌≢◌, ◌∙◌, ℕ, Bool, true, List, [], ◌∷◌, map, take, length, Option, Some, None, refl, sym, ap, subst, arith, inl, inr, length-append}
use Rattle.std.specs.Prelude.{AllPairs}
use Rattle.disk_base.specs.declared.block.Value.TheVariants.{Data, Lost}
use Rattle.disk_base.specs.declared.payload.Payload.{Payload}
use Rattle.disk_base.specs.declared.stage.MoveWhy.TheVariants as why
use Rattle.platter_model.specs.declared.op.Op.{Op}
use Rattle.platter_model.specs.declared.op.Op.TheVariants.{Wrote, WriteFailed, Torn, Tried}
use Rattle.platter_model.specs.declared.op.Op.TheVariants as op
use Rattle.platter_model.specs.TrueLog.{is_same}
use Rattle.geometry_map.specs.DefectMap.{sector, place_of}
use Rattle.move_jobs.specs.declared.step.JobStep.TheVariants.{Writing, Checking, Committing}
use Rattle.move_jobs.specs.Job.{Job, pair, job_of, answered}
use Rattle.sector_store.specs.Maps.{records_of, next_map}
use Rattle.sector_store.specs.Shapes.{payload_on, try_of}
use Rattle.sector_store.specs.Spares.{check_stage}
use Rattle.task_set.specs.declared.member.Member.{Member}
use Rattle.block_machine.specs.declared.entry.Entry.{Entry}
use Rattle.block_machine.specs.declared.entry.Entry.TheVariants.{GiveUp, Harden}
use Rattle.block_machine.specs.declared.entry.Who.TheVariants.{Command}
use Rattle.block_machine.specs.declared.turn.Label.TheVariants as label
use Rattle.drive_scene.specs.declared.answer.Pick.TheVariants as pick
use Rattle.drive_scene.specs.declared.answer.TurnAnswer.TheVariants.{Idle}
use Rattle.drive_scene.specs.declared.event.Event.TheVariants as event
use Rattle.drive_scene.specs.declared.event.Holder.TheVariants as holder
use Rattle.move_table.specs.declared.flight.Flight.{Flight}
use Rattle.move_table.specs.Table.{flight, job_in}
use Rattle.drive_scene.specs.Scene.{Scene, beat}
use Rattle.drive_scene.specs.After.{scene_after}
use Rattle.drive_scene.specs.Evidence.{lba}
use Rattle.drive_scene.specs.Holds.{holder_besides, destaged, IsApart}
use Rattle.drive_scene.specs.MoveTurn.{IsMoveWork, answer_if, back_by_step}
use Rattle.drive_scene.specs.GoodTurn.{IsStep}
use Rattle.drive_scene.specs.Able.{able_jobs, refusal_on}
use Rattle.drive_scene.proofs.MoveExamples.{small, given, with_move, with_owner, second, one_pair_fewer, a_write, a_failed_write, a_check, a_commit, another_move}

-- the scene after a turn of move 1
abbrev then : Scene → List Entry → List Op → Scene
then s entries ops = scene_after s (beat (label.Job 1) entries ops)

-- a write of the spare is a step; then the spare is checked, and the map is as before
write_step : (s : Scene) → IsStep (with_move s (given Writing)) (label.Job 1) [] (Wrote (payload_on (sector 44) (lba 5) Lost) ∷ [])
write_step s = (a_write s, refl)

after_a_write : (s : Scene) → let u : Scene = then (with_move s (given Writing)) [] (Wrote (payload_on (sector 44) (lba 5) Lost) ∷ []) in
    (u.back.flights ≡ flight 1 (given Checking) ∷ []) × (u.map ≡ small) × (u.windows ≡ s.windows)
after_a_write s = (refl, refl, refl)

-- a write that failed is one too: the next spare is written then
failed_write_step : (s : Scene) → IsStep (with_move s (given Writing)) (label.Job 1) [] (WriteFailed (sector 44) ∷ [])
failed_write_step s = (a_failed_write s, refl)

after_a_failed_write : (s : Scene) → let u : Scene = then (with_move s (given Writing)) [] (WriteFailed (sector 44) ∷ []) in
    (u.back.flights ≡ flight 1 (job_of (lba 5) Lost why.GivenUp (Some 3) second Writing) ∷ []) × (u.map ≡ small)
after_a_failed_write s = (refl, refl)

-- a check is a step; where it finds what was written, the commit is next, and else the next spare
check_step : (s : Scene) (found : Option Payload) → IsStep (with_move s (given Checking)) (label.Job 1) [] (try_of (length s.ops) (sector 44) check_stage found)
check_step s found = (a_check s found, refl)

after_a_check : (s : Scene) (payload : Payload) → is_same (payload_on (sector 44) (lba 5) Lost) payload ≡ true
    → let u : Scene = then (with_move s (given Checking)) [] (try_of (length s.ops) (sector 44) check_stage (Some payload)) in
    (u.back.flights ≡ flight 1 (given Committing) ∷ []) × (u.map ≡ small)
after_a_check s payload same =
    let at : Bool → Job = λ t. answered (given Checking) (answer_if t (Some (sector 45))) in
    (ap (λ (t : Bool). (back_by_step 1 (at t) (at t).step (with_move s (given Checking)).back).flights) same, refl)

after_a_bad_check : (s : Scene) → let u : Scene = then (with_move s (given Checking)) [] (try_of (length s.ops) (sector 44) check_stage None) in
    (u.back.flights ≡ flight 1 (job_of (lba 5) Lost why.GivenUp (Some 3) second Writing) ∷ []) × (u.map ≡ small)
after_a_bad_check s = (refl, refl)

-- a commit is a step; then no move is in flight, block 5 lies at its spare, and the window of command 3 begins anew
abbrev told : List Entry
told = GiveUp (lba 5) ∷ Harden (Command 3) (lba 5) ∷ []

abbrev records : List Op
records = map Wrote (records_of (next_map small (given Committing).chain))

commit_step : (s : Scene) (m : Member) → IsStep (with_owner s m (given Committing)) (label.Job 1) told records
unfolding records_of
commit_step s m = (a_commit s m, refl)

after_a_commit : (s : Scene) (m : Member) → let u : Scene = then (with_owner s m (given Committing)) told records in
    (u.back.flights ≡ []) × (u.map ≡ next_map small (given Committing).chain) × (place_of u.map (lba 5) ≡ sector 44) × (place_of u.map (lba 6) ≡ sector 22)
    × (u.windows 3 ≡ []) × (u.windows 4 ≡ s.windows 4) × (u.back.moved 3 ≡ 1) × (u.back.given_up 5 ≡ true)
unfolding records_of
after_a_commit s m = (refl, refl, refl, refl, refl, refl, refl, refl)

-- what the turn of the move in flight does
work_of : (s : Scene) (job : Job) (entries : List Entry) (ops : List Op) → job_in s.back.flights 1 ≡ Some job → IsStep s (label.Job 1) entries ops
    → IsMoveWork s job job.step ops
work_of s job entries ops is (turn, on) =
    let one : Some turn.job ≡ Some job = sym turn.in_flight ∙ is in
    let same : turn.job ≡ job = cc in
    subst (λ (x : Job). IsMoveWork s x x.step ops) same turn.work

-- the spare isn't written with another value
kind_in : List Op → ℕ
kind_in (Wrote payload ∷ rest) = payload.kind
kind_in other = 0

other_value : (s : Scene) (bytes : List ℕ) → IsMoveWork s (given Writing) Writing (Wrote (payload_on (sector 44) (lba 5) (Data bytes)) ∷ []) → ⊥
unfolding kind_in
other_value s bytes (inl (inl e)) = absurd (omega (arith, ap kind_in e))
other_value s bytes (inl (inr torn)) =
    absurd (omega (arith, ap length torn.4, length-append (map Wrote (take torn.0 (payload_on (sector 44) (lba 5) Lost ∷ []))) (Torn torn.1 torn.2 ∷ op.Cut ∷ [])))
other_value s bytes (inr e) = absurd (omega (arith, ap kind_in e))

another_value : (s : Scene) (entries : List Entry) (bytes : List ℕ)
    → IsStep (with_move s (given Writing)) (label.Job 1) entries (Wrote (payload_on (sector 44) (lba 5) (Data bytes)) ∷ []) → ⊥
another_value s entries bytes step =
    other_value (with_move s (given Writing)) bytes (work_of (with_move s (given Writing)) (given Writing) entries _ refl step)

-- a chain of two pairs isn't committed with the first alone
abbrev of_two : Job
of_two = job_of (lba 5) Lost why.GivenUp (Some 3) second Committing

first_pair_alone : (s : Scene) (entries : List Entry)
    → IsStep (with_move s of_two) (label.Job 1) entries (map Wrote (records_of (next_map small (pair (sector 21) (sector 44) ∷ [])))) → ⊥
first_pair_alone s entries step = one_pair_fewer (work_of (with_move s of_two) of_two entries _ refl step)

-- no turn is one of a move that isn't in flight
not_in_flight : (s : Scene) (entries : List Entry) (ops : List Op) → IsStep (with_move s (given Writing)) (label.Job 2) entries ops → ⊥
not_in_flight s entries ops (turn, on) = another_move s entries ops turn

not_picked : (s : Scene) (coming : ℕ) → refusal_on (with_move s (given Writing)) coming (event.Job 2) ≡ Some (Idle coming)
not_picked s coming = refl

picked : (s : Scene) (coming : ℕ) → refusal_on (with_move s (given Writing)) coming (event.Job 1) ≡ None
picked s coming = refl

one_may_come : (s : Scene) → able_jobs (with_move s (given Writing)) ≡ pick.Job 1 ∷ []
one_may_come s = refl

-- a move holds its block, but not from itself, and no other block
held_by_the_move : (s : Scene) → holder_besides (with_move s (given Writing)) (label.Work 3) 5 ≡ Some (holder.Job 1)
held_by_the_move s = refl

not_from_itself : (s : Scene) → holder_besides (with_move s (given Writing)) (label.Job 1) 5 ≡ None
not_from_itself s = refl

no_other_block : (s : Scene) → holder_besides (with_move s (given Writing)) (label.Work 3) 6 ≡ None
no_other_block s = refl

-- a destage passes over a block on which a move is up
abbrev dirty_five : Scene → Scene
dirty_five s = record (with_move s (given Writing)) { hist = record s.hist { set = []; dirty = 5 ∷ 7 ∷ [] } }

move_passed_over : (s : Scene) → destaged (dirty_five s) ≡ Some 7
move_passed_over s = refl

-- two moves in flight are of different blocks
two_of_one_block : (s : Scene) → s.back.flights ≡ flight 1 (given Writing) ∷ flight 2 (given Writing) ∷ [] → IsApart s → ⊥
two_of_one_block s two apart =
    subst (λ (fs : List Flight). AllPairs (λ f g. f.job.b ≢ g.job.b) fs) two apart.moves 0 1 (flight 1 (given Writing)) (omega arith) (omega arith) refl
