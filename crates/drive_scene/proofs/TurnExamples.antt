-- Whose entries are whose, in which order they stand, how many operations the tries of all stages are, which reason is told, and
-- which operations and entries no turn has.
use Rattle.std.proofs.Common.{◌∙◌, arith, ◌≡◌, ◌*◌, ℕ, pos, Bool, true, false, true≢false, List, [], ◌∷◌, ◌++◌, length, refl, sym, ap, Some, None}
use Rattle.std.specs.Prelude.{slice_get}
use Rattle.std.specs.List.{list_all}
use Rattle.std.specs.Option.{option_map_or}
use Rattle.disk_base.specs.declared.address.Psn.{Psn}
use Rattle.disk_base.specs.declared.payload.Payload.{Payload}
use Rattle.disk_base.specs.declared.stage.Stage.{Stage}
use Rattle.disk_base.specs.declared.stage.How.TheVariants.{Light}
use Rattle.sense_data.specs.declared.reply.Reply.{Reply}
use Rattle.platter_model.specs.declared.op.Op.{Op}
use Rattle.platter_model.specs.declared.op.Op.TheVariants.{Wrote, Torn, Fetched, Tried}
use Rattle.platter_model.specs.declared.op.Op.TheVariants as op
use Rattle.platter_model.specs.declared.damage.Tear.{Tear}
use Rattle.platter_model.specs.declared.world.World.TheVariants as world
use Rattle.platter_model.specs.TrueLog.{attempt_of}
use Rattle.geometry_map.specs.DefectMap.{DefectMap}
use Rattle.sector_store.specs.Shapes.{try_of}
use Rattle.disk_base.specs.declared.block.Value.TheVariants.{Lost}
use Rattle.read_recovery.specs.Stages.{stages_of}
use Rattle.cdb_reader.specs.Replies.{unrecovered_read, medium_error, good}
use Rattle.block_machine.specs.declared.entry.Entry.{Entry}
use Rattle.block_machine.specs.declared.turn.Label.TheVariants as label
use Rattle.block_machine.specs.State.{State}
use Rattle.block_machine.specs.declared.entry.Entry.TheVariants.{Get, Put, Harden, GiveUp, Ended, Started, Passed, Asked, Aborted}
use Rattle.block_machine.specs.declared.entry.Who.TheVariants.{Command, Drive}
use Rattle.drive_scene.specs.Scene.{Scene, Beat, beat}
use Rattle.drive_scene.specs.After.{window_after}
use Rattle.drive_scene.specs.Evidence.{lba, FailedBelow, FailedToWrite, Shows}
use Rattle.drive_scene.specs.GoodTurn.{is_entry_of, window_at_most, are_in_order, is_one_step, IsWorldStep, IsStep, AreOwn, AreTriesShown, WritesBlockData}
use Rattle.drive_scene.specs.Able.{first_reason}
use Rattle.drive_scene.specs.Holds.{held_by_plan}
use Rattle.cdb_reader.specs.declared.plan.Plan.{Plan}
use Rattle.cdb_reader.specs.declared.plan.Plan.TheVariants.{Writing}
use Rattle.disk_base.specs.declared.command.DataOut.TheVariants.{Nothing}
use Rattle.drive_scene.specs.declared.answer.TurnAnswer.TheVariants.{Off, Spent, Idle}
use Rattle.disk_base.specs.declared.command.Function.TheVariants.{Clear}

own_entries : list_all (is_entry_of 3) (Get 3 (lba 7) Lost ∷ Ended 3 (unrecovered_read 7) ∷ []) ≡ true
own_entries = refl

own_harden : is_entry_of 3 (Harden (Command 3) (lba 7)) ≡ true
own_harden = refl

put_of_another : is_entry_of 3 (Put 4 (lba 7) []) ≡ false
put_of_another = refl

harden_of_the_drive : is_entry_of 3 (Harden Drive (lba 7)) ≡ false
harden_of_the_drive = refl

given_up_by_none : is_entry_of 3 (GiveUp (lba 7)) ≡ false
given_up_by_none = refl

-- a fetch and a try for each stage of the greatest retry count
tries_of_all_stages : 2 * length (stages_of 20) ≡ window_at_most
tries_of_all_stages = refl

-- a sync passes over blocks, hardens one and ends; it doesn't harden the block before it passes to it
pass_before_harden : are_in_order (Passed 3 (lba 1) (lba 7) ∷ Harden (Command 3) (lba 7) ∷ Ended 3 good ∷ []) ≡ true
pass_before_harden = refl

harden_before_pass : are_in_order (Harden (Command 3) (lba 7) ∷ Passed 3 (lba 1) (lba 7) ∷ []) ≡ false
harden_before_pass = refl

-- what is put comes to the medium behind it, and one block alone is got or put
put_before_harden : are_in_order (Put 3 (lba 7) [] ∷ Harden (Command 3) (lba 7) ∷ []) ≡ true
put_before_harden = refl

harden_before_put : are_in_order (Harden (Command 3) (lba 7) ∷ Put 3 (lba 7) [] ∷ []) ≡ false
harden_before_put = refl

two_gets : are_in_order (Get 3 (lba 7) Lost ∷ Get 3 (lba 8) Lost ∷ []) ≡ false
two_gets = refl

-- a command starts before it ends, and ends once
start_behind_end : are_in_order (Ended 3 good ∷ Started 3 ∷ []) ≡ false
start_behind_end = refl

two_ends : are_in_order (Ended 3 good ∷ Ended 4 good ∷ []) ≡ false
two_ends = refl

-- a function ends commands behind it, as many as it names
function_first : are_in_order (Asked 2 Clear ∷ Aborted 3 ∷ Aborted 4 ∷ []) ≡ true
function_first = refl

function_last : are_in_order (Aborted 3 ∷ Asked 2 Clear ∷ []) ≡ false
function_last = refl

-- the first reason is told, and none where there is none
first_of_two : first_reason (None ∷ Some Spent ∷ Some (Idle 2) ∷ []) ≡ Some Spent
first_of_two = refl

off_before_all : first_reason (Some Off ∷ Some Spent ∷ Some (Idle 2) ∷ []) ≡ Some Off
off_before_all = refl

no_reason : first_reason (None ∷ None ∷ None ∷ []) ≡ None
no_reason = refl

-- sector 40, and the first two stages
p40 : Psn
p40 = record { 0 = 40 }

plain : Stage
plain = record { number = 0; reread = 0; offset = pos 0; how = Light }

again : Stage
again = record { number = 1; reread = 1; offset = pos 0; how = Light }

-- a try is of its own fetch: by the fetch before, of another sector, or not as its stage reads, it is none
own_try : is_one_step 7 (try_of 7 p40 again None) ≡ true
unfolding p40 again
own_try = refl

try_of_an_older_fetch : is_one_step 7 (Fetched p40 (attempt_of again) ∷ Tried 6 p40 again None ∷ []) ≡ false
unfolding p40 again
try_of_an_older_fetch = refl

try_of_another_sector : is_one_step 7 (Fetched (record { 0 = 41 }) (attempt_of again) ∷ Tried 7 p40 again None ∷ []) ≡ false
unfolding p40 again
try_of_another_sector = refl

try_read_otherwise : is_one_step 7 (Fetched p40 (attempt_of plain) ∷ Tried 7 p40 again None ∷ []) ≡ false
unfolding p40 plain again
try_read_otherwise = refl

fetch_alone : is_one_step 7 (Fetched p40 (attempt_of plain) ∷ []) ≡ false
fetch_alone = refl

two_tries : is_one_step 7 (try_of 7 p40 plain None ++ try_of 9 p40 again None) ≡ false
unfolding p40 plain again
two_tries = refl

-- no write is torn, and no power goes or comes
torn_write : (payload : Payload) (tear : Tear) → is_one_step 7 (Torn payload tear ∷ op.Cut ∷ []) ≡ false
torn_write payload tear = refl

cut_alone : is_one_step 7 (op.Cut ∷ []) ≡ false
cut_alone = refl

power_alone : is_one_step 7 (op.Power ∷ []) ≡ false
power_alone = refl

cut_from_outside : (off : Bool) (entries : List Entry) (ops : List Op) → IsWorldStep off world.Cut entries ops → ⊥
cut_from_outside off entries ops never = never

power_from_outside : (off : Bool) (entries : List Entry) (ops : List Op) → IsWorldStep off world.Power entries ops → ⊥
power_from_outside off entries ops never = never

-- no cut is armed
arm_from_outside : (off : Bool) (k : ℕ) (tear : Tear) (entries : List Entry) (ops : List Op) → IsWorldStep off (world.Arm k tear) entries ops → ⊥
arm_from_outside off k tear entries ops never = never

-- no turn of a move has a power cut, and no turn is one of the scan
cut_off_move : (s : Scene) (j : ℕ) (entries : List Entry) (ops : List Op) → IsStep s (label.Job j) entries (op.Cut ∷ ops) → ⊥
cut_off_move s j entries ops (turn, on) = true≢false on

turn_of_the_scan : (s : Scene) (entries : List Entry) (ops : List Op) → IsStep s label.Scan entries ops → ⊥
turn_of_the_scan s entries ops never = never

entries_of_the_scan : (entries : List Entry) → AreOwn label.Scan entries → ⊥
entries_of_the_scan entries never = never

-- no turn of work shows that a block is given up
given_up : (s : Scene) (c : ℕ) (entries : List Entry) (ops : List Op) (h : State) → Shows s (beat (label.Work c) entries ops) h (GiveUp (lba 7)) → ⊥
given_up s c entries ops h never = never

-- stages are tried in their order: the plain read comes first
plain_read_first : FailedBelow (try_of 7 p40 plain None) p40 3 1
unfolding plain
plain_read_first = ([], 7, plain, refl, refl, refl)

two_stages : FailedBelow (try_of 7 p40 plain None ++ try_of 12 p40 again None) p40 3 2
unfolding plain again
two_stages = (try_of 7 p40 plain None, 12, again, refl, ([], 7, plain, refl, refl, refl), refl)

-- a stage that is left out
reread_of : List Op → ℕ
reread_of (Fetched p attempt ∷ rest) = attempt.reread
reread_of other = 0

first_reread : (stage : Stage) → slice_get (stages_of 3) 0 ≡ Some stage → stage.reread ≡ 0
first_reread stage at = sym (ap (λ o. option_map_or (λ (x : Stage). x.reread) o 0) at)

plain_read_left_out : FailedBelow (try_of 7 p40 again None) p40 3 1 → ⊥
unfolding again reread_of
plain_read_left_out shown =
    let window : try_of 7 p40 again None ≡ try_of shown.1 p40 shown.2 None = shown.5 ∙ ap (λ (w : List Op). w ++ try_of shown.1 p40 shown.2 None) shown.4 in
    let same : 1 ≡ shown.2.reread = ap reread_of window in
    let first : shown.2.reread ≡ 0 = first_reread shown.2 shown.3 in
    absurd (omega (arith, same, first))

-- a block is tried only where it is got, or where the turn has no entry
try_beside_a_start : (s : Scene) → AreTriesShown s (label.Work 3) (Started 3 ∷ []) (try_of 7 p40 plain None) → ⊥
try_beside_a_start s shown = true≢false (sym shown)

-- no block is rewritten without its harden
write_beside_a_get : (m : DefectMap) (payload : Payload) → WritesBlockData m (Get 3 (lba 7) Lost ∷ []) (Wrote payload) → ⊥
write_beside_a_get m payload shown = true≢false (sym shown.1)

-- a window begins anew behind a put and behind a harden: a verification has nothing of what was tried before its write
window_behind_a_put : (tried : List Op) → window_after 3 tried (beat (label.Work 3) (Put 3 (lba 7) [] ∷ []) []) ≡ []
window_behind_a_put tried = refl

window_behind_a_write : (tried : List Op) (payload : Payload)
    → window_after 3 tried (beat (label.Work 3) (Put 3 (lba 7) [] ∷ Harden (Command 3) (lba 7) ∷ []) (Wrote payload ∷ [])) ≡ []
window_behind_a_write tried payload = refl

window_without_entry : (tried ops : List Op) → window_after 3 tried (beat (label.Work 3) [] ops) ≡ tried ++ ops
window_without_entry tried ops = refl

-- a write that owes its harden holds its block, and so does one whose write failed; another holds none
write_of_seven : Bool → Plan
write_of_seven owes = Writing (record { from = 7; at = 7; end = 8; sent = Nothing; through = true; verifies = false; reports = false; owes_harden = owes })

put_and_not_hardened : held_by_plan [] (write_of_seven true) ≡ Some 7
unfolding write_of_seven
put_and_not_hardened = refl

write_failed : held_by_plan (op.WriteFailed p40 ∷ []) (write_of_seven false) ≡ Some 7
unfolding write_of_seven
write_failed = refl

nothing_held : held_by_plan [] (write_of_seven false) ≡ None
unfolding write_of_seven
nothing_held = refl

-- AUTO REALLOCATION FAILED comes of no write yet
no_reallocation : (s : Scene) (t : Beat) → FailedToWrite s t 3 7 (medium_error 0x0C 0x02 7) → ⊥
no_reallocation s t shown =
    let same : 2 ≡ 0 = ap (λ (r : Reply). option_map_or (λ x. x.ascq) r.sense 0) shown.0 in
    absurd (omega (arith, same))
