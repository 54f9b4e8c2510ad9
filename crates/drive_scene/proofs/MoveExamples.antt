-- What commits tell, turns of moves, what is in hand after them, and turns that are none.
use Rattle.std.proofs.Common.{◌≡◌, ◌∙◌, ℕ, eqb, Bool, true, false, true≢false, List, [], ◌∷◌, map, take, length, Option, Some, None, refl, sym, ap, arith, inl, inr, length-append, lit≤, lit<}
use Rattle.std.specs.Prelude.{◌&&◌, nat_lt, slice_index_or}
use Rattle.std.specs.Option.{option_map_or}
use Rattle.disk_base.specs.declared.block.Value.{Value}
use Rattle.disk_base.specs.declared.block.Value.TheVariants.{Data, Lost}
use Rattle.disk_base.specs.declared.payload.Payload.{Payload}
use Rattle.disk_base.specs.declared.stage.MoveWhy.TheVariants as why
use Rattle.platter_model.specs.declared.damage.Tear.{Tear}
use Rattle.platter_model.specs.declared.op.Op.{Op}
use Rattle.platter_model.specs.declared.op.Op.TheVariants.{Wrote, WriteFailed, Torn, Fetched, Tried}
use Rattle.platter_model.specs.declared.op.Op.TheVariants as op
use Rattle.platter_model.specs.TrueLog.{is_same}
use Rattle.geometry_map.specs.declared.pair.Pair.{Pair}
use Rattle.geometry_map.specs.declared.size.Size.{Size}
use Rattle.geometry_map.specs.DefectMap.{DefectMap, sector, factory_map, place_of}
use Rattle.move_jobs.specs.declared.step.JobStep.{JobStep}
use Rattle.move_jobs.specs.declared.step.JobStep.TheVariants.{Writing, Checking, Committing}
use Rattle.move_jobs.specs.Job.{Job, pair, job_of, answered}
use Rattle.sector_store.specs.Maps.{records_of, next_map}
use Rattle.sector_store.specs.Shapes.{payload_on, try_of, IsCommit}
use Rattle.sector_store.specs.Spares.{check_stage}
use Rattle.block_machine.specs.declared.entry.Entry.{Entry}
use Rattle.block_machine.specs.declared.entry.Entry.TheVariants.{Put, GiveUp, Harden, Cut}
use Rattle.block_machine.specs.declared.entry.Who.{Who}
use Rattle.block_machine.specs.declared.entry.Who.TheVariants.{Command, Drive}
use Rattle.block_machine.specs.Blocks.{Blocks, block_lawful}
use Rattle.task_set.specs.declared.member.Member.{Member}
use Rattle.drive_scene.specs.Background.{Background, background_at_start}
use Rattle.drive_scene.specs.Scene.{Scene}
use Rattle.move_table.specs.Table.{flight, job_in}
use Rattle.drive_scene.specs.Evidence.{lba}
use Rattle.drive_scene.proofs.Uncommitted.{ends_cut}
use Rattle.drive_scene.specs.Carried.{IsValueOf, commit_entries, cut_entries}
use Rattle.drive_scene.specs.MoveTurn.{IsMoveTurn, IsMoveWork, answer_if, end_entries, move_entries, back_after_job, next_spare, is_cut_off, logged_moved, logged_unmoved}

-- a value that was found is told by nothing, a dirty one by its harden; one that was given up is given up and hardened, and new data are
-- put and hardened
found_value : (v : Value) → commit_entries why.Reassign (Some 3) (lba 5) v ≡ []
found_value v = refl

dirty_value : (v : Value) → commit_entries why.Dirty (Some 3) (lba 5) v ≡ Harden (Command 3) (lba 5) ∷ []
dirty_value v = refl

given_up : commit_entries why.GivenUp (Some 3) (lba 5) Lost ≡ GiveUp (lba 5) ∷ Harden (Command 3) (lba 5) ∷ []
given_up = refl

new_data : (bytes : List ℕ) → commit_entries why.Write (Some 3) (lba 5) (Data bytes) ≡ Put 3 (lba 5) bytes ∷ Harden (Command 3) (lba 5) ∷ []
new_data bytes = refl

-- once the command is gone, the drive hardens
owner_gone : commit_entries why.GivenUp None (lba 5) Lost ≡ GiveUp (lba 5) ∷ Harden Drive (lba 5) ∷ []
owner_gone = refl

-- cut off, nothing is hardened
cut_dirty : (v : Value) → cut_entries why.Dirty (Some 3) (lba 5) v ≡ Cut ∷ []
cut_dirty v = refl

cut_new_data : (bytes : List ℕ) → cut_entries why.Write (Some 3) (lba 5) (Data bytes) ≡ Put 3 (lba 5) bytes ∷ Cut ∷ []
cut_new_data bytes = refl

-- a value that was found, hardened: the block isn't dirty, so that may not come
found_hardened : (blocks : Blocks) (v : Value) (w : Who) → IsValueOf blocks why.Reassign (lba 5) v → block_lawful 28 blocks (Harden w (lba 5)) ≡ false
found_hardened blocks v w clean = ap (λ (t : Bool). nat_lt 5 28 && t) clean

-- 48 sectors, of which 44 to 47 are spares; block 5 is at sector 21
abbrev measures : Size
measures = record {
  cylinders = 1;
  heads = 1;
  sectors = 48;
  reserved = 4;
  within_limits = record {
    a_cylinder = lit≤ tt;
    few_cylinders = lit≤ tt;
    a_head = lit≤ tt;
    few_heads = lit≤ tt;
    a_sector = lit≤ tt;
    short_tracks = lit≤ tt;
    least = lit≤ tt;
    greatest = lit≤ tt;
    a_block = lit< tt;
  };
}

abbrev pub small : DefectMap
small = factory_map measures []

-- the move of block 5, which command 3 gave up
abbrev pub given : JobStep → Job
given step = job_of (lba 5) Lost why.GivenUp (Some 3) (pair (sector 21) (sector 44) ∷ []) step

-- the same block, found by a heavy stage for the scan
abbrev pub scans : JobStep → Job
scans step = job_of (lba 5) Lost why.Heavy None (pair (sector 21) (sector 44) ∷ []) step

-- a drive with this move in flight alone, with number 1; block 5 was logged as unread, and command 3 is gone
abbrev pub with_move : Scene → Job → Scene
with_move s job = record s {
  map = small;
  hist = record s.hist { set = [] };
  back = record background_at_start { opened = 1; flights = flight 1 job ∷ []; logged = λ b. eqb b 5 };
}

-- and command 3 is still in
abbrev pub with_owner : Scene → Member → Job → Scene
with_owner s m job = record (with_move s job) { hist = record s.hist { set = record m { task = record m.task { c = 3 } } ∷ [] } }

begins_at_its_place : place_of small (lba 5) ≡ sector 21
begins_at_its_place = refl

first_of_spares : (s : Scene) → next_spare (with_move s (given Writing)) ≡ Some (sector 45)
first_of_spares s = refl

-- the spare is written, then read, then committed
pub a_write : (s : Scene) → IsMoveTurn (with_move s (given Writing)) 1 [] (Wrote (payload_on (sector 44) (lba 5) Lost) ∷ [])
a_write s = record { job = given Writing; in_flight = refl; work = inl (inl refl); told = refl }

pub a_failed_write : (s : Scene) → IsMoveTurn (with_move s (given Writing)) 1 [] (WriteFailed (sector 44) ∷ [])
a_failed_write s = record { job = given Writing; in_flight = refl; work = inr refl; told = refl }

a_torn_write : (s : Scene) (tear : Tear) → IsMoveTurn (with_move s (given Writing)) 1 (Cut ∷ []) (Torn (payload_on (sector 44) (lba 5) Lost) tear ∷ op.Cut ∷ [])
a_torn_write s tear = record { job = given Writing; in_flight = refl; work = inl (inr (0, payload_on (sector 44) (lba 5) Lost, tear, refl, refl)); told = refl }

-- whatever a check finds, nothing is told while a spare is left
pub untold : (s : Scene) (good : Bool) → [] ≡ end_entries s (given Checking) (answered (given Checking) (answer_if good (Some (sector 45)))).step
untold s true = refl
untold s false = refl

pub a_check : (s : Scene) (found : Option Payload) → IsMoveTurn (with_move s (given Checking)) 1 [] (try_of (length s.ops) (sector 44) check_stage found)
a_check s None = record { job = given Checking; in_flight = refl; work = (None, refl); told = refl }
a_check s (Some payload) = record {
  job = given Checking;
  in_flight = refl;
  work = (Some payload, refl);
  told = untold s (is_same (payload_on (sector 44) (lba 5) Lost) payload);
}

pub a_commit : (s : Scene) (m : Member)
    → IsMoveTurn (with_owner s m (given Committing)) 1 (GiveUp (lba 5) ∷ Harden (Command 3) (lba 5) ∷ []) (map Wrote (records_of (next_map small (given Committing).chain)))
unfolding records_of
a_commit s m = record { job = given Committing; in_flight = refl; work = inl refl; told = refl }

-- a move of the scan logs what became of the block
a_commit_of_the_scan : (s : Scene) → IsMoveTurn (with_move s (scans Committing)) 1 (logged_moved s (lba 5) ∷ []) (map Wrote (records_of (next_map small (scans Committing).chain)))
unfolding records_of
a_commit_of_the_scan s = record { job = scans Committing; in_flight = refl; work = inl refl; told = refl }

-- what a turn tells of the move in flight
told_of : (s : Scene) (job : Job) (entries : List Entry) (ops : List Op) → job_in s.back.flights 1 ≡ Some job → IsMoveTurn s 1 entries ops
    → entries ≡ move_entries s job job.step ops
told_of s job entries ops is turn =
    let at : Option Job → List Entry = λ o. option_map_or (λ x. move_entries s x x.step ops) o [] in
    turn.told ∙ ap at (sym turn.in_flight ∙ is)

-- no mark comes before the commit
mark_before_the_commit : (s : Scene) (payload : Payload) → IsMoveTurn (with_move s (given Writing)) 1 (GiveUp (lba 5) ∷ []) (Wrote payload ∷ []) → ⊥
mark_before_the_commit s payload turn =
    absurd (omega (arith, ap length (told_of (with_move s (given Writing)) (given Writing) (GiveUp (lba 5) ∷ []) (Wrote payload ∷ []) refl turn)))

-- a found value isn't hardened
found_is_not_hardened : (s : Scene) (payload : Payload) → IsMoveTurn (with_move s (scans Committing)) 1 (Harden Drive (lba 5) ∷ logged_moved s (lba 5) ∷ []) (Wrote payload ∷ []) → ⊥
found_is_not_hardened s payload turn =
    absurd (omega (arith, ap length (told_of (with_move s (scans Committing)) (scans Committing) (Harden Drive (lba 5) ∷ logged_moved s (lba 5) ∷ []) (Wrote payload ∷ []) refl turn)))

-- no other move is in flight
pub another_move : (s : Scene) (entries : List Entry) (ops : List Op) → IsMoveTurn (with_move s (given Writing)) 2 entries ops → ⊥
another_move s entries ops turn = let never : None ≡ Some turn.job = turn.in_flight in absurd (cc)

-- the write goes to the spare in hand
sector_in : List Op → ℕ
sector_in (Wrote payload ∷ rest) = payload.psn.0
sector_in other = 0

is_write : List Op → Bool
is_write (Wrote payload ∷ rest) = true
is_write other = false

another_spare : (s : Scene) → IsMoveWork s (given Writing) Writing (Wrote (payload_on (sector 45) (lba 5) Lost) ∷ []) → ⊥
unfolding sector_in is_write
another_spare s (inl (inl e)) = absurd (omega (arith, ap sector_in e))
another_spare s (inl (inr torn)) =
    absurd (omega (arith, ap length torn.4, length-append (map Wrote (take torn.0 (payload_on (sector 44) (lba 5) Lost ∷ []))) (Torn torn.1 torn.2 ∷ op.Cut ∷ [])))
another_spare s (inr e) = true≢false (ap is_write e)

-- a check is of its own fetch
fetch_in : List Op → ℕ
fetch_in (o ∷ Tried at p stage found ∷ rest) = at
fetch_in other = 0

wrong_number : (s : Scene) (found : Option Payload) → length s.ops ≡ 7 → IsMoveWork s (given Checking) Checking (try_of 6 (sector 44) check_stage found) → ⊥
unfolding fetch_in
wrong_number s found seven check = absurd (omega (arith, seven, ap fetch_in check.1))

-- a commit has all pairs of its move: here two, of which the second begins at sector 44
abbrev pub second : List Pair
second = pair (sector 21) (sector 44) ∷ pair (sector 44) (sector 45) ∷ []

-- the last byte of the second pair's old in the second record, which has the first pairs
second_old : List Op → ℕ
second_old (Wrote first ∷ Wrote pairs ∷ rest) = slice_index_or pairs.block 11 0
second_old other = 0

pub one_pair_fewer : IsCommit small second (map Wrote (records_of (next_map small (pair (sector 21) (sector 44) ∷ [])))) → ⊥
unfolding records_of second_old
one_pair_fewer (inl e) = absurd (omega (arith, ap second_old e))
one_pair_fewer (inr torn) =
    true≢false (sym (ends_cut (map Wrote (take torn.0 (records_of (next_map small second)))) torn.1 torn.2) ∙ sym (ap is_cut_off torn.4))

-- what is in hand after it: the next spare where the write failed
next_in_hand : (s : Scene) → (back_after_job (with_move s (given Writing)) 1 (given Writing) (WriteFailed (sector 44) ∷ [])).flights
    ≡ flight 1 (job_of (lba 5) Lost why.GivenUp (Some 3) second Writing) ∷ []
next_in_hand s = refl

-- a commit takes the move out of flight, counts for its owner, and ends that the block is logged
abbrev committed : Scene → Background
committed s = back_after_job (with_move s (given Committing)) 1 (given Committing) []

counts_for_its_owner : (s : Scene) → ((committed s).flights ≡ []) × ((committed s).moved 3 ≡ 1) × ((committed s).moved 4 ≡ 0) × ((committed s).logged 5 ≡ false)
counts_for_its_owner s = (refl, refl, refl, refl)

-- with no spare left the owner is short of one; the scan's move leaves nobody short, and is logged
abbrev all_spares : List Pair
all_spares = pair (sector 21) (sector 44) ∷ pair (sector 44) (sector 45) ∷ pair (sector 45) (sector 46) ∷ pair (sector 46) (sector 47) ∷ []

abbrev pub last_given : Job
last_given = job_of (lba 5) Lost why.GivenUp (Some 3) all_spares Writing

abbrev pub last_scans : Job
last_scans = job_of (lba 5) Lost why.Heavy None all_spares Writing

no_spare_left : (s : Scene) → next_spare (with_move s last_given) ≡ None
no_spare_left s = refl

leaves_its_owner_short : (s : Scene)
    → let after : Background = back_after_job (with_move s last_given) 1 last_given (WriteFailed (sector 47) ∷ []) in
    (after.flights ≡ []) × (after.short 3 ≡ Some (lba 5)) × (after.short 4 ≡ None) × (after.moved 3 ≡ 0) × (after.logged 5 ≡ true)
leaves_its_owner_short s = (refl, refl, refl, refl, refl)

pub ends_without_a_spare : (s : Scene) → IsMoveTurn (with_move s last_scans) 1 (logged_unmoved s (lba 5) ∷ []) (WriteFailed (sector 47) ∷ [])
ends_without_a_spare s = record { job = last_scans; in_flight = refl; work = inr refl; told = refl }

leaves_nobody_short : (s : Scene) (c : ℕ) → (back_after_job (with_move s last_scans) 1 last_scans (WriteFailed (sector 47) ∷ [])).short c ≡ None
leaves_nobody_short s c = refl
