-- Each answer that fits leaves fewer to come.
use Rattle.std.proofs.Common.{◌≡◌, ℕ, ◌-◌, ◌+◌, ◌*◌, ◌<◌, ◌≤◌, Bool, true, false, not, ◌&&◌, ◌==◌, nat_lt, length, Some, None, refl, sym, subst, arith}
use Rattle.std.specs.Prelude.{is_none, if◌then◌else◌}
use Rattle.std.proofs.lemmas.Bool.{ltb-true, lt-ltb, and_parts}
use Rattle.std.proofs.lemmas.Option.{slice_get_within}
use Rattle.disk_base.specs.declared.address.Lba.{Lba}
use Rattle.disk_base.specs.declared.stage.MoveWhy.TheVariants.{GivenUp}
use Rattle.read_recovery.specs.Stages.{Progress, begun, next_stage, answered}
use Rattle.cdb_reader.specs.declared.plan.Reading as reading
use Rattle.cdb_reader.specs.declared.plan.Writing as writing
use Rattle.cdb_reader.specs.declared.plan.Moving as moving
use Rattle.cdb_reader.specs.declared.plan.Plan.{Plan}
use Rattle.cdb_reader.specs.declared.plan.Plan.TheVariants.{Reading, Writing, Moving, Unread}
use Rattle.cdb_reader.specs.Plan.{reading_from}
use Rattle.command_engine.specs.declared.answer.Answer.{Answer}
use Rattle.command_engine.specs.declared.step.Step.{Step}
use Rattle.command_engine.specs.declared.step.Step.TheVariants as step
use Rattle.command_engine.specs.declared.step.Step.TheVariants.{Trying}
use Rattle.command_engine.specs.Standing.{IsUnderWay}
use Rattle.command_engine.specs.Need.{in_hand}
use Rattle.command_engine.specs.Answers.{gives_up, is_moving, settles, settled, past, owed_after, moved_after, step_after}
use Rattle.command_engine.specs.Bound.{hardened_first, per_block, per_move, at_block, left_of_read, left_of_write, left_by}
use Rattle.command_engine.proofs.Lists.{past_is}
use Rattle.command_engine.proofs.Fit.{Fit, read_found, read_lost, read_missed, read_dirty, read_hardened, read_faulted, write_put, write_hardened, write_faulted, sync_clean, sync_dirty, sync_hardened, sync_faulted, paged, list_found, list_missed, list_dirty, list_moved, list_spareless}

-- one block less of n
one_less : (n m w : ℕ) → n ≡ m + 1 → n * w ≡ m * w + w
one_less n m w e = rw e (grind arith)

-- n blocks with w answers each, the first of which is begun
begun_block : (n m w first : ℕ) → n ≡ m + 1 → first ≤ w → first + m * w ≤ n * w
begun_block n m w first e h = omega (arith, one_less n m w e)

-- a block that wasn't begun
fresh_block : (retry : ℕ) (through : Bool) → at_block retry (through && true) (Trying (begun retry)) ≤ per_block retry through
fresh_block retry true = omega arith
fresh_block retry false = omega arith

-- the blocks of a read that weren't begun
fresh : (retry at end : ℕ) (through is_left : Bool) → nat_lt at end ≡ is_left
    → (if is_left then at_block retry (through && true) (Trying (begun retry)) + (end - (at + 1)) * per_block retry through else 0) ≤ (end - at) * per_block retry through
fresh retry at end through true is =
    begun_block (end - at) (end - (at + 1)) (per_block retry through) _ (omega (arith, ltb-true at end is)) (fresh_block retry through)
fresh retry at end through false is = omega arith

-- of a block that some stages failed of, one is left
some_left : (retry failed more : ℕ) → failed < retry + 5 → 0 < (retry + 5 - failed) + more
some_left retry failed more h = omega arith

-- once a block was read, only those after it are left
read_one : (retry : ℕ) (r : reading.Reading) (now : ℕ) → 0 < now
    → left_of_read retry (record r { at = r.at + 1; hardened = false }) (Trying (begun retry)) < now + (r.end - (r.at + 1)) * per_block retry r.through
read_one retry r now h = omega (arith, fresh retry (r.at + 1) r.end r.through (nat_lt (r.at + 1) r.end) refl)

-- one stage less
fails : (retry moved : ℕ) (r : reading.Reading) (p : Progress) (lost : Bool) → nat_lt r.at r.end ≡ true → p.failed < retry + 5
    → left_by retry (if lost then Unread r.at else Reading r) moved (if lost then Trying (begun retry) else Trying (answered p false)) < left_by retry (Reading r) moved (Trying p)
fails retry moved r p true left h = rw left (omega (arith, some_left retry p.failed (if r.through && not r.hardened then hardened_first retry else 0) h))
fails retry moved r p false left h = rw left (omega (arith, h))

-- one block less is to be written
shorter : (at end more : ℕ) (is_left : Bool) → at < end → (if is_left then (end - (at + 1)) + more else 0) < (end - at) + more
shorter at end more true left = omega arith
shorter at end more false left = omega arith

-- a write of one block more
written : (retry moved : ℕ) (w : writing.Writing) (last : Bool) → (w.verifies && w.at + 1 == w.end) ≡ last → w.at < w.end → w.from ≤ w.at
    → left_by retry (if last then reading_from w.from w.end true w.reports else Writing (record w { at = w.at + 1; owes_harden = false })) moved (Trying (begun retry))
    < left_of_write retry w
written retry moved w true is left reached =
    let left_so : nat_lt w.at w.end ≡ true = lt-ltb w.at w.end left in
    let verifies : w.verifies ≡ true = (and_parts w.verifies _ is).0 in
    rw (left_so, verifies) (omega (arith, fresh retry w.from w.end true (nat_lt w.from w.end) refl))
written retry moved w false is left reached =
    let left_so : nat_lt w.at w.end ≡ true = lt-ltb w.at w.end left in
    rw left_so (shorter w.at w.end _ (nat_lt (w.at + 1) w.end) left)

-- of a list, the descriptor in hand is one of those left
list_left : (retry : ℕ) (m : moving.Moving) (moved : ℕ) → moved < length m.blocks
    → (length m.blocks - moved) * per_move retry ≡ (length m.blocks - (moved + 1)) * per_move retry + per_move retry
list_left retry m moved left = one_less (length m.blocks - moved) (length m.blocks - (moved + 1)) (per_move retry) (omega (arith, left))

-- once the value in hand is known, its move is left of it
list_waits : (retry : ℕ) (m : moving.Moving) (moved : ℕ) (p : Progress) → moved < length m.blocks → p.failed < retry + 5
    → (length m.blocks - (moved + 1)) * per_move retry + 1 < (length m.blocks - moved) * per_move retry - p.failed
list_waits retry m moved p left h = omega (arith, list_left retry m moved left, h)

list_misses : (retry : ℕ) (m : moving.Moving) (moved : ℕ) (p : Progress) (lost : Bool) → moved < length m.blocks → p.failed < retry + 5
    → left_by retry (Moving m) moved (if lost then step.Moving GivenUp else Trying (answered p false)) < left_by retry (Moving m) moved (Trying p)
list_misses retry m moved p true left h = list_waits retry m moved p left h
list_misses retry m moved p false left h = omega (arith, list_left retry m moved left, h)

list_moves : (retry : ℕ) (m : moving.Moving) (moved : ℕ) (b : Lba) (hardens : Bool) → in_hand m moved ≡ Some b → m.hardened ≤ moved
    → left_by retry (past m (if hardens then Some b else None)) (moved + 1) (Trying (begun retry)) < (length m.blocks - (moved + 1)) * per_move retry + 1
list_moves retry m moved b hardens hand low =
    let after = past_is m moved b hardens hand low in
    subst (λ plan. left_by retry plan (moved + 1) (Trying (begun retry)) < (length m.blocks - (moved + 1)) * per_move retry + 1) (sym after.1.0) (omega arith)

pub near : (retry moved : ℕ) (plan : Plan) (step : Step) (a : Answer) → Fit moved plan step a → IsUnderWay retry plan moved step
    → left_by retry (owed_after plan (gives_up step a) (settled plan moved step) a) (moved_after (is_moving plan) moved a) (step_after retry (is_moving plan) step a)
    < left_by retry plan moved step
near retry moved _ _ _ (read_found r p stage d left is) way = rw left (read_one retry r _ (some_left retry p.failed _ way.tried.left))
near retry moved _ _ _ (read_lost r p stage left is) way = rw left (omega (arith, some_left retry p.failed (if r.through && not r.hardened then hardened_first retry else 0) way.tried.left))
near retry moved _ _ _ (read_missed r p stage left is) way = fails retry moved r p (is_none (next_stage (answered p false))) left way.tried.left
near retry moved _ _ _ (read_dirty r p stage b left is through unhardened) way = rw (left, through, unhardened) (omega (arith, way.tried.left))
near retry moved _ _ _ (read_hardened r left) way = rw (left, way.through.0) (omega arith)
near retry moved _ _ _ (read_faulted r left) way = rw left (omega arith)
near retry moved _ _ _ (write_put w p left through) way = written retry moved w (w.verifies && w.at + 1 == w.end) refl (ltb-true w.at w.end left) way.reached
near retry moved _ _ _ (write_hardened w p left) way = written retry moved w (w.verifies && w.at + 1 == w.end) refl (ltb-true w.at w.end left) way.reached
near retry moved _ _ _ (write_faulted w p left) way = rw left (omega (arith, ltb-true w.at w.end left))
near retry moved _ _ _ (sync_clean s p left) way = omega (arith, ltb-true s.at s.end left)
near retry moved _ _ _ (sync_dirty s p b left low high) way = omega arith
near retry moved _ _ _ (sync_hardened s left) way = omega (arith, ltb-true s.at s.end left)
near retry moved _ _ _ (sync_faulted s left) way = omega (arith, ltb-true s.at s.end left)
near retry moved _ _ _ (paged bytes reply step) way = omega arith
near retry moved _ _ _ (list_found m p stage b value hand is) way = list_waits retry m moved p (slice_get_within m.blocks moved b hand) way.tried.left
near retry moved _ _ _ (list_missed m p stage b hand is) way =
    list_misses retry m moved p (is_none (next_stage (answered p false))) (slice_get_within m.blocks moved b hand) way.tried.left
near retry moved _ _ _ (list_dirty m p stage b dirty hand is) way = list_waits retry m moved p (slice_get_within m.blocks moved b hand) way.tried.left
near retry moved _ _ _ (list_moved m why b hand) way = rw hand (list_moves retry m moved b (settles why) hand way.hardened)
near retry moved _ _ _ (list_spareless m why b hand) way = omega arith
