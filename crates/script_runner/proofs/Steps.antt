-- Each deed takes a step off what a command still owes.
use Rattle.std.proofs.Common.{◌≡◌, refl, subst, ℕ, ◌+◌, ◌-◌, ◌*◌, ◌<◌, ◌≤◌, Bool, true, false, not, List, arith, nat_lt, Some, None, Option, Result, Ok, Err, cond, if◌then◌else◌, length}
use Rattle.std.specs.Prelude.{◌==◌, ◌&&◌, ◌||◌, unwrap_or}
use Rattle.std.specs.List.{position, position_or_len}
use Rattle.std.proofs.lemmas.List.{length-drop}
use Rattle.std.specs.Str.{bytes_eq}
use Rattle.std.specs.Option.{option_map_or}
use Rattle.std.proofs.lemmas.Bool.Decides.{nat_tests}
use Rattle.disk_base.specs.declared.address.Lba.{Lba}
use Rattle.disk_base.specs.declared.block.Value.TheVariants.{Data, Lost}
use Rattle.disk_base.specs.declared.command.DataOut.{DataOut}
use Rattle.sense_data.specs.declared.sense.Sense.{Sense}
use Rattle.cdb_reader.specs.declared.plan.Reading as reading
use Rattle.cdb_reader.specs.declared.plan.Writing as writing
use Rattle.cdb_reader.specs.declared.plan.Moving as moving
use Rattle.cdb_reader.specs.declared.plan.Plan.{Plan}
use Rattle.cdb_reader.specs.declared.plan.Plan.TheVariants.{Ending, Unread, Answering, Changing, Reading, Writing, Syncing, Moving, Over}
use Rattle.cdb_reader.specs.declared.plan.Deed.{Deed}
use Rattle.cdb_reader.specs.declared.plan.Deed.TheVariants.{Page, Mode, Got, Put, Hardened, Passed, Ended}
use Rattle.cdb_reader.specs.Plan.{next, when, after_written, reading_from, block_of, unless_empty, writing_from, after_move, blocks_left}
use Rattle.cdb_reader.specs.Request.{Request}
use Rattle.cdb_reader.specs.Request as request
use Rattle.sense_data.specs.Sense.{sense_of, sense_bytes}
use Rattle.mode_pages.specs.declared.settings.Settings.{Settings}
use Rattle.inquiry_data.specs.Identity.{inquiry_data}
use Rattle.inquiry_data.specs.Capacity.{long_capacity}
use Rattle.inquiry_data.specs.Luns.{reported_luns}
use Rattle.scan_log.specs.Pages.{log_data}
use Rattle.block_machine.specs.Scan.{scan_shown}
use Rattle.cdb_reader.specs.Replies.{good}
use Rattle.block_machine.specs.State.{State, Duty}
use Rattle.block_machine.specs.Settings.{same_settings, settings_made}
use Rattle.block_machine.specs.Attentions.{attention_met}
use Rattle.block_machine.specs.Plans.{first_plan, plan_unless_refused, plan_asked, answering, answering_sensed, changing, refusing, sense_shown, is_medium}
use Rattle.block_machine.proofs.Booleans.{both, not_is}
use Rattle.script_runner.specs.Measure.{steps_of, steps_asked}

when_some : (may : Bool) (p q : Plan) → when may p ≡ Some q → (may ≡ true) × (p ≡ q)
when_some true p q e = (refl, cc)
when_some false p q e = absurd (cc)

-- a plan that may follow is shorter where it is shorter by what has to hold
through : (may : Bool) (p q : Plan) (n : ℕ) → when may p ≡ Some q → (may ≡ true → steps_of p < n) → steps_of q < n
through may p q n e f = let w = when_some may p q e in subst (λ (z : Plan). steps_of z < n) w.1 (f w.0)

hardened_lowers : (r : reading.Reading) (b : Lba) → (r.through && not r.hardened && b.0 == r.at && nat_lt r.at r.end) ≡ true
    → 2 * (r.end - r.at) + 1 + 0 < 2 * (r.end - r.at) + 1 + (if r.hardened then 0 else 1)
hardened_lowers r b h = grind (arith, nat_tests)

got_lowers : (r : reading.Reading) (b : Lba) (dirty : Bool) → (b.0 == r.at && nat_lt r.at r.end && not (r.through && dirty)) ≡ true
    → 2 * (r.end - (r.at + 1)) + 1 + 1 < 2 * (r.end - r.at) + 1 + (if r.hardened then 0 else 1)
got_lowers r b dirty h = grind (arith, nat_tests)

lost_lowers : (r : reading.Reading) (b : Lba) (dirty : Bool) → (b.0 == r.at && nat_lt r.at r.end && not (r.through && dirty)) ≡ true → 1 < 2 * (r.end - r.at) + 1 + (if r.hardened then 0 else 1)
lost_lowers r b dirty h = grind (arith, nat_tests)

lt_from : (a b : ℕ) → nat_lt a b ≡ true → a < b
lt_from a b h = grind (arith, nat_tests)

position_within : {A : Type 0} (p : A → Bool) (xs : List A) (i : ℕ) → position p xs ≡ Some i → i < length xs
position_within p xs i = go (nat_lt (position_or_len p xs) (length xs)) refl
  where
    go : (b : Bool) → nat_lt (position_or_len p xs) (length xs) ≡ b → cond b (Some (position_or_len p xs)) None ≡ Some i → i < length xs
    go true lt e = let is : position_or_len p xs ≡ i = cc in subst (λ (k : ℕ). k < length xs) is (lt_from (position_or_len p xs) (length xs) lt)
    go false lt e = absurd (cc)

moved_lowers : (m : moving.Moving) (q : Plan) (o : Option ℕ) → ((i : ℕ) → o ≡ Some i → i < length (blocks_left m)) → after_move m o ≡ Some q → steps_of q < length (blocks_left m) + 1
moved_lowers m q None within e = absurd (cc)
moved_lowers m q (Some i) within e =
    let lt : i < length m.blocks - m.hardened = rw length-drop at (within i refl) in
    let is : Moving (record m { hardened = m.hardened + i + 1 }) ≡ q = cc in
    subst (λ (z : Plan). steps_of z < length (blocks_left m) + 1) is (rw (length-drop, length-drop) (omega (arith, lt)))

-- after a block is written
written_lowers : (w : writing.Writing) (b : Bool) (n : ℕ) → w.at < w.end → 2 * (w.end - w.at) + 1 + 0 + (if w.verifies then 2 * (w.end - w.from) + 3 else 0) ≤ n
    → steps_of (after_written w) < n
written_lowers w b n lt le = go w.verifies (w.at + 1 == w.end) refl refl
  where
    go : (v l : Bool) → w.verifies ≡ v → (w.at + 1 == w.end) ≡ l
        → steps_of (cond (v && l) (reading_from w.from w.end true w.reports) (Writing (record w { at = w.at + 1; owes_harden = false }))) < n
    go true true verifies last = grind (arith, nat_tests)
    go true false verifies last = grind (arith, nat_tests)
    go false l verifies last = grind (arith, nat_tests)

put_lowers : (w : writing.Writing) (b : Lba) (block : List ℕ) (full : Bool) → (not w.owes_harden && b.0 == w.at && nat_lt w.at w.end && bytes_eq block (block_of w.sent (w.at - w.from))) ≡ true
    → steps_of (if w.through || full then Writing (record w { owes_harden = true }) else after_written w) < steps_of (Writing w)
put_lowers w b block full h =
    let first = both (not w.owes_harden && b.0 == w.at && nat_lt w.at w.end) (bytes_eq block (block_of w.sent (w.at - w.from))) h in
    let owed = both (not w.owes_harden && b.0 == w.at) (nat_lt w.at w.end) first.0 in
    let free : w.owes_harden ≡ false = not_is w.owes_harden (both (not w.owes_harden) (b.0 == w.at) owed.0).0 in
    let lt : w.at < w.end = lt_from w.at w.end owed.1 in
    let go : (t : Bool) → steps_of (cond t (Writing (record w { owes_harden = true })) (after_written w)) < steps_of (Writing w) =
    λ t. elim t as (λ v. steps_of (cond v (Writing (record w { owes_harden = true })) (after_written w)) < steps_of (Writing w)) [
      | true ↦ rw free (omega arith)
      | false ↦ written_lowers w true (steps_of (Writing w)) lt (rw free (omega arith))
    ] in
    go (w.through || full)

written_hardened : (w : writing.Writing) (b : Lba) → (w.owes_harden && b.0 == w.at && nat_lt w.at w.end) ≡ true → steps_of (after_written w) < steps_of (Writing w)
written_hardened w b h =
    let owed = both (w.owes_harden && b.0 == w.at) (nat_lt w.at w.end) h in
    written_lowers w true (steps_of (Writing w)) (lt_from w.at w.end owed.1) (omega arith)

pub next_lowers : (p q : Plan) (d : Deed) → next p d ≡ Some q → steps_of q < steps_of p
next_lowers (Ending reply) q (Ended given dirty) e = through _ Over q 1 e (λ _. omega arith)
next_lowers (Unread b) q (Ended given dirty) e = through _ Over q 1 e (λ _. omega arith)
next_lowers (Answering bytes reply) q (Page given) e = through _ (Ending reply) q 2 e (λ _. omega arith)
next_lowers Changing q Mode e = through true _ q 2 e (λ _. omega arith)
next_lowers (Reading r) q (Hardened b) e = through _ _ q _ e (λ h. hardened_lowers r b h)
next_lowers (Reading r) q (Got b (Data d) dirty) e = through _ _ q _ e (λ h. got_lowers r b dirty h)
next_lowers (Reading r) q (Got b Lost dirty) e = through _ _ q _ e (λ h. lost_lowers r b dirty h)
next_lowers (Reading r) q (Ended reply dirty) e = through _ _ q _ e (λ h. omega arith)
next_lowers (Writing w) q (Put b block full) e = through _ _ q _ e (λ h. put_lowers w b block full h)
next_lowers (Writing w) q (Hardened b) e = through _ _ q _ e (λ h. written_hardened w b h)
next_lowers (Writing w) q (Ended reply dirty) e = through _ _ q _ e (λ h. omega arith)
next_lowers (Syncing s) q (Passed from to) e = through _ _ q _ e (λ h. grind (arith, nat_tests))
next_lowers (Syncing s) q (Hardened b) e = through _ _ q _ e (λ h. grind (arith, nat_tests))
next_lowers (Syncing s) q (Ended reply dirty) e = through _ _ q _ e (λ h. omega arith)
next_lowers (Moving m) q (Hardened b) e = moved_lowers m q (position (λ block. block.0 == b.0) (blocks_left m)) (position_within (λ (block : Lba). block.0 == b.0) (blocks_left m)) e
next_lowers (Moving m) q (Ended reply dirty) e = through _ _ q _ e (λ h. omega arith)
next_lowers p q d e = absurd (cc)

some_asked : (r : Request) → 1 ≤ steps_asked (Ok r)
some_asked (request.Read from count fua) = omega arith
some_asked (request.Verify from count) = omega arith
some_asked (request.Write from count fua) = omega arith
some_asked (request.WriteAndVerify from count) = omega arith
some_asked (request.SynchronizeCache from count) = omega arith
some_asked (request.ReassignBlocks blocks) = omega arith
some_asked r = omega arith

some_steps : (asks : Result Request Sense) → 1 ≤ steps_asked asks
some_steps (Err sense) = omega arith
some_steps (Ok r) = some_asked r

-- with what a command starts is no more than what it asks for
module _ (capacity : ℕ) (h : State) (i : ℕ) (sent : DataOut) where
  answering_few : (allocation : ℕ) (o : Option (List ℕ)) → steps_of (answering allocation o) ≤ 2
  answering_few allocation None = omega arith
  answering_few allocation (Some bytes) = omega arith

  sensed_few : (r : Result (List ℕ) Sense) → steps_of (answering_sensed r) ≤ 2
  sensed_few (Ok bytes) = omega arith
  sensed_few (Err sense) = omega arith

  changing_few : (settings : Settings) (r : Result Settings Sense) → steps_of (changing settings r) ≤ 2
  changing_few settings (Ok made) = go (same_settings settings made)
    where
      go : (b : Bool) → steps_of (cond b (Ending good) Changing) ≤ 2
      go true = omega arith
      go false = omega arith
  changing_few settings (Err sense) = omega arith

  unless_few : (count n : ℕ) (p : Plan) → steps_of p ≤ n → 1 ≤ n → steps_of (unwrap_or (unless_empty count p) Over) ≤ n
  unless_few count n p le one = go (count == 0)
    where
      go : (b : Bool) → steps_of (unwrap_or (cond b (Some (Ending good)) (Some p)) Over) ≤ n
      go true = one
      go false = le

  asked_few : (r : Request) → steps_of (plan_asked capacity h i sent r) ≤ steps_asked (Ok r)
  asked_few request.TestUnitReady = omega arith
  asked_few (request.RequestSense allocation) = answering_few allocation (Some (sense_bytes (sense_shown h i)))
  asked_few (request.ReassignBlocks blocks) = unless_few (length blocks) (length blocks + 2) (Moving (record { blocks = blocks; hardened = 0 })) (omega arith) (omega arith)
  asked_few (request.Inquiry evpd page allocation) = answering_few allocation (inquiry_data evpd page)
  asked_few (request.ModeSelect ten count) = changing_few h.settings (settings_made capacity h.settings ten count sent)
  asked_few (request.ModeSense ten dbd control page subpage allocation) = sensed_few _
  asked_few request.ReadCapacity10 = omega arith
  asked_few (request.Read from count fua) = unless_few count (2 * count + 2) (reading_from from (from + count) fua h.settings.per) (omega arith) (omega arith)
  asked_few (request.Write from count fua) = unless_few count (2 * count + 2) (writing_from from count sent (not h.settings.wce || fua) false h.settings.per) (omega arith) (omega arith)
  asked_few (request.WriteAndVerify from count) = unless_few count (4 * count + 5) (writing_from from count sent true true h.settings.per) (omega arith) (omega arith)
  asked_few (request.Verify from count) = unless_few count (2 * count + 2) (reading_from from (from + count) true h.settings.per) (omega arith) (omega arith)
  asked_few (request.SynchronizeCache from count) = unless_few count (count + 2) (Syncing (record { at = from; end = from + count })) (omega arith) (omega arith)
  asked_few (request.ReadDefectData primary grown format allocation) = omega arith
  asked_few (request.LogSense page subpage pointer allocation) =
      answering_few allocation (log_data (scan_shown capacity h.settings.bms h.scan) h.scan.findings page subpage pointer)
  asked_few (request.ReadCapacity16 allocation) = answering_few allocation (Some (long_capacity capacity))
  asked_few (request.ReportLuns select allocation) = answering_few allocation (reported_luns select)

  unrefused_few : (asks : Result Request Sense) → steps_of (plan_unless_refused capacity h i sent asks) ≤ steps_asked asks
  unrefused_few (Err sense) = omega arith
  unrefused_few (Ok r) = go (h.corrupt && is_medium r)
    where
      go : (b : Bool) → steps_of (cond b (refusing (sense_of 3 0x31 0x00)) (plan_asked capacity h i sent r)) ≤ steps_asked (Ok r)
      go true = some_asked r
      go false = asked_few r

pub first_few : (capacity : ℕ) (h : State) (i : ℕ) (duty : Duty) → steps_of (first_plan capacity h i duty) ≤ steps_asked duty.asks
first_few capacity h i duty = go (attention_met h.waiting i duty.code)
  where
    go : (o : Option Sense) → steps_of (option_map_or refusing o (plan_unless_refused capacity h i duty.sent duty.asks)) ≤ steps_asked duty.asks
    go None = unrefused_few capacity h i duty.sent duty.asks
    go (Some sense) = some_steps duty.asks
