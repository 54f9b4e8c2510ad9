-- What the commands that are served begin with: the blocks that each works on, and its plan.
use Rattle.std.proofs.Common.{◌≡◌, ◌≢◌, ℕ, ◌+◌, ◌≤◌, Bool, true, false, not, cond, eqb, leb, List, [], ◌∷◌, Option, Some, None, refl, sym, ap, ◌∙◌, subst, arith}
use Rattle.std.specs.Prelude.{◌^◌, ◌&&◌, ◌||◌, unwrap_or, Result, Ok, Err}
use Rattle.std.proofs.lemmas.Bool.{eqb-false, leb-true, le-leb, and_parts}
use Rattle.disk_base.specs.declared.command.DataOut.{DataOut}
use Rattle.disk_base.specs.declared.command.DataOut.TheVariants.{Nothing}
use Rattle.sense_data.specs.declared.sense.Sense.{Sense}
use Rattle.mode_pages.specs.declared.settings.Settings.{Settings}
use Rattle.read_recovery.specs.Stages as progress
use Rattle.cdb_reader.specs.declared.command.Command.{Command}
use Rattle.cdb_reader.specs.declared.plan.Plan.{Plan}
use Rattle.cdb_reader.specs.declared.plan.Plan.TheVariants.{Ending, Changing, Syncing, Over}
use Rattle.cdb_reader.specs.Plan.{unless_empty, reading_from, writing_from}
use Rattle.cdb_reader.specs.Read.{in_range, has_data}
use Rattle.cdb_reader.specs.Replies.{good}
use Rattle.cdb_reader.specs.Request.{Request, Read, Write, WriteAndVerify, Verify, SynchronizeCache, request_of}
use Rattle.cdb_reader.specs.Request as request
use Rattle.command_engine.specs.declared.step.Step.TheVariants.{Trying}
use Rattle.command_engine.specs.Course.{Course, course_of, gives_data, plan_without_blocks}
use Rattle.command_engine.specs.Need.{end_of}
use Rattle.block_machine.specs.declared.entry.Entry.{Entry}
use Rattle.block_machine.specs.declared.entry.Entry.TheVariants.{Started}
use Rattle.block_machine.specs.declared.turn.Label.TheVariants.{Work}
use Rattle.block_machine.specs.Plans.{answering, answering_sensed, changing, plan_asked}
use Rattle.block_machine.specs.Settings.{same_settings, settings_made}
use Rattle.block_machine.specs.State.{State, initiator_of}
use Rattle.block_machine.specs.Turns.{owes_nothing_now}
use Rattle.block_machine.proofs.Booleans.{and_both}
use Rattle.drive_core.specs.declared.server.Server.{Server}
use Rattle.drive_scene.specs.declared.answer.Ended as told_end
use Rattle.drive_core.specs.declared.starting.First.{First}
use Rattle.drive_core.specs.declared.starting.First.TheVariants as first_variant
use Rattle.drive_scene.specs.Scene.{Scene, capacity}
use Rattle.drive_core.specs.Accepting.{under_way, Replaces}
use Rattle.drive_scene.specs.View.{View}
use Rattle.drive_core.specs.Commands.{IsAtBlock, IsOwnRange, IsOwnRecovery}
use Rattle.drive_scene.specs.Holds.{held_by_plan}
use Rattle.drive_scene.specs.Laws.{StillTurnsAreGood}
use Rattle.drive_core.specs.Moves.{Moves, MayWork}
use Rattle.drive_core.specs.Served.{is_served, is_served_plan}
use Rattle.drive_core.specs.Starting.{IsFirst}
use Rattle.task_set.specs.Members.{with_started}
use Rattle.drive_scene.proofs.FirstPlans.{plan_of_request, tells}
use Rattle.drive_core.proofs.AtBlock.{first_read}
use Rattle.drive_core.proofs.StartTurns.{MayStart, may_start, IsStartOf, BeginsWork, IsWork, begins_with_work, no_ending, plan_of_start, not_empty, few_blocks, starts_working}

-- a request that works on blocks which it names by a range
pub data IsOnBlocks : Request → Type 0 where
  reads : (from count : ℕ) (fua : Bool) → IsOnBlocks (Read from count fua)
  writes : (from count : ℕ) (fua : Bool) → IsOnBlocks (Write from count fua)
  writes_verified : (from count : ℕ) → IsOnBlocks (WriteAndVerify from count)
  verifies : (from count : ℕ) → IsOnBlocks (Verify from count)
  syncs : (from count : ℕ) → IsOnBlocks (SynchronizeCache from count)

-- what is served and has work is such a request
no_answer : (allocation : ℕ) (o : Option (List ℕ)) → IsWork (answering allocation o) → ⊥
no_answer allocation None work = work
no_answer allocation (Some bytes) work = work

no_answer_sensed : (r : Result (List ℕ) Sense) → IsWork (answering_sensed r) → ⊥
no_answer_sensed (Ok bytes) work = work
no_answer_sensed (Err sense) work = work

no_change : (settings : Settings) (made : Result Settings Sense) → IsWork (changing settings made) → ⊥
no_change settings (Ok made) work = by (same_settings settings made) work
  where
    by : (b : Bool) → IsWork (cond b (Ending good) Changing) → ⊥
    by true never = never
    by false never = never
no_change settings (Err sense) work = work

on_blocks : (blocks i : ℕ) (h : State) (sent : DataOut) (r : Request) → is_served (Ok r) ≡ true → IsWork (plan_asked blocks h i sent r) → IsOnBlocks r
on_blocks blocks i h sent (Read from count fua) served work = reads from count fua
on_blocks blocks i h sent (Write from count fua) served work = writes from count fua
on_blocks blocks i h sent (WriteAndVerify from count) served work = writes_verified from count
on_blocks blocks i h sent (Verify from count) served work = verifies from count
on_blocks blocks i h sent (SynchronizeCache from count) served work = syncs from count
on_blocks blocks i h sent (request.ReassignBlocks list) served work = absurd (cc)
on_blocks blocks i h sent (request.ModeSelect ten count) served work = absurd (no_change h.settings (settings_made blocks h.settings ten count sent) work)
on_blocks blocks i h sent request.TestUnitReady served work = absurd work
on_blocks blocks i h sent (request.RequestSense allocation) served work = absurd work
on_blocks blocks i h sent (request.Inquiry evpd page allocation) served work = absurd (no_answer allocation _ work)
on_blocks blocks i h sent (request.ModeSense ten dbd control page subpage allocation) served work = absurd (no_answer_sensed _ work)
on_blocks blocks i h sent request.ReadCapacity10 served work = absurd work
on_blocks blocks i h sent (request.ReadDefectData primary grown format allocation) served work = absurd work
on_blocks blocks i h sent (request.LogSense page subpage pointer allocation) served work = absurd (no_answer allocation _ work)
on_blocks blocks i h sent (request.ReadCapacity16 allocation) served work = absurd work
on_blocks blocks i h sent (request.ReportLuns select allocation) served work = absurd (no_answer allocation _ work)

-- how many blocks it names
abbrev count_of : Request → ℕ
count_of (Read from count fua) = count
count_of (Write from count fua) = count
count_of (WriteAndVerify from count) = count
count_of (Verify from count) = count
count_of (SynchronizeCache from count) = count
count_of other = 0

-- its plan, by its data and the mode values, where it names a block
abbrev work_plan : Request → DataOut → Settings → Plan
work_plan (Read from count fua) sent x = reading_from from (from + count) fua x.per
work_plan (Write from count fua) sent x = writing_from from count sent (not x.wce || fua) false x.per
work_plan (WriteAndVerify from count) sent x = writing_from from count sent true true x.per
work_plan (Verify from count) sent x = reading_from from (from + count) true x.per
work_plan (SynchronizeCache from count) sent x = Syncing (record { at = from; end = from + count })
work_plan other sent x = Over

-- by what it asks for
asked_of : (blocks i : ℕ) (h : State) (sent : DataOut) (r : Request) → IsOnBlocks r
    → plan_asked blocks h i sent r ≡ unwrap_or (unless_empty (count_of r) (work_plan r sent h.settings)) Over
asked_of blocks i h sent r (reads from count fua) = refl
asked_of blocks i h sent r (writes from count fua) = refl
asked_of blocks i h sent r (writes_verified from count) = refl
asked_of blocks i h sent r (verifies from count) = refl
asked_of blocks i h sent r (syncs from count) = refl

settled : (r : Request) (sent : DataOut) (x : Settings) → IsOnBlocks r → owes_nothing_now (Some (work_plan r sent x)) ≡ true
settled r sent x (reads from count fua) = refl
settled r sent x (writes from count fua) = refl
settled r sent x (writes_verified from count) = refl
settled r sent x (verifies from count) = refl
settled r sent x (syncs from count) = refl

unheld : (r : Request) (sent : DataOut) (x : Settings) → IsOnBlocks r → held_by_plan [] (work_plan r sent x) ≡ None
unheld r sent x (reads from count fua) = refl
unheld r sent x (writes from count fua) = refl
unheld r sent x (writes_verified from count) = refl
unheld r sent x (verifies from count) = refl
unheld r sent x (syncs from count) = refl

plan_served : (r : Request) (sent : DataOut) (x : Settings) → IsOnBlocks r → is_served_plan (work_plan r sent x) ≡ true
plan_served r sent x (reads from count fua) = refl
plan_served r sent x (writes from count fua) = refl
plan_served r sent x (writes_verified from count) = refl
plan_served r sent x (verifies from count) = refl
plan_served r sent x (syncs from count) = refl

at_first : (r : Request) (sent : DataOut) (x : Settings) → IsOnBlocks r → eqb (count_of r) 0 ≡ false → (v : View) → v.window ≡ [] → v.settings ≡ x
    → v.holds_dirty ≡ false → IsAtBlock v (work_plan r sent x) (Trying (progress.begun x.retry))
at_first r sent x (reads from count fua) some v window same clean =
    let least : count ≢ 0 = eqb-false count 0 some in
    first_read v (record { at = from; end = from + count; through = fua; reports = x.per; hardened = false }) x (omega arith) window same clean
at_first r sent x (writes from count fua) some v window same clean = let least : count ≢ 0 = eqb-false count 0 some in (window, omega arith, refl)
at_first r sent x (writes_verified from count) some v window same clean = let least : count ≢ 0 = eqb-false count 0 some in (window, omega arith, refl)
at_first r sent x (verifies from count) some v window same clean =
    let least : count ≢ 0 = eqb-false count 0 some in
    first_read v (record { at = from; end = from + count; through = true; reports = x.per; hardened = false }) x (omega arith) window same clean
at_first r sent x (syncs from count) some v window same clean = let least : count ≢ 0 = eqb-false count 0 some in (window, omega arith)

-- it ends within the drive
within : (from count blocks : ℕ) → (leb (from + count) blocks && leb count 256) ≡ true → from + count ≤ blocks
within from count blocks range = leb-true (from + count) blocks (and_parts (leb (from + count) blocks) (leb count 256) range).0

ends_within : (r : Request) (sent : DataOut) (x : Settings) (blocks : ℕ) → IsOnBlocks r → in_range r blocks ≡ true → end_of (work_plan r sent x) ≤ blocks
ends_within r sent x blocks (reads from count fua) range = within from count blocks range
ends_within r sent x blocks (writes from count fua) range = within from count blocks range
ends_within r sent x blocks (writes_verified from count) range = within from count blocks range
ends_within r sent x blocks (verifies from count) range = within from count blocks range
ends_within r sent x blocks (syncs from count) range = leb-true (from + count) blocks range

more : (from count low high : ℕ) → low ≤ high → (leb (from + count) low && leb count 256) ≡ true → (leb (from + count) high && leb count 256) ≡ true
more from count low high up range =
    let parts = and_parts (leb (from + count) low) (leb count 256) range in
    let below : from + count ≤ low = leb-true (from + count) low parts.0 in
    and_both (leb (from + count) high) (leb count 256) (le-leb (from + count) high (omega arith)) parts.1

-- and so within a greater one
range_up : (r : Request) (low high : ℕ) → IsOnBlocks r → low ≤ high → in_range r low ≡ true → in_range r high ≡ true
range_up r low high (reads from count fua) up range = more from count low high up range
range_up r low high (writes from count fua) up range = more from count low high up range
range_up r low high (writes_verified from count) up range = more from count low high up range
range_up r low high (verifies from count) up range = more from count low high up range
range_up r low high (syncs from count) up range =
    let below : from + count ≤ low = leb-true (from + count) low range in le-leb (from + count) high (omega arith)

-- the blocks that it gets are its own
own_range : (asks : Result Request Sense) (r : Request) (sent : DataOut) (x : Settings) → IsOnBlocks r → asks ≡ Ok r → IsOwnRange asks (work_plan r sent x)
own_range asks r sent x (reads from count fua) asks_is = λ recovery low high.
    subst (λ (y : Result Request Sense). IsOwnRecovery y (Some recovery)) (sym asks_is) (tells recovery.stage.how recovery.stage.offset from (from + count) recovery.b.0 low high)
own_range asks r sent x (writes from count fua) asks_is = λ is. let never : false ≡ true = is in absurd (cc)
own_range asks r sent x (writes_verified from count) asks_is = λ is recovery low high.
    subst (λ (y : Result Request Sense). IsOwnRecovery y (Some recovery)) (sym asks_is) (tells recovery.stage.how recovery.stage.offset from (from + count) recovery.b.0 low high)
own_range asks r sent x (verifies from count) asks_is = λ recovery low high.
    subst (λ (y : Result Request Sense). IsOwnRecovery y (Some recovery)) (sym asks_is) (tells recovery.stage.how recovery.stage.offset from (from + count) recovery.b.0 low high)
own_range asks r sent x (syncs from count) asks_is = tt

-- a command that begins to work on blocks
pub record BeginsOn (s : Scene) (d : Server) (c : ℕ) (r : Request) : Type 0 where
  pub may : MayStart s d c
  pub on : IsOnBlocks r
  pub asks : (s.hist.duties c).asks ≡ Ok r
  pub plan_is : plan_of_start s c ≡ work_plan r (s.hist.duties c).sent s.hist.settings
  pub some : eqb (count_of r) 0 ≡ false
  pub range : in_range r (capacity s) ≡ true
  pub with_data : has_data r (s.hist.duties c).sent ≡ true

pub begins_on : (s : Scene) (d : Server) (c : ℕ) (command : Command) (first : First) → MayWork s d c → under_way d.commands.items c ≡ None → IsFirst s c first
    → first ≡ first_variant.Work command → BeginsOn s d c (request_of command)
begins_on s d c command first work none is first_is =
    let may : MayStart s d c = may_start s d c work none in
    let begins : BeginsWork (capacity s) (plan_of_start s c) (s.hist.duties c).asks (s.hist.duties c).sent (request_of command) =
    begins_with_work s.map (capacity s) s.hist.settings (plan_of_start s c) (s.hist.duties c).asks (s.hist.duties c).sent command (subst (IsFirst s c) first_is is) in
    let asked : plan_of_start s c ≡ plan_asked (capacity s) s.hist (initiator_of s.hist c) (s.hist.duties c).sent (request_of command) =
    plan_of_request (capacity s) (initiator_of s.hist c) s.hist (s.hist.duties c) (request_of command) work.fits.known.readable begins.is_for.asked
    (no_ending (plan_of_start s c) begins.work) in
    let on : IsOnBlocks (request_of command) =
    on_blocks (capacity s) (initiator_of s.hist c) s.hist (s.hist.duties c).sent (request_of command) (sym (ap is_served begins.is_for.asked) ∙ may.waiting.served)
    (subst IsWork asked begins.work) in
    let by_rule : plan_of_start s c ≡ unwrap_or (unless_empty (count_of (request_of command)) (work_plan (request_of command) (s.hist.duties c).sent s.hist.settings)) Over =
    asked ∙ asked_of (capacity s) (initiator_of s.hist c) s.hist (s.hist.duties c).sent (request_of command) on in
    let some : eqb (count_of (request_of command)) 0 ≡ false =
    not_empty (count_of (request_of command)) (plan_of_start s c) (work_plan (request_of command) (s.hist.duties c).sent s.hist.settings) by_rule begins.work in
    record {
      may = may;
      on = on;
      asks = begins.is_for.asked;
      plan_is = by_rule ∙ ap (λ (b : Bool). unwrap_or (cond b (Some (Ending good)) (Some (work_plan (request_of command) (s.hist.duties c).sent s.hist.settings))) Over) some;
      some = some;
      range = begins.is_for.range;
      with_data = begins.is_for.data_sent;
    }

pub range_on : (s : Scene) (d : Server) (c : ℕ) (r : Request) → BeginsOn s d c r → in_range r (2 ^ 32) ≡ true
range_on s d c r is = let few : capacity s ≤ 4096 = few_blocks s in range_up r (capacity s) (2 ^ 32) is.on (omega arith) is.range

-- the data that came with it
pub sent_on : (s : Scene) (d : Server) (c : ℕ) (r : Request) (sent : DataOut) → (is : BeginsOn s d c r) → sent ≡ is.may.a.sent → sent ≡ (s.hist.duties c).sent
sent_on s d c r sent is out = out ∙ sym is.may.waiting.sent

-- where it stands then
first_by_engine : (r : Request) (sent : DataOut) (x : Settings) → IsOnBlocks r
    → course_of r sent x ≡ record {
      settings = x;
      gives = gives_data r;
      moved = 0;
      plan = unwrap_or (unless_empty (count_of r) (work_plan r sent x)) (plan_without_blocks r);
      step = Trying (progress.begun x.retry);
      recovered = None;
    }
first_by_engine r sent x (reads from count fua) = refl
first_by_engine r sent x (writes from count fua) = refl
first_by_engine r sent x (writes_verified from count) = refl
first_by_engine r sent x (verifies from count) = refl
first_by_engine r sent x (syncs from count) = refl

course_on : (s : Scene) (d : Server) (c : ℕ) (r : Request) (sent : DataOut) (settings : Settings) (w : Course) → BeginsOn s d c r → settings ≡ s.hist.settings
    → sent ≡ (s.hist.duties c).sent → w ≡ course_of r sent settings
    → w ≡ record {
      settings = s.hist.settings;
      gives = gives_data r;
      moved = 0;
      plan = work_plan r (s.hist.duties c).sent s.hist.settings;
      step = Trying (progress.begun s.hist.settings.retry);
      recovered = None;
    }
course_on s d c r sent settings w is settings_is sent_is w_is =
    w_is ∙ ((λ i. course_of r (sent_is i) (settings_is i)) ∙ (first_by_engine r (s.hist.duties c).sent s.hist.settings is.on
    ∙ ap (λ (b : Bool). record {
      settings = s.hist.settings;
      gives = gives_data r;
      moved = 0;
      plan = unwrap_or (cond b (Some (Ending good)) (Some (work_plan r (s.hist.duties c).sent s.hist.settings))) (plan_without_blocks r);
      step = Trying (progress.begun s.hist.settings.retry);
      recovered = None;
    }) is.some))

-- its first turn
pub starts_on : (s : Scene) (d e : Server) (c : ℕ) (r : Request) (sent : DataOut) (settings : Settings) (w : Course) (entries : List Entry) (told : Option told_end.Ended)
    → (on : BeginsOn s d c r) → (is : IsStartOf s d e c) → StillTurnsAreGood → settings ≡ s.hist.settings → sent ≡ (s.hist.duties c).sent → w ≡ course_of r sent settings
    → e.set ≡ with_started d.set c → Replaces d.commands.items e.commands.items c (record is.may.a { sent = Nothing; work = Some w })
    → entries ≡ Started c ∷ [] → told ≡ None → Moves (Work c) s d e entries told
starts_on s d e c r sent settings w entries told on is still settings_is sent_is w_is =
    starts_working s d e c is still w entries told (gives_data r) (work_plan r (s.hist.duties c).sent s.hist.settings) on.plan_is
    (settled r (s.hist.duties c).sent s.hist.settings on.on) (at_first r (s.hist.duties c).sent s.hist.settings on.on on.some)
    (unheld r (s.hist.duties c).sent s.hist.settings on.on) (ends_within r (s.hist.duties c).sent s.hist.settings (capacity s) on.on on.range)
    (own_range (s.hist.duties c).asks r (s.hist.duties c).sent s.hist.settings on.on on.asks) (plan_served r (s.hist.duties c).sent s.hist.settings on.on)
    (course_on s d c r sent settings w on settings_is sent_is w_is)
