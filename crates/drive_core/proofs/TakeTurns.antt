-- A turn of work on a command that needs a block's value.
use Rattle.std.proofs.Common.{◌≡◌, ℕ, ◌<◌, Bool, true, false, cond, eqb, ltb, List, [], ◌∷◌, ◌++◌, length, Option, Some, None, refl, sym, ap, ◌∙◌, subst, ⊎_elim, arith}
use Rattle.std.specs.Option.{option_and_then, option_map, option_map_or, is_some}
use Rattle.std.specs.Prelude.{◌^◌, ◌&&◌, ◌||◌, not, slice_get, pos}
use Rattle.std.proofs.lemmas.Bool.{ltb-true, lt-ltb, eqb-true, cases_Bool, true≢false}
use Rattle.disk_base.specs.declared.block.Value.TheVariants.{Data}
use Rattle.disk_base.specs.declared.stage.How.TheVariants.{Light}
use Rattle.read_recovery.proofs.Table.{plain_stage}
use Rattle.block_machine.specs.Blocks.{is_dirty}
use Rattle.block_machine.specs.declared.entry.Entry.TheVariants.{Ended}
use Rattle.task_set.specs.Members.{without, member_of, first_forbidding}
use Rattle.sector_store.specs.Maps.{MayBeRecovered}
use Rattle.sector_store.specs.Stored.{KeepsBlocks}
use Rattle.sector_store.specs.State.{Contained, IsStore}
use Rattle.geometry_map.specs.Laws.{BlocksHaveOwnSectors}
use Rattle.drive_scene.specs.Ending.{ended_of_member}
use Rattle.drive_core.proofs.Taken.{ReadLaws}
use Rattle.drive_core.proofs.AtBlock.{at_block}
use Rattle.drive_core.proofs.Windows.{empty_tried}
use Rattle.drive_scene.proofs.Gets.{newest_undirty}
use Rattle.drive_scene.proofs.Tries.{next_stage-at}
use Rattle.disk_base.specs.declared.address.Lba.{Lba}
use Rattle.disk_base.specs.declared.stage.Stage.{Stage}
use Rattle.sense_data.specs.declared.reply.Reply.{Reply}
use Rattle.task_set.specs.declared.member.Member.{Member}
use Rattle.read_recovery.specs.Stages.{Progress, next_stage, stages_of}
use Rattle.write_cache.specs.Contents.{IsCache, newest}
use Rattle.write_cache.specs.Laws.{KeepsOthers}
use Rattle.cdb_reader.specs.declared.plan.Reading as reading
use Rattle.cdb_reader.specs.declared.plan.Plan.{Plan}
use Rattle.cdb_reader.specs.declared.plan.Plan.TheVariants.{Ending, Unread, Answering, Changing, Reading, Writing, Syncing, Moving, Over}
use Rattle.command_engine.specs.declared.answer.Answer.{Answer}
use Rattle.command_engine.specs.declared.need.Need.{Need}
use Rattle.command_engine.specs.declared.need.Need.TheVariants as need
use Rattle.command_engine.specs.declared.step.Step.{Step}
use Rattle.command_engine.specs.declared.step.Step.TheVariants.{Trying, Hardening}
use Rattle.command_engine.specs.Course.{Course}
use Rattle.command_engine.specs.Need.{need_by, need_at_read, taking}
use Rattle.command_engine.specs.Ending.{ending_of}
use Rattle.command_engine.specs.Standing.{IsCourse}
use Rattle.command_engine.specs.Answers.{after}
use Rattle.block_machine.specs.declared.entry.Entry.{Entry}
use Rattle.block_machine.specs.declared.turn.Label.TheVariants.{Work}
use Rattle.block_machine.specs.State.{owed_by}
use Rattle.drive_core.specs.declared.accepted.Accepted.{Accepted}
use Rattle.drive_core.specs.declared.accepted.Errand.{Errand}
use Rattle.drive_core.specs.declared.server.Server.{Server}
use Rattle.drive_scene.specs.declared.answer.Ended as told_end
use Rattle.drive_core.specs.declared.taking.Sought.{Sought}
use Rattle.drive_scene.specs.Scene.{Scene}
use Rattle.drive_scene.specs.declared.answer.TurnAnswer.TheVariants as answer
use Rattle.drive_scene.specs.declared.event.Holder.{Holder}
use Rattle.drive_scene.specs.Holds.{holder_besides, held_by_plan, held_block, needed_by_plan, needed_block}
use Rattle.drive_scene.specs.Able.{refusal_of_work, held_by_other, kept_waiting, work_refused}
use Rattle.drive_core.proofs.Flightless.{unheld_by_other}
use Rattle.drive_core.specs.Accepting.{accepted_of, under_way, errand_of, Replaces}
use Rattle.drive_scene.specs.Evidence.{lba}
use Rattle.drive_scene.specs.View.{View, view}
use Rattle.drive_core.specs.Commands.{IsStaged, IsCommand, IsUnderWay, IsWorking, IsAtBlock, IsTrying}
use Rattle.drive_scene.specs.Present.{IsPresentMap}
use Rattle.drive_core.specs.Fits.{Fits}
use Rattle.drive_core.specs.Moves.{Moves, MayWork, Leaves}
use Rattle.sector_store.specs.Caching.{may_be_dirty}
use Rattle.drive_core.specs.Taking.{IsTaken, search_for, value_got, got_entries, errand_for}
use Rattle.drive_core.proofs.Closing.{Goes, Stops, present_after}
use Rattle.drive_core.proofs.Found.{OwnPlaces, whatever, sought}
use Rattle.drive_core.proofs.ReadTurns.{course}
use Rattle.drive_core.specs.Served.{is_served_plan}

-- a read that needs the value of a block
pub record NeedsValue (plan : Plan) (step : Step) (b : Lba) (medium : Bool) (stage : Stage) : Type 0 where
  pub r : reading.Reading
  pub p : Progress
  pub plan_is : plan ≡ Reading r
  pub step_is : step ≡ Trying p
  pub b_is : b ≡ lba r.at
  pub medium_is : medium ≡ r.through
  pub next_is : next_stage p ≡ Some stage
  pub left : r.at < r.end

by_progress : (r : reading.Reading) (p : Progress) (o : Option Stage) (b : Lba) (medium : Bool) (stage : Stage) → next_stage p ≡ o → r.at < r.end
    → taking r o ≡ need.Take b medium stage → NeedsValue (Reading r) (Trying p) b medium stage
by_progress r p None b medium stage next_is left is = absurd (cc)
by_progress r p (Some x) b medium stage next_is left is = record {
  r = r;
  p = p;
  plan_is = refl;
  step_is = refl;
  b_is = cc;
  medium_is = cc;
  next_is = let same : x ≡ stage = cc in next_is ∙ ap Some same;
  left = left;
}

by_step : (r : reading.Reading) (step : Step) (b : Lba) (medium : Bool) (stage : Stage) (is_left : Bool) → ltb r.at r.end ≡ is_left
    → cond is_left (need_at_read r step) need.Nothing ≡ need.Take b medium stage → NeedsValue (Reading r) step b medium stage
by_step r step b medium stage false left is = absurd (cc)
by_step r (Trying p) b medium stage true left is = by_progress r p (next_stage p) b medium stage refl (ltb-true r.at r.end left) is
by_step r Hardening b medium stage true left is = absurd (cc)
by_step r other b medium stage true left is = absurd (cc)

no_write : (o t : Bool) (a b : Lba) (medium : Bool) (stage : Stage) → cond o (cond t (need.PutThrough a) (need.Put a)) need.Nothing ≡ need.Take b medium stage → ⊥
no_write true true a b medium stage is = cc
no_write true false a b medium stage is = cc
no_write false t a b medium stage is = cc

-- a need is none of a value
abbrev IsOther : Need → Type 0
IsOther (need.Take b medium stage) = ⊥
IsOther other = Unit {0}

no_other : (o : Bool) (x : Need) (b : Lba) (medium : Bool) (stage : Stage) → cond o x need.Nothing ≡ need.Take b medium stage → IsOther x → ⊥
no_other true x b medium stage is other = subst IsOther is other
no_other false x b medium stage is other = cc

pub needs_value : (plan : Plan) (moved : ℕ) (step : Step) (b : Lba) (medium : Bool) (stage : Stage) → is_served_plan plan ≡ true → need_by plan moved step ≡ need.Take b medium stage
    → NeedsValue plan step b medium stage
needs_value (Reading r) moved step b medium stage served is = by_step r step b medium stage (ltb r.at r.end) refl is
needs_value (Ending reply) moved step b medium stage served is = absurd (cc)
needs_value (Unread at) moved step b medium stage served is = absurd (cc)
needs_value (Answering bytes reply) moved step b medium stage served is = absurd (cc)
needs_value Changing moved step b medium stage served is = absurd (cc)
needs_value (Writing w) moved (Trying p) b medium stage served is = absurd (no_write (ltb w.at w.end) w.through (lba w.at) b medium stage is)
needs_value (Writing w) moved Hardening b medium stage served is = absurd (no_other (ltb w.at w.end) need.Nothing b medium stage is tt)
needs_value (Writing w) moved other b medium stage served is = absurd (no_other (ltb w.at w.end) need.Nothing b medium stage is tt)
needs_value (Syncing y) moved (Trying p) b medium stage served is = absurd (no_other (ltb y.at y.end) (need.Pass (lba y.at) (lba y.end)) b medium stage is tt)
needs_value (Syncing y) moved Hardening b medium stage served is = absurd (no_other (ltb y.at y.end) (need.Harden (lba y.at)) b medium stage is tt)
needs_value (Syncing y) moved other b medium stage served is = absurd (no_other (ltb y.at y.end) need.Nothing b medium stage is tt)
needs_value (Moving x) moved step b medium stage served is = absurd (cc)
needs_value Over moved step b medium stage served is = absurd (cc)

-- the parts of what a map over an option gives
pub record GivenBy {X Y : Type 0} (f : X → Y) (o : Option X) (y : Y) : Type 0 where
  pub x : X
  pub is : o ≡ Some x
  pub gives : f x ≡ y

pub given_by : {X Y : Type 0} (f : X → Y) (o : Option X) (y : Y) → option_map f o ≡ Some y → GivenBy f o y
given_by f None y is = absurd (cc)
given_by f (Some x) y is = record { x = x; is = refl; gives = cc }

-- the command that is under way
pub record WorksAt (o : Option Accepted) (w : Course) : Type 0 where
  pub a : Accepted
  pub is : o ≡ Some a
  pub works : a.work ≡ Some w

pub works_at : (o : Option Accepted) (w : Course) → option_and_then (λ (a : Accepted). a.work) o ≡ Some w → WorksAt o w
works_at None w is = absurd (cc)
works_at (Some a) w is = record { a = a; is = refl; works = is }

-- where it stands in the scene
pub record StandsAt (s : Scene) (c : ℕ) (w : Course) : Type 0 where
  pub m : Member
  pub is_in : member_of s.hist.set c ≡ Some m
  pub working : IsWorking (view s c) m w

pub stands_at : (s : Scene) (c : ℕ) (o : Option Accepted) (a : Accepted) (w : Course) → o ≡ Some a → a.work ≡ Some w → IsStaged (view s c) o → StandsAt s c w
stands_at s c o a w is works staged =
    let command : IsCommand (view s c) a = subst (λ (x : Option Accepted). IsStaged (view s c) x) is staged in
    record {
      m = command.member;
      is_in = command.is_in;
      working = subst (λ (x : Option Course). IsUnderWay (view s c) command.member a x) works command.under_way;
    }

-- where a command that is under way stands
pub stands_in : (s : Scene) (d : Server) (c : ℕ) (w : Course) → Fits s d → under_way d.commands.items c ≡ Some w → StandsAt s c w
stands_in s d c w fits is =
    let at : WorksAt (accepted_of d.commands.items c) w = works_at (accepted_of d.commands.items c) w is in
    stands_at s c (accepted_of d.commands.items c) at.a w at.is at.works (fits.staged c)

-- nobody else holds the block of a turn that isn't refused
not_held : (s : Scene) (b : ℕ) (o : Option Holder) → option_map (λ other. answer.Held (lba b) other) o ≡ None → o ≡ None
not_held s b None none = refl
not_held s b (Some x) none = absurd (cc)

pub free_block : (s : Scene) (c : ℕ) (m : Member) (n : ℕ) → member_of s.hist.set c ≡ Some m → m.started ≡ true → needed_block s c ≡ Some n
    → refusal_of_work s 0 c ≡ None → holder_besides s (Work c) n ≡ None
free_block s c m n is_in started needs free =
    let refused : work_refused s c m ≡ None = sym (ap (λ (o : Option Member). option_map_or (work_refused s c) o (Some (answer.Idle 0))) is_in) ∙ free in
    let kept : option_and_then (held_by_other s c) (needed_block s c) ≡ None =
    unheld_by_other s c (sym (ap (λ (b : Bool). cond b (kept_waiting s c) (option_map answer.Dormant (first_forbidding s.hist.set m.task))) started) ∙ refused) in
    let here : held_by_other s c n ≡ None = sym (ap (option_and_then (held_by_other s c)) needs) ∙ kept in
    not_held s n (holder_besides s (Work c) n) here

-- the plan that a command of the set owes
pub owed_at : (s : Scene) (c : ℕ) (w : Course) → (at : StandsAt s c w) → owed_by s.hist c ≡ Some w.plan
owed_at s c w at =
    ap (λ (o : Option Member). option_and_then (λ (x : Member). (s.hist.duties c).owes) o) at.is_in ∙ at.working.owes

-- a turn of taking a block's value moves the drive
pub takes : (s : Scene) (d e : Server) (c : ℕ) (q : Sought) (answer : Answer) (reply : Option Reply) (entries : List Entry) (told : Option told_end.Ended)
    → MayWork s d c → option_map errand_of (under_way d.commands.items c) ≡ Some (errand_for q) → IsTaken d.store q answer e.store
    → IsPresentMap e.store.map e.store.platter.ops → IsCache d.store.cache → OwnPlaces s.map → KeepsOthers → ReadLaws
    → ((w : Course) → under_way d.commands.items c ≡ Some w → IsCourse (after w answer))
    → ((w : Course) → under_way d.commands.items c ≡ Some w → reply ≡ ending_of (after w answer))
    → ((a : Accepted) (w : Course) → accepted_of d.commands.items c ≡ Some a → a.work ≡ Some w → reply ≡ None
    → Goes d e c (record a { work = Some (after w answer) }) (got_entries c q.b (value_got answer false)) entries told)
    → ((x : Reply) → reply ≡ Some x → Stops d e c x (got_entries c q.b (value_got answer true)) entries told)
    → Moves (Work c) s d e entries told
takes s d e c q answer reply entries told may errand is present once own keeps laws course_is reply_is goes stops =
    let given : GivenBy errand_of (under_way d.commands.items c) (errand_for q) = given_by errand_of (under_way d.commands.items c) (errand_for q) errand in
    let w : Course = given.x in
    let at : WorksAt (accepted_of d.commands.items c) given.x = works_at (accepted_of d.commands.items c) given.x given.is in
    let stands : StandsAt s c given.x = stands_in s d c given.x may.fits given.is in
    let value : NeedsValue w.plan w.step q.b q.medium q.stage = needs_value w.plan w.moved w.step q.b q.medium q.stage stands.working.served (ap (λ (x : Errand). x.need) given.gives) in
    let settings : w.settings ≡ q.settings = ap (λ (x : Errand). x.settings) given.gives in
    let gives : q.gives ≡ w.gives = sym (ap (λ (x : Errand). x.gives) given.gives) in
    let w_is : w ≡ course s c stands.m q.settings w.gives w.moved value.r value.p w.recovered q.stage =
    λ i. record { settings = settings i; gives = w.gives; moved = w.moved; plan = value.plan_is i; step = value.step_is i; recovered = w.recovered } in
    let q_is : q ≡ sought s c stands.m at.a q.settings w.gives w.moved value.r value.p w.recovered q.stage =
    λ i. record { b = value.b_is i; medium = value.medium_is i; stage = q.stage; settings = q.settings; gives = gives i } in
    let needs : needed_block s c ≡ Some value.r.at =
    ap (option_and_then (needed_by_plan s.hist.blocks)) (owed_at s c w stands ∙ ap Some value.plan_is)
    ∙ ap (λ (b : Bool). cond b (Some value.r.at) None) (lt-ltb value.r.at value.r.end value.left) in
    whatever s c stands.m at.a q.settings w.gives w.moved value.r value.p w.recovered q.stage d e answer entries reply told
    (record {
      fits = may.fits;
      is_in = stands.is_in;
      working = subst (λ (x : Course). IsWorking (view s c) stands.m x) w_is stands.working;
      next_is = value.next_is;
      left = value.left;
      free = free_block s c stands.m value.r.at stands.is_in stands.working.started needs may.free;
      own = own;
      present = present;
      once = once;
      keeps = keeps;
      laws = laws;
      course_is = subst (λ (x : Course). IsCourse (after x answer)) w_is (course_is w given.is);
      reply_is = reply_is w given.is ∙ ap (λ (x : Course). ending_of (after x answer)) w_is;
      goes = λ on. subst (λ (x : Course). Goes d e c (record at.a { work = Some (after x answer) }) (got_entries c (lba value.r.at) (value_got answer false)) entries told) w_is
          (subst (λ (b : Lba). Goes d e c (record at.a { work = Some (after w answer) }) (got_entries c b (value_got answer false)) entries told) value.b_is (goes at.a w at.is at.works on));
      stops = λ x over. subst (λ (b : Lba). Stops d e c x (got_entries c b (value_got answer true)) entries told) value.b_is (stops x over);
    })
    (subst (λ (x : Sought). IsTaken d.store x answer e.store) q_is is)

-- where a turn stands: the command, and the read that it is
pub record IsReadAt (s : Scene) (d : Server) (c : ℕ) (q : Sought) : Type 0 where
  pub w : Course
  pub is : under_way d.commands.items c ≡ Some w
  pub a : Accepted
  pub a_is : accepted_of d.commands.items c ≡ Some a
  pub works : a.work ≡ Some w
  pub stands : StandsAt s c w
  pub value : NeedsValue w.plan w.step q.b q.medium q.stage

pub read_at : (s : Scene) (d : Server) (c : ℕ) (q : Sought) → Fits s d → option_map errand_of (under_way d.commands.items c) ≡ Some (errand_for q) → IsReadAt s d c q
read_at s d c q fits errand =
    let given : GivenBy errand_of (under_way d.commands.items c) (errand_for q) = given_by errand_of (under_way d.commands.items c) (errand_for q) errand in
    let at : WorksAt (accepted_of d.commands.items c) given.x = works_at (accepted_of d.commands.items c) given.x given.is in
    record {
      w = given.x;
      is = given.is;
      a = at.a;
      a_is = at.is;
      works = at.works;
      stands = stands_in s d c given.x fits given.is;
      value = needs_value given.x.plan given.x.moved given.x.step q.b q.medium q.stage (stands_in s d c given.x fits given.is).working.served (ap (λ (x : Errand). x.need) given.gives);
    }

none_of : (o : Option (List ℕ)) → option_map Data o ≡ None → o ≡ None
none_of None is = refl
none_of (Some x) is = absurd (cc)

-- a block that was tried already isn't dirty
tried_clean : (s : Scene) (c : ℕ) (r : reading.Reading) (p : Progress) (stage : Stage) → IsTrying (view s c) r p → owed_by s.hist c ≡ Some (Reading r)
    → next_stage p ≡ Some stage → (not r.through && eqb stage.number 0) ≡ false → r.through ≡ false → is_dirty (s.hist.blocks r.at) ≡ false
tried_clean s c r p stage trying owes next_is later unforced =
    let not_first : eqb stage.number 0 ≡ false = sym (ap (λ (b : Bool). not b && eqb stage.number 0) unforced) ∙ later in
    let at : slice_get (stages_of p.retry) p.failed ≡ Some stage = (next_stage-at p stage next_is).1 in
    let begun_already : eqb p.failed 0 ≡ false = ⊎_elim
    (λ (none : eqb p.failed 0 ≡ true).
    let first : slice_get (stages_of p.retry) 0 ≡ Some stage = subst (λ (n : ℕ). slice_get (stages_of p.retry) n ≡ Some stage) (eqb-true p.failed 0 none) at in
    let plain = plain_stage p.retry 0 (omega arith) in
    let one : stage ≡ record { number = 0; reread = 0; offset = pos 0; how = Light } = cc in
    absurd (true≢false (sym (ap (λ (x : Stage). eqb x.number 0) one) ∙ not_first)))
    (λ (some : eqb p.failed 0 ≡ false). some) (cases_Bool (eqb p.failed 0)) in
    let window : eqb (length (s.windows c)) 0 ≡ false = empty_tried (length (s.windows c)) p.failed trying.tried ∙ begun_already in
    let held : held_block s c ≡ Some r.at =
    ap (option_and_then (held_by_plan (s.windows c))) owes
    ∙ ap (λ (b : Bool). cond (not b || r.hardened) (Some r.at) None) window in
    sym (ap (λ (o : Option ℕ). option_map_or (λ b. is_dirty (s.hist.blocks b)) o false) held) ∙ trying.clean

-- and so nothing newer of it is in the cache
undirty_cached : (s : Scene) (d : Server) (c : ℕ) (q : Sought) → MayWork s d c → option_map errand_of (under_way d.commands.items c) ≡ Some (errand_for q)
    → q.medium ≡ false → may_be_dirty (search_for q) ≡ false → newest q.b d.store.cache ≡ None
undirty_cached s d c q may errand cached later =
    let at : IsReadAt s d c q = read_at s d c q may.fits errand in
    let value : NeedsValue at.w.plan at.w.step q.b q.medium q.stage = at.value in
    let trying : IsTrying (view s c) value.r value.p =
    subst (λ (x : Step). IsAtBlock (view s c) (Reading value.r) x) value.step_is
    (subst (λ (x : Plan). IsAtBlock (view s c) x at.w.step) value.plan_is at.stands.working.at_block) in
    let owes : owed_by s.hist c ≡ Some (Reading value.r) = owed_at s c at.w at.stands ∙ ap Some value.plan_is in
    let later_so : (not value.r.through && eqb q.stage.number 0) ≡ false = sym (ap (λ (b : Bool). not b && eqb q.stage.number 0) value.medium_is) ∙ later in
    let clean : is_dirty (s.hist.blocks value.r.at) ≡ false = tried_clean s c value.r value.p q.stage trying owes value.next_is later_so (sym value.medium_is ∙ cached) in
    let none : option_map Data (newest (lba value.r.at) d.store.cache) ≡ None =
    sym (may.fits.cached.dirty (lba value.r.at)) ∙ newest_undirty (s.hist.blocks value.r.at) clean in
    subst (λ (b : Lba). newest b d.store.cache ≡ None) (sym value.b_is) (none_of (newest (lba value.r.at) d.store.cache) none)

-- nor is it where the value comes from the medium, or was tried already
pub undirty : (s : Scene) (d : Server) (c : ℕ) (q : Sought) → MayWork s d c → option_map errand_of (under_way d.commands.items c) ≡ Some (errand_for q)
    → (q.medium ≡ true → newest q.b d.store.cache ≡ None) → may_be_dirty (search_for q) ≡ false → newest q.b d.store.cache ≡ None
undirty s d c q may errand clean later = ⊎_elim (λ medium. clean medium) (λ cached. undirty_cached s d c q may errand cached later) (cases_Bool q.medium)

-- a turn of taking a block's value, as it is made: sought, answered, noted, and concluded
pub record IsConcluded (mid e : Server) (c : ℕ) (reply : Option Reply) (noted entries : List Entry) (told : Option told_end.Ended) : Type 0 where
  pub goes : reply ≡ None → (e ≡ mid) × (entries ≡ noted) × (told ≡ None)
  pub ends : (x : Reply) → reply ≡ Some x → Leaves mid e c × (entries ≡ noted ++ Ended c x ∷ []) × (told ≡ ended_of_member (member_of mid.set c) x)

same_store : (mid e : Server) (c : ℕ) (reply : Option Reply) (noted entries : List Entry) (told : Option told_end.Ended) → IsConcluded mid e c reply noted entries told
    → e.store ≡ mid.store
same_store mid e c None noted entries told is = ap (λ (x : Server). x.store) (is.goes refl).0
same_store mid e c (Some x) noted entries told is = (is.ends x refl).0.store

sought_map : (old new : Contained) (q : Sought) (answer : Answer) → IsTaken old q answer new → new.map ≡ old.map
sought_map old new q answer is = ⊎_elim (λ looked. ap (λ (x : Contained). x.map) looked.after) (λ tried. ap (λ (x : Contained). x.map) tried.1.after) is.sought

sought_ready : (old new : Contained) (q : Sought) (answer : Answer) → IsTaken old q answer new → new.ready ≡ old.ready
sought_ready old new q answer is = ⊎_elim (λ looked. ap (λ (x : Contained). x.ready) looked.after) (λ tried. ap (λ (x : Contained). x.ready) tried.1.after) is.sought

pub take_moves : (s : Scene) (d mid e : Server) (c : ℕ) (q : Sought) (answer : Answer) (reply : Option Reply) (noted entries : List Entry) (told : Option told_end.Ended)
    → MayWork s d c → option_map errand_of (under_way d.commands.items c) ≡ Some (errand_for q) → IsTaken d.store q answer mid.store
    → IsStore mid.store → (mid.store.ready ≡ true → KeepsBlocks mid.store.map mid.store.platter.ops mid.store.platter.ops)
    → (mid.store.ready ≡ true → mid.store.map.number < 2 ^ 63 → MayBeRecovered mid.store.map.size mid.store.platter.ops mid.store.map)
    → IsCache d.store.cache → BlocksHaveOwnSectors → KeepsOthers → ReadLaws
    → ((w : Course) → under_way d.commands.items c ≡ Some w → IsCourse (after w answer))
    → ((w : Course) → under_way d.commands.items c ≡ Some w → reply ≡ ending_of (after w answer))
    → mid.set ≡ d.set → mid.arrived ≡ d.arrived → mid.known ≡ d.known
    → ((a : Accepted) (w : Course) → accepted_of d.commands.items c ≡ Some a → a.work ≡ Some w
    → Replaces d.commands.items mid.commands.items c (record a { work = Some (after w answer) }))
    → noted ≡ got_entries c q.b (value_got answer (is_some reply)) → IsConcluded mid e c reply noted entries told
    → Moves (Work c) s d e entries told
take_moves s d mid e c q answer reply noted entries told may errand is store finds may_be once apart keeps laws course_is reply_is set_is arrived_is known_is replaces noted_is concluded =
    let at : IsReadAt s d c q = read_at s d c q may.fits errand in
    let same : e.store ≡ mid.store = same_store mid e c reply noted entries told concluded in
    let present : IsPresentMap mid.store.map mid.store.platter.ops =
    present_after s d.store mid.store may.fits.store (sought_map d.store mid.store q answer is) (sought_ready d.store mid.store q answer is) store finds may_be in
    takes s d e c q answer reply entries told may errand
    (subst (λ (x : Contained). IsTaken d.store q answer x) (sym same) is)
    (subst (λ (x : Contained). IsPresentMap x.map x.platter.ops) (sym same) present)
    once (λ b k. apart s.map may.fits.store.present.there.valid b k) keeps laws course_is reply_is
    (λ a w a_is works on.
    let went = concluded.goes on in
    record {
      set = ap (λ (x : Server). x.set) went.0 ∙ set_is;
      arrived = ap (λ (x : Server). x.arrived) went.0 ∙ arrived_is;
      known = ap (λ (x : Server). x.known) went.0 ∙ known_is;
      replaces = subst (λ (x : Server). Replaces d.commands.items x.commands.items c (record a { work = Some (after w answer) })) (sym went.0) (replaces a w a_is works);
      entries_are = went.1 ∙ (noted_is ∙ ap (λ (o : Option Reply). got_entries c q.b (value_got answer (is_some o))) on);
      nothing_told = went.2;
    })
    (λ x over.
    let left = concluded.ends x over in
    record {
      left = record {
        set = left.0.set ∙ ap (λ (ms : List Member). without ms c) set_is;
        own = left.0.commands.own;
        others = λ k other. left.0.commands.others k other ∙ (replaces at.a at.w at.a_is at.works).others k other;
        arrived = left.0.arrived ∙ arrived_is;
        known = left.0.known ∙ known_is;
      };
      entries_are = left.1 ∙ ap (λ (es : List Entry). es ++ Ended c x ∷ []) (noted_is ∙ ap (λ (o : Option Reply). got_entries c q.b (value_got answer (is_some o))) over);
      ended = left.2 ∙ ap (λ (ms : List Member). ended_of_member (member_of ms c) x) set_is;
    })

-- what a command needs while it is under way: a value, a put, or the next dirty block
abbrev pub IsServedNeed : Need → Type 0
IsServedNeed (need.Take b medium stage) = Unit {0}
IsServedNeed (need.Put b) = Unit {0}
IsServedNeed (need.PutThrough b) = Unit {0}
IsServedNeed (need.Pass from to) = Unit {0}
IsServedNeed other = ⊥

value_next : (r : reading.Reading) (o : Option Stage) → is_some o ≡ true → IsServedNeed (taking r o)
value_next r None some = absurd (cc)
value_next r (Some stage) some = tt

put_next : (b : Lba) (t : Bool) → IsServedNeed (cond t (need.PutThrough b) (need.Put b))
put_next b true = tt
put_next b false = tt

needs_by : (v : View) (moved : ℕ) (plan : Plan) (step : Step) → IsAtBlock v plan step → IsServedNeed (need_by plan moved step)
needs_by v moved plan step at =
    at_block v (λ plan step. IsServedNeed (need_by plan moved step))
    (λ r p trying. subst (λ (b : Bool). IsServedNeed (cond b (taking r (next_stage p)) need.Nothing)) (sym (lt-ltb r.at r.end trying.left))
    (value_next r (next_stage p) trying.next))
    (λ w p left. subst (λ (b : Bool). IsServedNeed (cond b (cond w.through (need.PutThrough (lba w.at)) (need.Put (lba w.at))) need.Nothing)) (sym (lt-ltb w.at w.end left.1))
    (put_next (lba w.at) w.through))
    (λ y p left. subst (λ (b : Bool). IsServedNeed (cond b (need.Pass (lba y.at) (lba y.end)) need.Nothing)) (sym (lt-ltb y.at y.end left.1)) tt) plan step at

pub needs_what_is_served : (s : Scene) (d : Server) (c : ℕ) (e : Errand) → Fits s d → option_map errand_of (under_way d.commands.items c) ≡ Some e → IsServedNeed e.need
needs_what_is_served s d c e fits errand =
    let given : GivenBy errand_of (under_way d.commands.items c) e = given_by errand_of (under_way d.commands.items c) e errand in
    let stands : StandsAt s c given.x = stands_in s d c given.x fits given.is in
    subst IsServedNeed (ap (λ (x : Errand). x.need) given.gives) (needs_by (view s c) given.x.moved given.x.plan given.x.step stands.working.at_block)
