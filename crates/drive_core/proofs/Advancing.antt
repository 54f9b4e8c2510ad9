-- While commands are in, work on one of them may come.
use Rattle.std.proofs.Common.{◌≡◌, ◌≢◌, inl, inr, ℕ, ◌<◌, Bool, true, false, not, cond, eqb, List, [], ◌∷◌, length, Option, Some, None, refl, sym, ap, ◌∙◌, arith, filter}
use Rattle.std.specs.Prelude.{◌&&◌, ◌||◌, find}
use Rattle.std.specs.Option.{option_map, option_map_or, option_and_then, is_some, is_none}
use Rattle.std.proofs.lemmas.Bool.{cond-true, cond-false, eqb-true, eqb-false, lt-ltb, and_parts, not-true}
use Rattle.std.proofs.lemmas.List.{length-map}
use Rattle.platter_model.specs.declared.op.Op.{Op}
use Rattle.task_set.specs.declared.member.Member.{Member}
use Rattle.task_set.specs.Members.{member_of, first_forbidding, IsByAge, SomeCommandMayRun}
use Rattle.cdb_reader.specs.declared.plan.Reading as reading
use Rattle.cdb_reader.specs.declared.plan.Plan.{Plan}
use Rattle.cdb_reader.specs.declared.plan.Plan.TheVariants.{Reading}
use Rattle.command_engine.specs.declared.step.Step.{Step}
use Rattle.command_engine.specs.Course.{Course}
use Rattle.block_machine.specs.Blocks.{Blocks}
use Rattle.block_machine.specs.State.{owed_by}
use Rattle.drive_core.specs.declared.accepted.Accepted.{Accepted}
use Rattle.drive_scene.specs.declared.answer.TurnAnswer.TheVariants as answer
use Rattle.drive_scene.specs.declared.event.Holder.TheVariants as holder
use Rattle.drive_scene.specs.declared.answer.Pick.TheVariants as pick
use Rattle.drive_core.specs.declared.server.Server.{Server}
use Rattle.block_machine.specs.declared.turn.Label.TheVariants as label
use Rattle.drive_scene.specs.Scene.{Scene}
use Rattle.drive_scene.specs.Evidence.{lba}
use Rattle.drive_scene.specs.Holds.{held_by_plan, held_block, holds, command_besides, needed_by_plan, needed_block, IsApart}
use Rattle.drive_core.specs.Accepting.{accepted_of}
use Rattle.drive_scene.specs.View.{View, view}
use Rattle.drive_core.specs.Commands.{IsAtBlock, IsStaged, IsUnderWay}
use Rattle.drive_core.specs.Fits.{Fits}
use Rattle.drive_scene.specs.Able.{held_by_other, kept_waiting, work_refused, is_able, nothing_waiting}
use Rattle.drive_scene.specs.Progress.{SomebodyIsAble}
use Rattle.drive_core.proofs.AtBlock.{at_block}
use Rattle.drive_core.proofs.Flightless.{holder_alone, kept_alone}
use Rattle.drive_scene.proofs.Walking.{member-number, able-quiet}
use Rattle.drive_scene.proofs.Apart.{unheld_sync, unheld_write}

-- a block that a plan holds is the one that it needs
held_by_read : (blocks : Blocks) (window : List Op) (r : reading.Reading) (b : ℕ) → r.at < r.end → held_by_plan window (Reading r) ≡ Some b
    → needed_by_plan blocks (Reading r) ≡ Some b
held_by_read blocks window r b left held =
    ap (λ (t : Bool). cond t (Some r.at) None) (lt-ltb r.at r.end left)
    ∙ by (not (eqb (length window) 0) || r.hardened) held
  where
    by : (t : Bool) → cond t (Some r.at) None ≡ Some b → Some r.at ≡ Some b
    by true is = is
    by false is = absurd (cc)

held_is_needed : (blocks : Blocks) (v : View) (plan : Plan) (step : Step) (b : ℕ) → IsAtBlock v plan step → held_by_plan v.window plan ≡ Some b
    → needed_by_plan blocks plan ≡ Some b
held_is_needed blocks v plan step b at held =
    at_block v (λ plan step. held_by_plan v.window plan ≡ Some b → needed_by_plan blocks plan ≡ Some b)
    (λ r p trying. held_by_read blocks v.window r b trying.left)
    (λ w p at_start held. absurd (let none : None ≡ Some b = sym (unheld_write v.window w at_start.0 at_start.2) ∙ held in cc))
    (λ y p at_start held. absurd (let none : None ≡ Some b = sym (unheld_sync v.window y at_start.0) ∙ held in cc)) plan step at held

-- a command that holds a block was started, and needs it
record Holds (s : Scene) (c b : ℕ) : Type 0 where
  m : Member
  is_in : member_of s.hist.set c ≡ Some m
  started : m.started ≡ true
  needs : needed_block s c ≡ Some b

module _ (s : Scene) (c b : ℕ) where
  nothing_owed : (o : Option Member) → (s.hist.duties c).owes ≡ None → option_and_then (λ (x : Member). (s.hist.duties c).owes) o ≡ None
  nothing_owed None none = refl
  nothing_owed (Some m) none = none

  none_in : (o : Option Member) → o ≡ None → option_and_then (λ (x : Member). (s.hist.duties c).owes) o ≡ None
  none_in None none = refl
  none_in (Some m) none = absurd (cc)

  not_held : owed_by s.hist c ≡ None → held_block s c ≡ Some b → ⊥
  not_held none held = let nothing : held_block s c ≡ None = ap (option_and_then (held_by_plan (s.windows c))) none in cc

  by_work : (m : Member) (a : Accepted) (o : Option Course) → member_of s.hist.set c ≡ Some m → IsUnderWay (view s c) m a o → held_block s c ≡ Some b → Holds s c b
  by_work m a None is_in waiting held = absurd (not_held (nothing_owed (member_of s.hist.set c) waiting.owes) held)
  by_work m a (Some w) is_in working held =
      let owes : owed_by s.hist c ≡ Some w.plan =
      ap (λ (o : Option Member). option_and_then (λ (x : Member). (s.hist.duties c).owes) o) is_in ∙ working.owes in
      let here : held_by_plan (s.windows c) w.plan ≡ Some b = sym (ap (option_and_then (held_by_plan (s.windows c))) owes) ∙ held in
      record {
        m = m;
        is_in = is_in;
        started = working.started;
        needs = ap (option_and_then (needed_by_plan s.hist.blocks)) owes ∙ held_is_needed s.hist.blocks (view s c) w.plan w.step b working.at_block here;
      }

  holding : (o : Option Accepted) → IsStaged (view s c) o → held_block s c ≡ Some b → Holds s c b
  holding None none held = absurd (not_held (none_in (member_of s.hist.set c) none) held)
  holding (Some a) command held = by_work command.member a a.work command.is_in command.under_way held

-- the command that was found
record Found (s : Scene) (c b q : ℕ) : Type 0 where
  other : q ≢ c
  held : held_block s q ≡ Some b

held_at : (o : Option ℕ) (b : ℕ) → option_map_or (λ (h : ℕ). eqb h b) o false ≡ true → o ≡ Some b
held_at None b is = absurd (cc)
held_at (Some h) b is = ap Some (eqb-true h b is)

found_in : (s : Scene) (c b q : ℕ) (set : List Member)
    → option_map (λ (m : Member). m.task.c) (find (λ (m : Member). not (eqb m.task.c c) && holds s b m.task.c) set) ≡ Some q → Found s c b q
found_in s c b q [] is = absurd (cc)
found_in s c b q (x ∷ xs) is = by (λ rest. found_in s c b q xs rest) (not (eqb x.task.c c) && holds s b x.task.c) refl is
  where
    by : (option_map (λ (m : Member). m.task.c) (find (λ (m : Member). not (eqb m.task.c c) && holds s b m.task.c) xs) ≡ Some q → Found s c b q)
        → (t : Bool) → (not (eqb x.task.c c) && holds s b x.task.c) ≡ t
        → option_map (λ (m : Member). m.task.c) (cond t (Some x) (find (λ (m : Member). not (eqb m.task.c c) && holds s b m.task.c) xs)) ≡ Some q → Found s c b q
    by rest true passes there =
        let same : x.task.c ≡ q = cc in
        let both = and_parts (not (eqb x.task.c c)) (holds s b x.task.c) passes in
        let other : x.task.c ≢ c = eqb-false x.task.c c (not-true (eqb x.task.c c) both.0) in
        record {
          other = λ is_c. other (same ∙ is_c);
          held = ap (held_block s) (sym same) ∙ held_at (held_block s x.task.c) b both.1;
        }
    by rest false fails there = rest there

-- a command on which work may come
record IsFree (s : Scene) : Type 0 where
  c : ℕ
  m : Member
  is_in : member_of s.hist.set c ≡ Some m
  free : work_refused s c m ≡ None

-- started, and what it needs isn't held
unheld : (s : Scene) (c : ℕ) (m : Member) → s.back.flights ≡ [] → m.started ≡ true → option_and_then (held_by_other s c) (needed_block s c) ≡ None → work_refused s c m ≡ None
unheld s c m flightless started none =
    cond-true m.started (kept_waiting s c) (option_map answer.Dormant (first_forbidding s.hist.set m.task)) started ∙ (kept_alone s c flightless ∙ none)

-- a block that no other command holds is held by nobody else
none_holds : (s : Scene) (c b : ℕ) → s.back.flights ≡ [] → command_besides s (label.Work c) b ≡ None → held_by_other s c b ≡ None
none_holds s c b flightless none =
    ap (option_map (λ other. answer.Held (lba b) other)) (holder_alone s (label.Work c) b flightless ∙ ap (option_map holder.Command) none)

-- the holder of a block waits for nobody
holder_free : (s : Scene) (q b : ℕ) (o : Option ℕ) → IsApart s → s.back.flights ≡ [] → held_block s q ≡ Some b → command_besides s (label.Work q) b ≡ o
    → held_by_other s q b ≡ None
holder_free s q b None apart flightless held is = none_holds s q b flightless is
holder_free s q b (Some x) apart flightless held is =
    let found : Found s q b x = found_in s q b x s.hist.set is in
    absurd (found.other (apart.commands x q b found.held held))

free_holder : (s : Scene) (d : Server) (q b : ℕ) → Fits s d → held_block s q ≡ Some b → IsFree s
free_holder s d q b fits held =
    let holds_it : Holds s q b = holding s q b (accepted_of d.commands.items q) (fits.staged q) held in
    record {
      c = q;
      m = holds_it.m;
      is_in = holds_it.is_in;
      free = unheld s q holds_it.m fits.flightless holds_it.started
          (ap (option_and_then (held_by_other s q)) holds_it.needs ∙ holder_free s q b (command_besides s (label.Work q) b) fits.apart fits.flightless held refl);
    }

by_holder : (s : Scene) (d : Server) (c b : ℕ) (m : Member) (o : Option ℕ) → Fits s d → member_of s.hist.set c ≡ Some m → m.started ≡ true
    → needed_block s c ≡ Some b → command_besides s (label.Work c) b ≡ o → IsFree s
by_holder s d c b m None fits is_in started needs none = record {
  c = c;
  m = m;
  is_in = is_in;
  free = unheld s c m fits.flightless started (ap (option_and_then (held_by_other s c)) needs ∙ none_holds s c b fits.flightless none);
}
by_holder s d c b m (Some q) fits is_in started needs is = free_holder s d q b fits (found_in s c b q s.hist.set is).held

by_need : (s : Scene) (d : Server) (c : ℕ) (m : Member) (o : Option ℕ) → Fits s d → member_of s.hist.set c ≡ Some m → m.started ≡ true
    → needed_block s c ≡ o → IsFree s
by_need s d c m None fits is_in started needs = record {
  c = c;
  m = m;
  is_in = is_in;
  free = unheld s c m fits.flightless started (ap (option_and_then (held_by_other s c)) needs);
}
by_need s d c m (Some b) fits is_in started needs = by_holder s d c b m (command_besides s (label.Work c) b) fits is_in started needs refl

by_start : (s : Scene) (d : Server) (c : ℕ) (m : Member) (t : Bool) → Fits s d → member_of s.hist.set c ≡ Some m → m.started ≡ t
    → cond t None (first_forbidding s.hist.set m.task) ≡ None → IsFree s
by_start s d c m true fits is_in started runs = by_need s d c m (needed_block s c) fits is_in started refl
by_start s d c m false fits is_in started runs = record {
  c = c;
  m = m;
  is_in = is_in;
  free = cond-false m.started (kept_waiting s c) (option_map answer.Dormant (first_forbidding s.hist.set m.task)) started
      ∙ ap (option_map answer.Dormant) runs;
}

by_member : (s : Scene) (d : Server) (c : ℕ) (o : Option Member) → Fits s d → member_of s.hist.set c ≡ o → is_some o ≡ true
    → option_and_then (λ (m : Member). cond m.started None (first_forbidding s.hist.set m.task)) o ≡ None → IsFree s
by_member s d c None fits is some runs = absurd (cc)
by_member s d c (Some m) fits is some runs = by_start s d c m m.started fits is refl runs

-- one that passes is left
some_left : (p : Member → Bool) (set : List Member) (c : ℕ) (m : Member) → member_of set c ≡ Some m → p m ≡ true → 0 < length (filter p set)
some_left p [] c m is passes = absurd (cc)
some_left p (x ∷ xs) c m is passes = by (λ rest. some_left p xs c m rest passes) (p x) refl (eqb x.task.c c) is
  where
    by : (member_of xs c ≡ Some m → 0 < length (filter p xs)) → (t : Bool) → p x ≡ t → (u : Bool) → cond u (Some x) (member_of xs c) ≡ Some m
        → 0 < length (cond t (x ∷ filter p xs) (filter p xs))
    by rest true px u there = omega arith
    by rest false px true there = let same : x ≡ m = cc in absurd (let never : ⊥ = cc (ap p same) in never)
    by rest false px false there = rest there

pub somebody_is_able : (s : Scene) (d : Server) → Fits s d → IsByAge s.hist.set → SomeCommandMayRun → SomebodyIsAble s
somebody_is_able s d fits by_age law (inr flying) = let none : length s.back.flights ≡ 0 = ap length fits.flightless in absurd (omega (arith, flying))
somebody_is_able s d fits by_age law (inl some) =
    let runs = law s.hist.set by_age some in
    let one : IsFree s = by_member s d runs.0 (member_of s.hist.set runs.0) fits refl runs.1 runs.2 in
    let passes : is_able s one.m ≡ true =
    ap (λ (n : ℕ). is_none (work_refused s n one.m)) (member-number s.hist.set one.c one.m one.is_in) ∙ ap is_none one.free in
    let left : 0 < length (filter (is_able s) s.hist.set) = some_left (is_able s) s.hist.set one.c one.m one.is_in passes in
    omega (arith, left, ap length (able-quiet s nothing_waiting fits.flightless refl), length-map (filter (is_able s) s.hist.set) (λ (m : Member). pick.Work m.task.c))
