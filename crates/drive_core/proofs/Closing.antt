-- Half a turn of work closes: the command goes on or ends, and the parts of the drive move from one scene to the next.
use Rattle.std.proofs.Common.{◌≡◌, ℕ, ◌<◌, Bool, true, false, not, List, [], ◌∷◌, ◌++◌, Option, Some, None, refl, sym, ap, ◌∙◌, subst, arith}
use Rattle.std.specs.Prelude.{◌^◌}
use Rattle.std.specs.Option.{option_map_or}
use Rattle.std.proofs.lemmas.Bool.{or_right}
use Rattle.platter_model.specs.declared.op.Op.{Op}
use Rattle.disk_base.specs.declared.address.Psn.{Psn}
use Rattle.platter_model.specs.Sector.{is_faulty}
use Rattle.platter_model.specs.TrueLog.{is_off}
use Rattle.sense_data.specs.declared.reply.Reply.{Reply}
use Rattle.geometry_map.specs.DefectMap.{DefectMap}
use Rattle.task_set.specs.declared.member.Member.{Member}
use Rattle.task_set.specs.Members.{member_of}
use Rattle.sector_store.specs.Stored.{KeepsBlocks}
use Rattle.sector_store.specs.Maps.{MayBeRecovered}
use Rattle.sector_store.specs.State.{Contained, IsStore}
use Rattle.cdb_reader.specs.Replies.{good, is_recovered}
use Rattle.cdb_reader.specs.declared.plan.Reading as reading
use Rattle.cdb_reader.specs.declared.plan.Plan.{Plan}
use Rattle.cdb_reader.specs.declared.plan.Plan.TheVariants.{Ending, Unread, Answering, Changing, Reading, Writing, Syncing, Moving, Over}
use Rattle.cdb_reader.specs.declared.plan.Deed.TheVariants as deed
use Rattle.cdb_reader.specs.Plan.{next, plan_after, is_over}
use Rattle.command_engine.specs.declared.step.Recovery.{Recovery}
use Rattle.command_engine.specs.Course.{Course}
use Rattle.command_engine.specs.Ending.{ending_of, report_of, recovered_error, stays_dirty}
use Rattle.command_engine.specs.Standing.{IsCourse}
use Rattle.command_engine.specs.Answers.{with_page}
use Rattle.command_engine.specs.Laws.{EndsByThePlan}
use Rattle.block_machine.specs.declared.entry.Entry.{Entry}
use Rattle.block_machine.specs.declared.entry.Entry.TheVariants.{Ended}
use Rattle.block_machine.specs.declared.turn.Label.TheVariants.{Work}
use Rattle.block_machine.specs.State.{State, Duty}
use Rattle.block_machine.specs.Entries.{ends_as_told, recovery_within}
use Rattle.drive_core.specs.declared.accepted.Accepted.{Accepted}
use Rattle.drive_core.specs.declared.server.Server.{Server}
use Rattle.drive_scene.specs.declared.answer.Ended as told_end
use Rattle.drive_scene.specs.Scene.{Scene, beat}
use Rattle.drive_core.specs.Accepting.{Replaces}
use Rattle.drive_scene.specs.Ending.{ended_of_member, ended_in}
use Rattle.drive_scene.specs.GoodTurn.{GoodTurn}
use Rattle.drive_core.specs.Commands.{IsOwnRecovery}
use Rattle.drive_scene.specs.Present.{IsPresentMap}
use Rattle.drive_core.specs.Fits.{HasOps, Fits}
use Rattle.drive_core.specs.Moves.{Moves}
use Rattle.drive_scene.specs.Half.{Half}
use Rattle.drive_scene.proofs.Elsewhere.{after_half, after_end}
use Rattle.drive_core.proofs.Fitting.{IsLeft}

-- a plan that a reply fulfils
over_is : (o : Option Plan) → is_over (plan_after o []) ≡ true → o ≡ Some Over
over_is None h = absurd (cc)
over_is (Some (Ending reply)) h = absurd (cc)
over_is (Some (Unread b)) h = absurd (cc)
over_is (Some (Answering bytes reply)) h = absurd (cc)
over_is (Some Changing) h = absurd (cc)
over_is (Some (Reading r)) h = absurd (cc)
over_is (Some (Writing w)) h = absurd (cc)
over_is (Some (Syncing y)) h = absurd (cc)
over_is (Some (Moving m)) h = absurd (cc)
over_is (Some Over) h = refl

-- a reply that the engine gives fulfils the plan of a command without pages
pub may_end : (w : Course) (reply : Reply) (dirty : Bool) → EndsByThePlan → IsCourse w → ending_of w ≡ Some reply → (stays_dirty w.plan w.step ≡ true → dirty ≡ true)
    → with_page [] w.plan ≡ w.plan → next w.plan (deed.Ended reply dirty) ≡ Some Over
may_end w reply dirty law course is stays page =
    subst (λ (p : Plan). next p (deed.Ended reply dirty) ≡ Some Over) page
    (over_is (next (with_page [] w.plan) (deed.Ended reply dirty)) (law [] w [] reply dirty course tt is stays))

-- a report tells of a block of the command's own
pub told_report : (r : reading.Reading) (reports : Bool) (recovered : Option Recovery) (duty : Duty) → IsOwnRecovery duty.asks recovered
    → ends_as_told (Some (Reading r)) duty (report_of reports recovered) ≡ true
told_report r true (Some recovery) duty own =
    or_right (not (is_recovered (recovered_error recovery))) (option_map_or (recovery_within duty.asks) (recovered_error recovery).sense false) own
told_report r true None duty own = refl
told_report r false recovered duty own = refl

-- the store after a turn of work that armed no cut
pub has_ops : (s t : Scene) (old new : Contained) (ops : List Op) → HasOps s old → t.map ≡ s.map → t.ops ≡ s.ops ++ ops → new.map ≡ old.map
    → new.platter.ops ≡ old.platter.ops ++ ops → new.platter.armed ≡ old.platter.armed → new.ready ≡ old.ready → is_off (s.ops ++ ops) ≡ is_off s.ops
    → ((p : Psn) → is_faulty p (s.ops ++ ops) ≡ is_faulty p s.ops) → IsPresentMap new.map new.platter.ops → HasOps t new
has_ops s t old new ops has map_is ops_is map ops_added armed ready off faults present =
    let same_map : new.map ≡ t.map = map ∙ (has.map ∙ sym map_is) in
    let same_ops : new.platter.ops ≡ t.ops = ops_added ∙ (ap (λ (xs : List Op). xs ++ ops) has.ops ∙ sym ops_is) in
    record {
      map = same_map;
      ops = same_ops;
      present = subst (λ (xs : List Op). IsPresentMap t.map xs) same_ops (subst (λ (n : DefectMap). IsPresentMap n new.platter.ops) same_map present);
      powered = ap is_off ops_is ∙ (off ∙ has.powered);
      unarmed = armed ∙ has.unarmed;
      ready = ready ∙ has.ready;
      sound = λ p. ap (is_faulty p) ops_is ∙ (faults p ∙ has.sound p);
    }

-- what a turn of work leaves while the command goes on, or where it ends: half a turn's entries, and the reply's
pub record Goes (d e : Server) (c : ℕ) (a : Accepted) (half entries : List Entry) (told : Option told_end.Ended) : Type 0 where
  pub set : e.set ≡ d.set
  pub arrived : e.arrived ≡ d.arrived
  pub known : e.known ≡ d.known
  pub replaces : Replaces d.commands.items e.commands.items c a
  pub entries_are : entries ≡ half
  pub nothing_told : told ≡ None

pub record Stops (d e : Server) (c : ℕ) (reply : Reply) (half entries : List Entry) (told : Option told_end.Ended) : Type 0 where
  pub left : IsLeft d e c
  pub entries_are : entries ≡ half ++ Ended c reply ∷ []
  pub ended : told ≡ ended_of_member (member_of d.set c) reply

-- half a turn with which the command goes on moves the drive
pub moves_on : (s : Scene) (c : ℕ) (ops : List Op) (half entries : List Entry) (h : State) (plan : Plan) (d e : Server) (a : Accepted) (told : Option told_end.Ended)
    → Half s c ops half h plan → GoodTurn s (beat (Work c) half ops) → Fits (after_half s c ops half) e → Goes d e c a half entries told
    → e.store.platter.ops ≡ d.store.platter.ops ++ ops → None ≡ ended_in s half
    → Moves (Work c) s d e entries told
moves_on s c ops half entries h plan d e a told is good fits goes added none =
    let M : List Entry → Option told_end.Ended → Type 0 = λ es o. Moves (Work c) s d e es o in
    let moves : M half None = record {
      ops = ops;
      added = added;
      good = good;
      fits = fits;
      counted = omega (arith, goes.arrived);
      ended = none;
    } in
    subst (λ (o : Option told_end.Ended). M entries o) (sym goes.nothing_told) (subst (λ (es : List Entry). M es None) (sym goes.entries_are) moves)

-- half a turn with which the command ends moves the drive
pub moves_end : (s : Scene) (c : ℕ) (ops : List Op) (half entries : List Entry) (h : State) (plan : Plan) (d e : Server) (reply : Reply) (told : Option told_end.Ended)
    → Half s c ops half h plan → GoodTurn s (beat (Work c) (half ++ Ended c reply ∷ []) ops) → Fits (after_end s c ops half reply) e → Stops d e c reply half entries told
    → Fits s d → e.store.platter.ops ≡ d.store.platter.ops ++ ops → ended_of_member (member_of s.hist.set c) reply ≡ ended_in s (half ++ Ended c reply ∷ [])
    → Moves (Work c) s d e entries told
moves_end s c ops half entries h plan d e reply told is good fits stops before added ended =
    let M : List Entry → Option told_end.Ended → Type 0 = λ es o. Moves (Work c) s d e es o in
    let moves : M (half ++ Ended c reply ∷ []) (ended_of_member (member_of s.hist.set c) reply) = record {
      ops = ops;
      added = added;
      good = good;
      fits = fits;
      counted = omega (arith, stops.left.arrived);
      ended = ended;
    } in
    let told_is : told ≡ ended_of_member (member_of s.hist.set c) reply =
    stops.ended ∙ ap (λ (ms : List Member). ended_of_member (member_of ms c) reply) before.tasks.set in
    subst (λ (o : Option told_end.Ended). M entries o) (sym told_is) (subst (λ (es : List Entry). M es (ended_of_member (member_of s.hist.set c) reply)) (sym stops.entries_are) moves)

-- the map of a store that keeps it is there after the turn
pub present_after : (s : Scene) (old new : Contained) → HasOps s old → new.map ≡ old.map → new.ready ≡ old.ready → IsStore new
    → (new.ready ≡ true → KeepsBlocks new.map new.platter.ops new.platter.ops)
    → (new.ready ≡ true → new.map.number < 2 ^ 63 → MayBeRecovered new.map.size new.platter.ops new.map) → IsPresentMap new.map new.platter.ops
present_after s old new has same ready_same store finds may =
    let ready : new.ready ≡ true = ready_same ∙ has.ready in
    let number : new.map.number < 2 ^ 63 = subst (λ (n : DefectMap). n.number < 2 ^ 63) (sym (same ∙ has.map)) has.present.number in
    record { there = store.there ready; number = number; may_be = may ready number; finds = finds ready }
