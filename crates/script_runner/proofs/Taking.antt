-- What a turn that was picked does to what is still wanted, and to the ages of the commands.
use Rattle.std.proofs.Common.{◌≡◌, ◌≢◌, ◌∙◌, ap, sym, refl, subst, ℕ, ◌+◌, ◌<◌, ◌≤◌, ◌⊎◌, inl, inr, Bool, true, List, [], ◌∷◌, ◌++◌, arith, Some, None, Option, cond, eq-eqb, length}
use Rattle.std.specs.Prelude.{fold, filter, filter_map, ◌==◌}
use Rattle.std.proofs.lemmas.Bool.{cases_eq, ne_eqb}
use Rattle.disk_base.specs.Along.{Along}
use Rattle.block_machine.specs.declared.entry.Entry.{Entry}
use Rattle.block_machine.specs.declared.entry.Entry.TheVariants as entry
use Rattle.block_machine.specs.declared.turn.Label.{Label}
use Rattle.block_machine.specs.declared.turn.Label.TheVariants as label
use Rattle.block_machine.specs.State.{State, is_full}
use Rattle.block_machine.specs.Steps.{begun, entries_after, entry_after}
use Rattle.disk_base.specs.declared.address.Lba.{Lba}
use Rattle.disk_base.specs.declared.address.Tag.{Tag}
use Rattle.disk_base.specs.declared.command.Attribute.{Attribute}
use Rattle.disk_base.specs.declared.command.DataOut.{DataOut}
use Rattle.disk_base.specs.declared.command.Function.{Function as Asking}
use Rattle.std.specs.Option.{option_map_or}
use Rattle.block_machine.specs.Turns.{entries_lawful, are_aborted, named_by, is_answered}
use Rattle.block_machine.proofs.Booleans.{both}
use Rattle.task_set.specs.declared.member.Member.{Member}
use Rattle.task_set.specs.Members.{is_named, numbers, member_of}
use Rattle.script_runner.specs.Measure.{turns_of_phase, turns_wanted, turns_left, turns_to_send, sum_upto}
use Rattle.script_runner.proofs.Ages.{within}
use Rattle.script_runner.proofs.Members.{number_of}
use Rattle.script_runner.proofs.Lowering.{turns_by, work_on, work_lower, sum_less}
use Rattle.script_runner.proofs.Arriving.{arrival_lower, function_lower}
use Rattle.drive_scene.specs.declared.event.Arrival.{Arrival}
use Rattle.drive_scene.specs.declared.event.Arrival.TheVariants.{Command, Function}
use Rattle.drive_scene.specs.declared.event.Event.{Event}
use Rattle.drive_scene.specs.declared.event.Event.TheVariants as event
use Rattle.drive_scene.specs.declared.answer.Pick.{Pick}
use Rattle.drive_scene.specs.declared.answer.Pick.TheVariants.{Arrive, Work, Job, Scan, Destage}
use Rattle.drive_scene.specs.Scene.{Scene, Beat, capacity, scene_at_start}
use Rattle.drive_scene.specs.After.{scene_after}
use Rattle.drive_scene.specs.GoodTurn.{GoodTurn}
use Rattle.drive_scene.specs.Kinds.{IsAfterDestage}
use Rattle.drive_scene.specs.Laws.{DestagesLeaveCommands}
use Rattle.drive_scene.specs.Run.{Run, IsGoodRun, scene_of, beats_of}
use Rattle.drive_scene.specs.declared.answer.TurnAnswer.TheVariants as answer
use Rattle.drive_scene.specs.Able.{refusal_of_work, work_refused}
use Rattle.drive_scene.specs.Turning.{initiator_of, entry_of}
use Rattle.script_runner.specs.Each.{Each}
use Rattle.script_runner.specs.Ages.{Between}
use Rattle.script_runner.specs.Arrivals.{Sends, arriving, sent_by, arrival_of_entry}
use Rattle.script_runner.specs.Phase.{is_of_phase}
use Rattle.script_runner.specs.Wanted.{Wanted, is_destage, destages_in}
use Rattle.script_runner.specs.Phasing.{AreServed, IsAtHand, IsToSend, TakesArrival, Fetches, MakesTurn, TakesTurn}
use Rattle.script_runner.proofs.Beats.{NextTurn, next_turn, scene_next}
use Rattle.script_runner.proofs.Entries.{IsNoArrival, nothing_arrives, arrives, aborted, none_arrived, ages_after, age_arrived, arrived_same}
use Rattle.script_runner.proofs.Picks.{CanCome}

pub at_hand : (s : Scene) (wanted : Wanted) (p : Pick) → CanCome s wanted p → IsAtHand wanted p
at_hand s wanted (Arrive i) can = can.2
at_hand s wanted (Work c) can = tt
at_hand s wanted (Job j) can = absurd can
at_hand s wanted Scan can = absurd can
at_hand s wanted Destage can = can.0

-- the part of one thing that arrived
pub part_own : (a : Arrival) (i : ℕ) → initiator_of a ≡ i → sent_by i (a ∷ []) ≡ a ∷ []
part_own a i e = ap (λ (b : Bool). cond b (a ∷ []) []) (eq-eqb (initiator_of a) i e)

pub part_other : (a : Arrival) (i : ℕ) → (initiator_of a ≡ i → ⊥) → sent_by i (a ∷ []) ≡ []
part_other a i ne = ap (λ (b : Bool). cond b (a ∷ []) []) (ne_eqb (initiator_of a) i ne)

-- what is to be sent by each initiator, after one thing was taken
sent_then_left : (sends left : Sends) (i : ℕ) (a : Arrival) → sends i ≡ a ∷ left i → initiator_of a ≡ i → ((j : ℕ) → j ≢ i → left j ≡ sends j)
    → (j : ℕ) → (j ≡ i) ⊎ (j ≡ i → ⊥) → sends j ≡ sent_by j (a ∷ []) ++ left j
sent_then_left sends left i a first sender others j (inl e) = rw (e, part_own a i sender) first
sent_then_left sends left i a first sender others j (inr ne) = rw (part_other a j (λ h. ne (sym h ∙ sender))) (sym (others j ne))

still_served : (sends left : Sends) (i : ℕ) (a : Arrival) → AreServed sends → sends i ≡ a ∷ left i → ((j : ℕ) → j ≢ i → left j ≡ sends j)
    → (j : ℕ) → (j ≡ i) ⊎ (j ≡ i → ⊥) → Each (IsToSend j) (left j)
still_served sends left i a served first others j (inl e) = rw e ((subst (Each (IsToSend i)) first (served i)).1)
still_served sends left i a served first others j (inr ne) = subst (Each (IsToSend j)) (sym (others j ne)) (served j)

-- by the entries of a turn in which a command arrives, it is all that arrives
arrived_alone : (blocks : ℕ) (h : State) (i : ℕ) (entries rest : List Entry) (e : Entry) (c j : ℕ) (a : Arrival) → arrival_of_entry e ≡ Some a → entries ≡ e ∷ rest → Each IsNoArrival rest
    → filter_map arrival_of_entry entries ≡ a ∷ []
arrived_alone blocks h i entries rest e c j a is entries_are quiet = rw (entries_are, is, none_arrived rest quiet) refl

-- the numbers of the commands that are in ascend in a good run
begun_set : (h : State) (l : Label) → ((begun h l).set ≡ h.set) × ((begun h l).arrived ≡ h.arrived)
begun_set h (label.Arrive i) = (refl, refl)
begun_set h (label.Work c) = (refl, refl)
begun_set h (label.Job j) = (refl, refl)
begun_set h label.Scan = (refl, refl)
begun_set h label.Destage = (refl, refl)
begun_set h (label.World w) = (refl, refl)

arrival_ages : (blocks : ℕ) (h : State) (i : ℕ) (entries : List Entry) → entries_lawful blocks (label.Arrive i) h entries ≡ true → Between 0 h.set h.arrived
    → Between 0 (entries_after blocks (label.Arrive i) h entries).set (entries_after blocks (label.Arrive i) h entries).arrived
arrival_ages blocks h i (entry.Arrived c j t a cdb sent ∷ rest) lawful ages =
    let shape = arrives blocks h i c j t a cdb sent rest lawful in
    ages_after blocks (label.Arrive i) (entry_after blocks (label.Arrive i) h (entry.Arrived c j t a cdb sent)) rest shape.nothing_else (age_arrived blocks h c j t a cdb sent shape.next ages)
arrival_ages blocks h i (entry.Asked j what ∷ rest) lawful ages =
    ages_after blocks (label.Arrive i) (entry_after blocks (label.Arrive i) h (entry.Asked j what)) rest
    (aborted (numbers (filter (is_named (named_by i what)) h.set)) rest (both (j == i) (are_aborted (numbers (filter (is_named (named_by i what)) h.set)) rest) lawful).1) ages
arrival_ages blocks h i entries lawful ages = absurd (cc)

-- after a turn
turn_ages : (blocks : ℕ) (l : Label) (h : State) (entries : List Entry) → entries_lawful blocks l (begun h l) entries ≡ true → Between 0 h.set h.arrived
    → Between 0 (entries_after blocks l (begun h l) entries).set (entries_after blocks l (begun h l) entries).arrived
turn_ages blocks (label.Arrive i) h entries lawful ages = arrival_ages blocks h i entries lawful ages
turn_ages blocks (label.Work c) h entries lawful ages = ages_after blocks (label.Work c) (begun h (label.Work c)) entries (nothing_arrives blocks (label.Work c) (begun h (label.Work c)) entries (λ x. x) lawful) ages
turn_ages blocks (label.Job j) h entries lawful ages = ages_after blocks (label.Job j) h entries (nothing_arrives blocks (label.Job j) h entries (λ x. x) lawful) ages
turn_ages blocks label.Scan h entries lawful ages = ages_after blocks label.Scan h entries (nothing_arrives blocks label.Scan h entries (λ x. x) lawful) ages
turn_ages blocks label.Destage h entries lawful ages = ages_after blocks label.Destage h entries (nothing_arrives blocks label.Destage h entries (λ x. x) lawful) ages
turn_ages blocks (label.World w) h entries lawful ages = ages_after blocks (label.World w) h entries (nothing_arrives blocks (label.World w) h entries (λ x. x) lawful) ages

ages_along : (s : Scene) (turns : List Beat) → Along scene_after GoodTurn s turns → Between 0 s.hist.set s.hist.arrived
    → Between 0 (fold scene_after s turns).hist.set (fold scene_after s turns).hist.arrived
ages_along s [] all ages = ages
ages_along s (t ∷ turns) all ages = ages_along (scene_after s t) turns all.1 (turn_ages (capacity s) t.label s.hist t.entries all.0.tasks ages)

pub ages_of : (r : Run) → IsGoodRun r → Between 0 (scene_of r).hist.set (scene_of r).hist.arrived
ages_of r good = ages_along (scene_at_start r.made) (beats_of r) good.good (omega arith)

-- a turn of work on a command that is in takes off the turns that are left
work_fewer : (s : Scene) (t : Beat) (c : ℕ) (wanted left : Wanted) → t.label ≡ label.Work c → GoodTurn s t → Between 0 s.hist.set s.hist.arrived → (m : Member) → member_of s.hist.set c ≡ Some m
    → left ≡ wanted → turns_of_phase (scene_after s t) left < turns_of_phase s wanted
work_fewer s t c wanted left is good ages m is_in same =
    let go : GoodTurn s (work_on c t.entries t.ops) → turns_of_phase (scene_after s (work_on c t.entries t.ops)) left < turns_of_phase s wanted =
    λ good. (
    let k = scene_after s (work_on c t.entries t.ops) in
    let lower = work_lower s c t.ops m is_in t.entries good in
    let quiet = nothing_arrives (capacity s) (label.Work c) (begun s.hist (label.Work c)) t.entries (λ x. x) good.tasks in
    let counted : k.hist.arrived ≡ s.hist.arrived = arrived_same (capacity s) (label.Work c) (begun s.hist (label.Work c)) t.entries quiet in
    let number = number_of c s.hist.set m is_in in
    let range = within 0 s.hist.set s.hist.arrived c m ages is_in in
    let from = range.0 in
    let to = range.1 in
    let own = lower.own in
    let sum : sum_upto (turns_left k) s.hist.arrived + 1 ≤ sum_upto (turns_left s) s.hist.arrived =
    sum_less (turns_left s) (turns_left k) s.hist.arrived c 1 (omega arith) (omega arith) (omega arith) lower.others in
    let all : sum_upto (turns_left k) k.hist.arrived ≡ sum_upto (turns_left k) s.hist.arrived = ap (sum_upto (turns_left k)) counted in
    let to_come : turns_wanted (capacity s) left ≡ turns_wanted (capacity s) wanted = ap (turns_wanted (capacity s)) same in
    omega arith) in
    subst (λ (l : Label). let b : Beat = record { label = l; entries = t.entries; ops = t.ops } in GoodTurn s b → turns_of_phase (scene_after s b) left < turns_of_phase s wanted) (sym is) go good

-- a command that is picked is in
picked_is_in : (s : Scene) (c : ℕ) → refusal_of_work s 0 c ≡ None → (m : Member) × (member_of s.hist.set c ≡ Some m)
picked_is_in s c is = go (member_of s.hist.set c) refl is
  where
    go : (o : Option Member) → member_of s.hist.set c ≡ o → option_map_or (work_refused s c) o (Some (answer.Idle 0)) ≡ None → (m : Member) × (member_of s.hist.set c ≡ Some m)
    go None is_none e = absurd (cc)
    go (Some m) is_some e = (m, is_some)

-- an arrival takes off the turns that are left
arrival_fewer : (s : Scene) (t : Beat) (wanted left : Wanted) (i c : ℕ) (tag : Tag) (a : Attribute) (cdb : List ℕ) (sent : DataOut) (rest : List Entry)
    → label.Arrive i ≡ t.label → t.entries ≡ entry.Arrived c i tag a cdb sent ∷ rest → c ≡ s.hist.arrived + 1 → is_answered (is_full s.hist) c rest ≡ true → 1 ≤ i → i ≤ 8
    → TakesArrival wanted i (Command (arriving i tag a cdb sent)) left → turns_of_phase (scene_after s t) left < turns_of_phase s wanted
arrival_fewer s t wanted left i c tag a cdb sent rest is_label is_entries next ok low high takes =
    subst (λ (l : Label). let b : Beat = record { label = l; entries = t.entries; ops = t.ops } in turns_of_phase (scene_after s b) left < turns_of_phase s wanted) is_label
    (subst (λ (es : List Entry). let b : Beat = record { label = label.Arrive i; entries = es; ops = t.ops } in turns_of_phase (scene_after s b) left < turns_of_phase s wanted) (sym is_entries)
    (arrival_lower s wanted left i c tag a cdb sent rest t.ops next ok low high takes))

-- the same of a function
function_fewer : (s : Scene) (t : Beat) (wanted left : Wanted) (i : ℕ) (what : Asking) (cs : List ℕ) (rest : List Entry) → label.Arrive i ≡ t.label → t.entries ≡ entry.Asked i what ∷ rest
    → are_aborted cs rest ≡ true → 1 ≤ i → i ≤ 8 → TakesArrival wanted i (Function i what) left → turns_of_phase (scene_after s t) left < turns_of_phase s wanted
function_fewer s t wanted left i what cs rest is_label is_entries ok low high takes =
    subst (λ (l : Label). let b : Beat = record { label = l; entries = t.entries; ops = t.ops } in turns_of_phase (scene_after s b) left < turns_of_phase s wanted) is_label
    (subst (λ (es : List Entry). let b : Beat = record { label = label.Arrive i; entries = es; ops = t.ops } in turns_of_phase (scene_after s b) left < turns_of_phase s wanted) (sym is_entries)
    (function_lower s wanted left i what cs rest t.ops ok low high takes))

-- a destage takes off its own turn: it leaves commands as they were
destage_fewer : (s : Scene) (t : Beat) (wanted left : Wanted) → (b : Lba) × IsAfterDestage s (scene_after s t) b → left.sends ≡ wanted.sends → wanted.destages ≡ left.destages + 1
    → turns_of_phase (scene_after s t) left < turns_of_phase s wanted
destage_fewer s t wanted left after same one =
    let k = scene_after s t in
    let of_commands : sum_upto (turns_left k) k.hist.arrived ≡ sum_upto (turns_left s) s.hist.arrived =
    (λ i. sum_upto (turns_by (after.1.hist i) (after.1.windows i)) (after.1.hist i).arrived) in
    let to_send : turns_to_send (capacity s) left.sends ≡ turns_to_send (capacity s) wanted.sends = ap (turns_to_send (capacity s)) same in
    omega arith

-- whether one turn is a destage, by its label
one_destage : (t : Beat) (l : Label) → l ≡ t.label → destages_in (t ∷ []) ≡ length (cond (is_destage l) (t ∷ []) [])
one_destage t l is = ap (λ (k : Label). length (cond (is_destage k) (t ∷ []) [])) (sym is)

module _ (old new : Run) (wanted left : Wanted) (served : AreServed wanted.sends) where
  -- the turn in which something arrives, and nothing else
  took : (a : Arrival) → CanCome (scene_of old) wanted (Arrive (initiator_of a)) → (next : NextTurn old (event.Arrive a) new) → label.Arrive (initiator_of a) ≡ next.turn.label
      → TakesArrival wanted (initiator_of a) a left → filter_map arrival_of_entry next.turn.entries ≡ a ∷ []
      → turns_of_phase (scene_after (scene_of old) next.turn) left < turns_of_phase (scene_of old) wanted → TakesTurn old wanted (Arrive (initiator_of a)) new left
  took a can next is_label is came fewer =
      let none = one_destage next.turn (label.Arrive (initiator_of a)) is_label in
      let same = is.destages in
      record {
        turn = next.turn;
        goes = next.goes;
        label = is_label;
        kind = ap is_of_phase (sym is_label);
        arrivals = λ j. rw came (sent_then_left wanted.sends left.sends (initiator_of a) a is.first refl is.others j (cases_eq j (initiator_of a)));
        destages = omega arith;
        served = λ j. still_served wanted.sends left.sends (initiator_of a) a served is.first is.others j (cases_eq j (initiator_of a));
        counted = next.counted;
        fewer = subst (λ (s : Scene). turns_of_phase s left < turns_of_phase (scene_of old) wanted) (sym (scene_next old new next.turn next.goes)) fewer;
      }

  -- the entries of an arrival's turn may come
  may_arrive : (k : ℕ) (t : Beat) (entries : List Entry) → label.Arrive k ≡ t.label → GoodTurn (scene_of old) t → t.entries ≡ entries
      → entries_lawful (capacity (scene_of old)) (label.Arrive k) (scene_of old).hist entries ≡ true
  may_arrive k t entries is_label good is =
      subst (λ (es : List Entry). entries_lawful (capacity (scene_of old)) (label.Arrive k) (scene_of old).hist es ≡ true) is
      (subst (λ (l : Label). entries_lawful (capacity (scene_of old)) l (begun (scene_of old).hist l) t.entries ≡ true) (sym is_label) good.tasks)

  take_sent : (a : Arrival) → CanCome (scene_of old) wanted (Arrive (initiator_of a)) → MakesTurn old (event.Arrive a) new → TakesArrival wanted (initiator_of a) a left
      → TakesTurn old wanted (Arrive (initiator_of a)) new left
  take_sent (Function k what) can made is =
      let next = next_turn old (event.Arrive (Function k what)) new made in
      let t = next.turn in
      let rest = next.arrival.0 in
      let is_label : label.Arrive k ≡ t.label = cc in
      let cs = numbers (filter (is_named (named_by k what)) (scene_of old).hist.set) in
      let lawful = may_arrive k t (entry.Asked k what ∷ rest) is_label next.good next.arrival.1 in
      let ok = (both (k == k) (are_aborted cs rest) lawful).1 in
      let came : filter_map arrival_of_entry t.entries ≡ Function k what ∷ [] = rw (next.arrival.1, none_arrived rest (aborted cs rest ok)) refl in
      took (Function k what) can next is_label is came (function_fewer (scene_of old) t wanted left k what cs rest is_label next.arrival.1 ok can.0 can.1 is)
  take_sent (Command x) can made is =
      let next = next_turn old (event.Arrive (Command x)) new made in
      let t = next.turn in
      let rest = next.arrival.0 in
      let is_label : label.Arrive x.initiator ≡ t.label = cc in
      let h = (scene_of old).hist in
      let c = h.arrived + 1 in
      let lawful = may_arrive x.initiator t (entry_of c x ∷ rest) is_label next.good next.arrival.1 in
      let shape = arrives (capacity (scene_of old)) h x.initiator c x.initiator x.tag x.attribute x.cdb x.sent rest lawful in
      let came : filter_map arrival_of_entry t.entries ≡ Command x ∷ [] = rw (next.arrival.1, none_arrived rest shape.nothing_else) refl in
      took (Command x) can next is_label is came
      (arrival_fewer (scene_of old) t wanted left x.initiator c x.tag x.attribute x.cdb x.sent rest is_label next.arrival.1 refl shape.answered can.0 can.1 is)

  take_arrival : (i : ℕ) (a : Arrival) → CanCome (scene_of old) wanted (Arrive i) → MakesTurn old (event.Arrive a) new → TakesArrival wanted i a left → TakesTurn old wanted (Arrive i) new left
  take_arrival i a can made is =
      let sender : initiator_of a ≡ i = is.is_to_send.sender in
      subst (λ (n : ℕ). CanCome (scene_of old) wanted (Arrive n) → TakesArrival wanted n a left → TakesTurn old wanted (Arrive n) new left) sender
      (λ can is. take_sent a can made is) can is

  member : (d : ℕ) {c : ℕ} → d ≡ c → refusal_of_work (scene_of old) 0 c ≡ None → (m : Member) × (member_of (scene_of old).hist.set d ≡ Some m)
  member d {c = c} same free = picked_is_in (scene_of old) d (subst (λ (n : ℕ). refusal_of_work (scene_of old) 0 n ≡ None) (sym same) free)

  take_work : (c d : ℕ) → CanCome (scene_of old) wanted (Work c) → MakesTurn old (event.Work d) new → (d ≡ c) × (left ≡ wanted) → TakesTurn old wanted (Work c) new left
  take_work c d can made is =
      let next = next_turn old (event.Work d) new made in
      let t = next.turn in
      let is_label : label.Work d ≡ t.label = cc in
      let h = (scene_of old).hist in
      let lawful = subst (λ (l : Label). entries_lawful (capacity (scene_of old)) l (begun h l) t.entries ≡ true) (sym is_label) next.good.tasks in
      let came : filter_map arrival_of_entry t.entries ≡ [] =
      none_arrived t.entries (nothing_arrives (capacity (scene_of old)) (label.Work d) (begun h (label.Work d)) t.entries (λ x. x) lawful) in
      let none = one_destage t (label.Work d) is_label in
      let same : left.destages ≡ wanted.destages = ap (λ (w : Wanted). w.destages) is.1 in
      record {
        turn = t;
        goes = next.goes;
        label = ap label.Work (sym is.0) ∙ is_label;
        kind = ap is_of_phase (sym is_label);
        arrivals = λ j. rw (came, is.1) refl;
        destages = omega arith;
        served = subst (λ (w : Wanted). AreServed w.sends) (sym is.1) served;
        counted = next.counted;
        fewer = subst (λ (s : Scene). turns_of_phase s left < turns_of_phase (scene_of old) wanted) (sym (scene_next old new t next.goes))
            (work_fewer (scene_of old) t d wanted left (sym is_label) next.good (ages_of old made.before) (member d is.0 (can 0)).0 (member d is.0 (can 0)).1 is.1);
      }

  take_destage : DestagesLeaveCommands → MakesTurn old event.Destage new → (left.sends ≡ wanted.sends) × (wanted.destages ≡ left.destages + 1) → TakesTurn old wanted Destage new left
  take_destage leave made is =
      let next = next_turn old event.Destage new made in
      let t = next.turn in
      let is_label : label.Destage ≡ t.label = cc in
      let h = (scene_of old).hist in
      let lawful = subst (λ (l : Label). entries_lawful (capacity (scene_of old)) l (begun h l) t.entries ≡ true) (sym is_label) next.good.tasks in
      let came : filter_map arrival_of_entry t.entries ≡ [] =
      none_arrived t.entries (nothing_arrives (capacity (scene_of old)) label.Destage h t.entries (λ x. x) lawful) in
      let one = one_destage t label.Destage is_label in
      let fewer = is.1 in
      record {
        turn = t;
        goes = next.goes;
        label = is_label;
        kind = ap is_of_phase (sym is_label);
        arrivals = λ j. rw (came, is.0) refl;
        destages = omega arith;
        served = subst AreServed (sym is.0) served;
        counted = next.counted;
        fewer = subst (λ (s : Scene). turns_of_phase s left < turns_of_phase (scene_of old) wanted) (sym (scene_next old new t next.goes))
            (destage_fewer (scene_of old) t wanted left (leave (scene_of old) t (sym is_label) next.good) is.0 fewer);
      }

  pub takes_turn : (p : Pick) (e : Event) → DestagesLeaveCommands → CanCome (scene_of old) wanted p → Fetches wanted p e left → MakesTurn old e new → TakesTurn old wanted p new left
  takes_turn (Arrive i) (event.Arrive a) leave can is made = take_arrival i a can made is
  takes_turn (Work c) (event.Work d) leave can is made = take_work c d can made is
  takes_turn Destage event.Destage leave can is made = take_destage leave made is
  takes_turn (Arrive i) (event.Work d) leave can is made = absurd is
  takes_turn (Arrive i) (event.Job d) leave can is made = absurd is
  takes_turn (Arrive i) (event.Any d) leave can is made = absurd is
  takes_turn (Arrive i) event.Scan leave can is made = absurd is
  takes_turn (Arrive i) event.Destage leave can is made = absurd is
  takes_turn (Arrive i) (event.World w) leave can is made = absurd is
  takes_turn (Work c) (event.Arrive a) leave can is made = absurd is
  takes_turn (Work c) (event.Job d) leave can is made = absurd is
  takes_turn (Work c) (event.Any d) leave can is made = absurd is
  takes_turn (Work c) event.Scan leave can is made = absurd is
  takes_turn (Work c) event.Destage leave can is made = absurd is
  takes_turn (Work c) (event.World w) leave can is made = absurd is
  takes_turn Destage (event.Arrive a) leave can is made = absurd is
  takes_turn Destage (event.Work d) leave can is made = absurd is
  takes_turn Destage (event.Job d) leave can is made = absurd is
  takes_turn Destage (event.Any d) leave can is made = absurd is
  takes_turn Destage event.Scan leave can is made = absurd is
  takes_turn Destage (event.World w) leave can is made = absurd is
  takes_turn (Job j) e leave can is made = absurd is
  takes_turn Scan e leave can is made = absurd is
