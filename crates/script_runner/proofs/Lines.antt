-- What each line of a script does, and the lines one after another.
use Rattle.std.proofs.Common.{◌≡◌, ◌∙◌, ap, sym, refl, subst, ℕ, ◌+◌, ◌-◌, ◌<◌, ◌≤◌, ◌⊎◌, inl, inr, zero, suc, List, [], ◌∷◌, ◌++◌, drop, arith, Some, Option, length, append_assoc, get_or}
use Rattle.std.specs.Prelude.{◌==◌, fold, filter_map, sum_by, OnOk, Result, Ok, Err}
use Rattle.std.proofs.lemmas.List.{append-nil, drop_more, drop_all}
use Rattle.std.proofs.lemmas.List.Elements.{filter-append, filter_map-append}
use Rattle.std.proofs.lemmas.List.Sums.{sum_by-cons, sum_by-append}
use Rattle.std.proofs.lemmas.Bool.{cases_eq}
use Rattle.disk_base.specs.Along.{Along}
use Rattle.geometry_map.specs.Size.{capacity_of}
use Rattle.platter_model.specs.declared.world.World.{World as Outside}
use Rattle.script_text.specs.declared.script.Line.{Line}
use Rattle.script_text.specs.declared.script.Line.TheVariants.{Command, Function, Destage, Go, World}
use Rattle.drive_scene.specs.declared.event.Arrival.{Arrival as Sent}
use Rattle.drive_scene.specs.declared.event.Arrival.TheVariants as arrival
use Rattle.drive_scene.specs.Scene.{Scene, Beat, capacity, scene_at_start}
use Rattle.drive_scene.specs.After.{scene_after}
use Rattle.drive_scene.specs.declared.made.Made.{Made}
use Rattle.drive_scene.specs.Run.{Run, scene_of, beats_of}
use Rattle.drive_scene.specs.declared.answer.Waiting.{Waiting}
use Rattle.drive_scene.specs.Able.{picked}
use Rattle.drive_scene.specs.Turning.{initiator_of, label_of_pick}
use Rattle.std.specs.Option.{option_map}
use Rattle.script_runner.specs.Each.{Each}
use Rattle.script_runner.specs.declared.queues.Queued.{Queued}
use Rattle.script_runner.specs.Arrivals.{sends_of, Added, lines_of, sent_by, arrival_of_line, arrived_in}
use Rattle.script_runner.specs.Wanted.{Wanted, AreSame, IsNothing, wanted_of, wanted_by, destages_of, destages_in, left_of}
use Rattle.script_runner.specs.Order.{drawn, number_of, order_after}
use Rattle.script_runner.specs.Phase.{InHand, one_turn_on, IsPicked, ByOrder}
use Rattle.script_runner.specs.CarriedOut.{CarriesPhase, CarryOut}
use Rattle.script_runner.specs.Measure.{turns_left, turns_of_arrival, turns_of_line, turns_of_lines, turns_to_send, turns_wanted, turns_of_phase, sum_upto}
use Rattle.script_runner.specs.Phasing.{IsToSend, Carried, Happens}
use Rattle.script_runner.specs.Leading.{IsAtRest, TakesLine, CarriesOut}
use Rattle.script_runner.proofs.Places.{put_same, put_other}
use Rattle.script_runner.proofs.Each.{each_append}
use Rattle.script_runner.proofs.Beats.{scene_on, scene_next}
use Rattle.script_runner.proofs.Lowering.{turns_is}
use Rattle.script_runner.proofs.Phases.{same_waiting}
use Rattle.script_runner.proofs.Taking.{part_own, part_other}
use Rattle.script_runner.proofs.Underway.{InScript}

-- a drive's blocks
same_blocks : (s : Scene) (turns : List Beat) → capacity (fold scene_after s turns) ≡ capacity s
same_blocks s [] = refl
same_blocks s (t ∷ turns) = same_blocks (scene_after s t) turns

pub blocks_of : (r : Run) → capacity (scene_of r) ≡ capacity_of r.made.size
blocks_of r = same_blocks (scene_at_start r.made) (beats_of r)

-- no command is in: none has turns left
no_turns : (s : Scene) (c : ℕ) → s.hist.set ≡ [] → turns_left s c ≡ 0
no_turns s c empty = turns_is s c ∙ (rw empty refl)

sum_zero : (f : ℕ → ℕ) (n : ℕ) → ((j : ℕ) → f j ≡ 0) → sum_upto f n ≡ 0
sum_zero f zero none = refl
sum_zero f (suc n) none = let here = none (suc n) in let rest = sum_zero f n none in omega arith

pub phase_of_rest : (r : Run) (wanted : Wanted) → (scene_of r).hist.set ≡ [] → turns_of_phase (scene_of r) wanted ≡ turns_wanted (capacity_of r.made.size) wanted
phase_of_rest r wanted empty =
    let blocks : turns_wanted (capacity (scene_of r)) wanted ≡ turns_wanted (capacity_of r.made.size) wanted = ap (λ (n : ℕ). turns_wanted n wanted) (blocks_of r) in
    let none = sum_zero (turns_left (scene_of r)) (scene_of r).hist.arrived (λ j. no_turns (scene_of r) j empty) in
    omega arith

-- one sum is at most so much above another
sum_more : (f g : ℕ → ℕ) (n c more : ℕ) → f c ≤ g c + more → ((j : ℕ) → (j ≡ c → ⊥) → f j ≡ g j) → sum_upto f n ≤ sum_upto g n + more
sum_more f g zero c more le same = omega arith
sum_more f g (suc n) c more le same = go (sum_more f g n c more le same) (cases_eq (suc n) c)
  where
    below : (k : ℕ) → k < c → sum_upto f k ≡ sum_upto g k
    below zero lt = refl
    below (suc k) lt = let here = same (suc k) (λ e. omega arith) in let rest = below k (omega arith) in omega arith

    go : sum_upto f n ≤ sum_upto g n + more → ((suc n) ≡ c) ⊎ ((suc n) ≡ c → ⊥) → sum_upto f n + f (suc n) ≤ sum_upto g n + g (suc n) + more
    go rest (inl e) =
        let here : f (suc n) ≤ g (suc n) + more = subst (λ (k : ℕ). f k ≤ g k + more) (sym e) le in
        let before : sum_upto f n ≡ sum_upto g n = below n (omega arith) in
        omega arith
    go rest (inr ne) = let here = same (suc n) ne in omega arith

-- what lines send, with one line more
lines_more : (waiting : List Line) (line : Line) (i : ℕ) → lines_of (waiting ++ line ∷ []) i ≡ lines_of waiting i ++ sent_by i (filter_map arrival_of_line (line ∷ []))
lines_more waiting line i = ap (sent_by i) (filter_map-append arrival_of_line waiting (line ∷ [])) ∙ filter-append (λ a. initiator_of a == i) (filter_map arrival_of_line waiting) (filter_map arrival_of_line (line ∷ []))

-- the same phase where the same is wanted
same_order : (f g : Wanted) → AreSame f g → (h : InHand) (own : List Beat) → Along one_turn_on (IsPicked f) h own → Along one_turn_on (IsPicked g) h own
same_order f g same h [] all = tt
same_order f g same h (t ∷ own) all =
    let left : AreSame (left_of f h.came) (left_of g h.came) =
    record { sends = λ i. ap (drop (length (arrived_in i h.came))) (same.sends i); destages = ap (λ n. n - destages_in h.came) same.destages } in
    let w = same_waiting (left_of f h.came) (left_of g h.came) left in
    (subst (λ (v : Waiting). option_map label_of_pick (picked h.scene v (number_of (drawn h.order))) ≡ Some t.label) w all.0, same_order f g same (one_turn_on h t) own all.1)

same_phase : (f g : Wanted) (order : Option ℕ) (s : Scene) (own : List Beat) → AreSame f g → CarriesPhase ByOrder order s f own → CarriesPhase ByOrder order s g own
same_phase f g order s own same carried =
    let most = carried.phase.destages in
    let asked = same.destages in
    record {
      phase = record {
        kinds = carried.phase.kinds;
        arrivals = λ i. carried.phase.arrivals i ∙ same.sends i;
        destages = omega arith;
        none_left = λ fewer. carried.phase.none_left (omega arith);
        idle = carried.phase.idle;
      };
      by_rule = same_order f g same (record { scene = s; came = []; order = order }) own carried.by_rule;
    }

-- the line by which something is to be sent
abbrev pub line_of : Sent → Line
line_of (arrival.Command x) = Command x.initiator x.tag x.attribute x.cdb x.sent
line_of (arrival.Function i what) = Function i what

sent_by_line : (a : Sent) → filter_map arrival_of_line (line_of a ∷ []) ≡ a ∷ []
sent_by_line (arrival.Command x) = refl
sent_by_line (arrival.Function i what) = refl

no_destages : (a : Sent) → sum_by destages_of (line_of a ∷ []) ≡ 0
no_destages (arrival.Command x) = refl
no_destages (arrival.Function i what) = refl

turns_of_sent : (blocks : ℕ) (a : Sent) → turns_of_line blocks (line_of a) ≡ turns_of_arrival blocks a
turns_of_sent blocks (arrival.Command x) = refl
turns_of_sent blocks (arrival.Function i what) = refl

-- such a line waits
waits_too : (order : Option ℕ) (s : Scene) (waiting rest : List Line) (turns : List Beat) (a : Sent)
    → CarryOut ByOrder order s (waiting ++ line_of a ∷ []) rest turns → CarryOut ByOrder order s waiting (line_of a ∷ rest) turns
waits_too order s waiting rest turns (arrival.Command x) co = co
waits_too order s waiting rest turns (arrival.Function i what) co = co

pub line_sent : (r : Run) (order : Option ℕ) (old : Queued) (new : List (List Sent)) (i : ℕ) (it : Sent) → IsAtRest r (wanted_of old) → IsToSend i it → Added old.queues new i it
    → TakesLine r order (wanted_of old) (line_of it) r order (wanted_of (record old { queues = new }))
line_sent r order old new i it at_rest served added = record {
  at_rest = record { idle = at_rest.idle; served = λ j. now_served j (cases_eq j i) };
  few =
      (let blocks = capacity_of r.made.size in
      let one = turns_of_sent blocks it in
      let more : turns_to_send blocks (sends_of new) ≤ turns_to_send blocks (sends_of old.queues) + turns_of_arrival blocks it =
      sum_more (λ n. sum_by (turns_of_arrival blocks) (sends_of new n)) (λ n. sum_by (turns_of_arrival blocks) (sends_of old.queues n)) 8 i (turns_of_arrival blocks it)
      (let here : sum_by (turns_of_arrival blocks) (sends_of new i) ≡ sum_by (turns_of_arrival blocks) (sends_of old.queues i) + (0 + turns_of_arrival blocks it) =
      ap (sum_by (turns_of_arrival blocks)) (own i refl) ∙ sum_by-append (turns_of_arrival blocks) (sends_of old.queues i) (it ∷ []) in omega arith)
      (λ j ne. ap (sum_by (turns_of_arrival blocks)) (other j ne)) in
      omega arith);
  leads = λ waiting waits. (
    waiting ++ line_of it ∷ [],
    (let none = no_destages it in
        let more = sum_by-append destages_of waiting (line_of it ∷ []) in
        let asked = waits.destages in
        record { sends = λ j. waits_on waiting waits.sends j (cases_eq j i); destages = omega arith }),
    λ rest. record { own = []; beats = sym (append-nil (beats_of r)); made = refl; completes = λ turns co. waits_too order (scene_of r) waiting rest turns it co },
  );
}
  where
    own : (j : ℕ) → j ≡ i → sends_of new j ≡ sends_of old.queues i ++ it ∷ []
    own j e = added j ∙ put_same i j (sends_of old.queues i ++ it ∷ []) (sends_of old.queues) e

    other : (j : ℕ) → (j ≡ i → ⊥) → sends_of new j ≡ sends_of old.queues j
    other j ne = added j ∙ put_other i j (sends_of old.queues i ++ it ∷ []) (sends_of old.queues) ne

    now_served : (j : ℕ) → (j ≡ i) ⊎ (j ≡ i → ⊥) → Each (IsToSend j) (sends_of new j)
    now_served j (inl e) = subst (λ (k : ℕ). Each (IsToSend k) (sends_of new k)) (sym e)
        (subst (Each (IsToSend i)) (sym (own i refl)) (each_append (IsToSend i) (sends_of old.queues i) (it ∷ []) (at_rest.served i) (served, tt)))
    now_served j (inr ne) = subst (Each (IsToSend j)) (sym (other j ne)) (at_rest.served j)

    waits_on : (waiting : List Line) → ((k : ℕ) → sends_of old.queues k ≡ lines_of waiting k) → (j : ℕ) → (j ≡ i) ⊎ (j ≡ i → ⊥) → sends_of new j ≡ lines_of (waiting ++ line_of it ∷ []) j
    waits_on waiting waits j (inl e) = subst (λ (k : ℕ). sends_of new k ≡ lines_of (waiting ++ line_of it ∷ []) k) (sym e)
        (own i refl ∙ ap (λ (xs : List Sent). xs ++ it ∷ []) (waits i)
        ∙ ap (λ (ys : List Sent). lines_of waiting i ++ ys) (sym (ap (sent_by i) (sent_by_line it) ∙ part_own it i served.sender)) ∙ sym (lines_more waiting (line_of it) i))
    waits_on waiting waits j (inr ne) = other j ne ∙ waits j ∙ sym (append-nil (lines_of waiting j))
        ∙ ap (λ (ys : List Sent). lines_of waiting j ++ ys) (sym (ap (sent_by j) (sent_by_line it) ∙ part_other it j (λ h. ne (sym h ∙ served.sender)))) ∙ sym (lines_more waiting (line_of it) j)

-- a line asks for destages
pub line_destage : (r : Run) (order : Option ℕ) (old : Queued) (count : ℕ) → IsAtRest r (wanted_of old)
    → TakesLine r order (wanted_of old) (Destage count) r order (wanted_of (record old { destages = old.destages + count }))
line_destage r order old count at_rest = record {
  at_rest = record { idle = at_rest.idle; served = at_rest.served };
  few = omega arith;
  leads = λ waiting waits. (
    waiting ++ Destage count ∷ [],
    (let more = sum_by-append destages_of waiting (Destage count ∷ []) in
        let asked = waits.destages in
        record { sends = λ j. waits.sends j ∙ sym (append-nil (lines_of waiting j)) ∙ sym (lines_more waiting (Destage count) j); destages = omega arith }),
    λ rest. record { own = []; beats = sym (append-nil (beats_of r)); made = refl; completes = λ turns co. co },
  );
}

none_wanted : (blocks : ℕ) (left : Wanted) → IsNothing left → turns_wanted blocks left ≡ 0
none_wanted blocks left empty =
    let none = sum_zero (λ i. sum_by (turns_of_arrival blocks) (left.sends i)) 8 (λ i. ap (sum_by (turns_of_arrival blocks)) (empty.sends i)) in
    let no_destages = empty.destages in
    omega arith

-- what waits is carried out
pub line_go : (old new : Run) (order next : Option ℕ) (wanted left : Wanted) → IsAtRest old wanted → Carried old order wanted new next → IsNothing left → TakesLine old order wanted Go new next left
line_go old new order next wanted left at_rest carried empty =
    let rest_turns = phase_of_rest old wanted at_rest.idle in
    let few = carried.few in
    let none = none_wanted (capacity_of new.made.size) left empty in
    record {
      at_rest = record { idle = carried.idle; served = λ i. subst (Each (IsToSend i)) (sym (empty.sends i)) tt };
      few = omega arith;
      leads = λ waiting waits. (
        [],
        record { sends = empty.sends; destages = empty.destages },
        λ rest. record {
          own = carried.own;
          beats = carried.beats;
          made = carried.made;
          completes = λ turns co. (
            carried.own,
            turns,
            refl,
            same_phase wanted (wanted_by waiting) order (scene_of old) carried.own waits carried.phase,
            subst (λ (s : Scene). CarryOut ByOrder (order_after order carried.own) s [] rest turns) (scene_on old new carried.own carried.beats carried.made)
                (subst (λ (x : Option ℕ). CarryOut ByOrder x (scene_of new) [] rest turns) carried.drawn_once_a_turn co),
          );
        },
      );
    }

-- something happens from outside
pub line_world : (old new : Run) (order : Option ℕ) (wanted : Wanted) (w : Outside) → IsAtRest old wanted → Happens old w new → TakesLine old order wanted (World w) new order wanted
line_world old new order wanted w at_rest happens =
    let counted = happens.counted in
    let same : turns_wanted (capacity_of new.made.size) wanted ≡ turns_wanted (capacity_of old.made.size) wanted = ap (λ (m : Made). turns_wanted (capacity_of m.size) wanted) happens.goes.made in
    record {
      at_rest = record { idle = happens.idle at_rest.idle; served = at_rest.served };
      few = omega arith;
      leads = λ waiting waits. (
        waiting,
        waits,
        λ rest. record {
          own = happens.turn ∷ [];
          beats = happens.goes.beats;
          made = happens.goes.made;
          completes = λ turns co. (
            happens.turn,
            turns,
            refl,
            happens.label,
            subst (λ (s : Scene). CarryOut ByOrder order s waiting rest turns) (scene_next old new happens.turn happens.goes) co,
          );
        },
      );
    }

-- one line more of a script
pub script_on : (start now new : Run) (order so_far next : Option ℕ) (lines rest : List Line) (line : Line) (wanted left : Wanted) → InScript start order lines (line ∷ rest) now so_far wanted
    → TakesLine now so_far wanted line new next left → InScript start order lines rest new next left
script_on start now new order so_far next lines rest line wanted left it takes =
    let step = takes.leads it.waiting it.waits in
    let leads = step.2 rest in
    let before = it.leads in
    let few = takes.few in
    let was = it.few in
    let same : turns_of_lines (capacity_of new.made.size) rest ≡ turns_of_lines (capacity_of now.made.size) rest = ap (λ (m : Made). turns_of_lines (capacity_of m.size) rest) leads.made in
    let cons : turns_of_lines (capacity_of now.made.size) (line ∷ rest) ≡ turns_of_line (capacity_of now.made.size) line + turns_of_lines (capacity_of now.made.size) rest =
    sum_by-cons (turns_of_line (capacity_of now.made.size)) line rest in
    record {
      waiting = step.0;
      waits = step.1;
      at_rest = takes.at_rest;
      leads = record {
        own = before.own ++ leads.own;
        beats = leads.beats ∙ ap (λ (bs : List Beat). bs ++ leads.own) before.beats ∙ append_assoc (beats_of start) before.own leads.own;
        made = leads.made ∙ before.made;
        completes = λ turns co. subst (CarryOut ByOrder order (scene_of start) [] lines) (sym (append_assoc before.own leads.own turns)) (before.completes (leads.own ++ turns) (leads.completes turns co));
      };
      few = omega arith;
    }

-- before the first line
pub script_begins : (start : Run) (order : Option ℕ) (lines : List Line) (wanted : Wanted) → (scene_of start).hist.set ≡ [] → IsNothing wanted → InScript start order lines lines start order wanted
script_begins start order lines wanted idle empty =
    let none = none_wanted (capacity_of start.made.size) wanted empty in
    record {
      waiting = [];
      waits = record { sends = empty.sends; destages = empty.destages };
      at_rest = record { idle = idle; served = λ i. subst (Each (IsToSend i)) (sym (empty.sends i)) tt };
      leads = record { own = []; beats = sym (append-nil (beats_of start)); made = refl; completes = λ turns co. co };
      few = omega arith;
    }

-- behind the last
pub script_done : (start now new : Run) (order so_far next : Option ℕ) (lines : List Line) (wanted : Wanted) → InScript start order lines [] now so_far wanted → Carried now so_far wanted new next
    → CarriesOut start order lines new
script_done start now new order so_far next lines wanted it carried =
    let before = it.leads in
    let was = it.few in
    let few = carried.few in
    let turns = phase_of_rest now wanted it.at_rest.idle in
    record {
      own = before.own ++ carried.own;
      beats = carried.beats ∙ ap (λ (bs : List Beat). bs ++ carried.own) before.beats ∙ append_assoc (beats_of start) before.own carried.own;
      made = carried.made ∙ before.made;
      few = omega arith;
      carried = before.completes carried.own (same_phase wanted (wanted_by it.waiting) so_far (scene_of now) carried.own it.waits carried.phase);
    }

pub on_ok_both : {T E A B C : Type 0} (r : Result T E) → OnOk r A → OnOk r B → (A → B → C) → OnOk r C
on_ok_both (Ok x) a b f = f a b
on_ok_both (Err e) a b f = tt

-- there is room for the turns of one line more, and of the last phase
pub room_for : (start now : Run) (order so_far : Option ℕ) (lines rest : List Line) (line : Line) (wanted : Wanted) (most : ℕ) → InScript start order lines (line ∷ rest) now so_far wanted
    → length start.turns + turns_of_lines (capacity_of start.made.size) lines < most
    → length now.turns + turns_wanted (capacity_of now.made.size) wanted + turns_of_line (capacity_of now.made.size) line < most
room_for start now order so_far lines rest line wanted most it room =
    let few = it.few in
    let cons : turns_of_lines (capacity_of now.made.size) (line ∷ rest) ≡ turns_of_line (capacity_of now.made.size) line + turns_of_lines (capacity_of now.made.size) rest =
    sum_by-cons (turns_of_line (capacity_of now.made.size)) line rest in
    omega arith

pub room_at_end : (start now : Run) (order so_far : Option ℕ) (lines : List Line) (wanted : Wanted) (most : ℕ) → InScript start order lines [] now so_far wanted → length start.turns + turns_of_lines (capacity_of start.made.size) lines < most
    → length now.turns + turns_of_phase (scene_of now) wanted < most
room_at_end start now order so_far lines wanted most it room =
    let few = it.few in
    let turns = phase_of_rest now wanted it.at_rest.idle in
    omega arith

-- the lines from a place on
pub from_place : (start now : Run) (order so_far : Option ℕ) (lines : List Line) (k : ℕ) (line : Line) (wanted : Wanted) → k < length lines → line ≡ get_or lines k line → InScript start order lines (drop k lines) now so_far wanted
    → InScript start order lines (line ∷ drop (k + 1) lines) now so_far wanted
from_place start now order so_far lines k line wanted lt is it =
    subst (λ (rest : List Line). InScript start order lines rest now so_far wanted) (drop_more lines k line lt ∙ ap (λ (x : Line). x ∷ drop (k + 1) lines) (sym is)) it

pub at_end : (start now : Run) (order so_far : Option ℕ) (lines : List Line) (k : ℕ) (wanted : Wanted) → length lines ≤ k → InScript start order lines (drop k lines) now so_far wanted → InScript start order lines [] now so_far wanted
at_end start now order so_far lines k wanted le it = subst (λ (rest : List Line). InScript start order lines rest now so_far wanted) (drop_all k lines le) it
