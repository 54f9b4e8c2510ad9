-- A phase in hand, one turn on and at its end.
use Rattle.std.proofs.Common.{◌≡◌, ◌⊎◌, inl, ◌∙◌, ap, sym, refl, subst, ℕ, ◌%◌, ◌<◌, zero, suc, ◌+◌, Bool, true, false, not, List, [], ◌∷◌, ◌++◌, map, drop, arith, Some, None, Option, cond, length, append_assoc}
use Rattle.std.specs.Prelude.{◌==◌, ◌&&◌, fold, filter, slice_get}
use Rattle.std.specs.List.{list_all}
use Rattle.std.specs.Option.{option_map, is_some}
use Rattle.std.proofs.lemmas.List.{append-nil, drop_at, length-append}
use Rattle.std.proofs.lemmas.List.Elements.{filter-append}
use Rattle.std.proofs.lemmas.List.Sums.{fold-append}
use Rattle.std.proofs.lemmas.Nat.{mod_below}
use Rattle.std.proofs.lemmas.Bool.Decides.{nat_tests}
use Rattle.platter_model.specs.TrueLog.{is_off}
use Rattle.task_set.specs.declared.member.Member.{Member}
use Rattle.block_machine.specs.Attentions.{initiators}
use Rattle.block_machine.proofs.Booleans.{both, and_both}
use Rattle.drive_scene.specs.declared.event.Arrival.{Arrival as Sent}
use Rattle.drive_scene.specs.declared.answer.Waiting.{Waiting}
use Rattle.drive_scene.specs.declared.answer.Pick.{Pick}
use Rattle.drive_scene.specs.declared.answer.Pick.TheVariants.{Arrive, Work, Destage}
use Rattle.drive_scene.specs.Scene.{Scene, Beat}
use Rattle.drive_scene.specs.After.{scene_after}
use Rattle.drive_scene.specs.Run.{Run, scene_of, beats_of}
use Rattle.drive_scene.specs.Holds.{destaged}
use Rattle.drive_scene.specs.Able.{able, able_destage, arrives, is_able, is_spent, picked, pick_of, nothing_waiting, turns_at_most}
use Rattle.drive_scene.specs.Progress.{SomebodyIsAble}
use Rattle.drive_scene.specs.Turning.{label_of_pick}
use Rattle.script_runner.specs.declared.queues.Queued.{Queued}
use Rattle.script_runner.specs.Arrivals.{sends_of, arrived_by, arrived_in}
use Rattle.script_runner.specs.Wanted.{Wanted, AreSame, IsNothing, wanted_of, is_destage, destages_in, left_of}
use Rattle.script_runner.specs.Order.{drawn, number_of, order_after}
use Rattle.script_runner.specs.Phase.{is_of_phase, have_something, waiting_of, InHand, one_turn_on, IsPicked}
use Rattle.script_runner.specs.Phasing.{TakesTurn, Carried}
use Rattle.script_runner.specs.Measure.{turns_of_phase}
use Rattle.drive_scene.proofs.Walking.{able-is, able-quiet}
use Rattle.script_runner.proofs.Unmoved.{flightless}
use Rattle.script_runner.proofs.Beats.{along_more, scene_on}
use Rattle.script_runner.proofs.Picks.{picked_on, not_spent}
use Rattle.script_runner.proofs.Underway.{InPhase}

-- one item more
all_more : {A : Type 0} (p : A → Bool) (xs : List A) (x : A) → list_all p xs ≡ true → p x ≡ true → list_all p (xs ++ x ∷ []) ≡ true
all_more p [] x all last = and_both (p x) true last refl
all_more p (y ∷ ys) x all last = let now = both (p y) (list_all p ys) all in and_both (p y) _ now.0 (all_more p ys x now.1 last)

came_more : (i : ℕ) (own : List Beat) (t : Beat) → arrived_in i (own ++ t ∷ []) ≡ arrived_in i own ++ arrived_by i t.entries
came_more i [] t = append-nil (arrived_by i t.entries)
came_more i (b ∷ own) t = ap (λ (xs : List Sent). arrived_by i b.entries ++ xs) (came_more i own t) ∙ sym (append_assoc (arrived_by i b.entries) (arrived_in i own) (arrived_by i t.entries))

destages_more : (own : List Beat) (t : Beat) → destages_in (own ++ t ∷ []) ≡ destages_in own + destages_in (t ∷ [])
destages_more own t =
    ap length (filter-append (λ (b : Beat). is_destage b.label) own (t ∷ [])) ∙ length-append (filter (λ b. is_destage b.label) own) (filter (λ b. is_destage b.label) (t ∷ []))

in_hand : (s : Scene) (came : List Beat) (order : Option ℕ) (own : List Beat)
    → fold one_turn_on (record { scene = s; came = came; order = order }) own ≡ record { scene = fold scene_after s own; came = came ++ own; order = order_after order own }
in_hand s came order [] = ap (λ (xs : List Beat). let h : InHand = record { scene = s; came = xs; order = order } in h) (sym (append-nil came))
in_hand s came order (t ∷ own) =
    in_hand (scene_after s t) (came ++ t ∷ []) (drawn order) own
    ∙ ap (λ (xs : List Beat). let h : InHand = record { scene = fold scene_after s (t ∷ own); came = xs; order = order_after order (t ∷ own) } in h) (append_assoc came (t ∷ []) own)

left_is : (wanted left : Wanted) (own : List Beat) → ((i : ℕ) → wanted.sends i ≡ arrived_in i own ++ left.sends i) → wanted.destages ≡ destages_in own + left.destages
    → AreSame (left_of wanted own) left
left_is wanted left own arrivals destages = record {
  sends = λ i. ap (drop (length (arrived_in i own))) (arrivals i) ∙ drop_at (arrived_in i own) (left.sends i) (length (arrived_in i own)) refl;
  destages = omega arith;
}

same_map : {A B : Type 0} (f g : A → B) (xs : List A) → ((x : A) → f x ≡ g x) → map f xs ≡ map g xs
same_map {B = B} f g [] same = refl
same_map {B = B} f g (x ∷ xs) same = ap (λ (y : B). y ∷ map f xs) (same x) ∙ ap (λ (ys : List B). g x ∷ ys) (same_map f g xs same)

pub same_waiting : (f g : Wanted) → AreSame f g → waiting_of f ≡ waiting_of g
same_waiting f g same =
    let arrivals : have_something f.sends ≡ have_something g.sends =
    same_map (λ i. not (length (f.sends i) == 0)) (λ i. not (length (g.sends i) == 0)) initiators (λ i. ap (λ (xs : List Sent). not (length xs == 0)) (same.sends i)) in
    λ i. let w : Waiting = record { arrivals = arrivals i; scans = false; destages = not (same.destages i == 0) } in w

-- the turn that was picked is the one that the order gives
is_picked : (old now : Run) (order so_far : Option ℕ) (wanted left : Wanted) (p : Pick) (t : Beat) (phase : InPhase old order wanted now so_far left)
    → picked (scene_of now) (waiting_of left) (number_of (drawn so_far)) ≡ Some p → label_of_pick p ≡ t.label
    → IsPicked wanted (fold one_turn_on (record { scene = scene_of old; came = []; order = order }) phase.own) t
is_picked old now order so_far wanted left p t phase is label =
    let hand = in_hand (scene_of old) [] order phase.own in
    let scene : scene_of now ≡ fold scene_after (scene_of old) phase.own = scene_on old now phase.own phase.beats phase.made in
    let here : option_map label_of_pick (picked (scene_of now) (waiting_of left) (number_of (drawn so_far))) ≡ Some t.label = rw is (ap Some label) in
    subst (λ (h : InHand). IsPicked wanted h t) (sym hand)
    (subst (λ (x : Option ℕ). option_map label_of_pick (picked (fold scene_after (scene_of old) phase.own) (waiting_of (left_of wanted phase.own)) (number_of (drawn x))) ≡ Some t.label) phase.drawn_once_a_turn
    (subst (λ (w : Waiting). option_map label_of_pick (picked (fold scene_after (scene_of old) phase.own) w (number_of (drawn so_far))) ≡ Some t.label)
    (sym (same_waiting (left_of wanted phase.own) left (left_is wanted left phase.own phase.arrivals phase.destages)))
    (subst (λ (s : Scene). option_map label_of_pick (picked s (waiting_of left) (number_of (drawn so_far))) ≡ Some t.label) scene here)))

pub phase_on : (old now new : Run) (order so_far next : Option ℕ) (wanted left after : Wanted) (p : Pick) → InPhase old order wanted now so_far left
    → pick_of now (waiting_of left) (number_of (drawn so_far)) ≡ Some p → TakesTurn now left p new after → next ≡ drawn so_far → InPhase old order wanted new next after
phase_on old now new order so_far next wanted left after p phase is turn is_next =
    let few = phase.few in
    let fewer = turn.fewer in
    let counted = turn.counted in
    let so_many = phase.destages in
    let one = turn.destages in
    let more = destages_more phase.own turn.turn in
    record {
      own = phase.own ++ turn.turn ∷ [];
      beats = turn.goes.beats ∙ ap (λ (bs : List Beat). bs ++ turn.turn ∷ []) phase.beats ∙ append_assoc (beats_of old) phase.own (turn.turn ∷ []);
      made = turn.goes.made ∙ phase.made;
      kinds = all_more (λ (t : Beat). is_of_phase t.label) phase.own turn.turn phase.kinds turn.kind;
      arrivals = λ i. phase.arrivals i ∙ ap (λ (xs : List Sent). arrived_in i phase.own ++ xs) (turn.arrivals i)
          ∙ sym (append_assoc (arrived_in i phase.own) (arrived_by i turn.turn.entries) (after.sends i)) ∙ ap (λ (xs : List Sent). xs ++ after.sends i) (sym (came_more i phase.own turn.turn));
      destages = omega arith;
      by_rule = along_more one_turn_on (IsPicked wanted) (record { scene = scene_of old; came = []; order = order }) phase.own turn.turn phase.by_rule
          (is_picked old now order so_far wanted left p turn.turn phase (picked_on now (waiting_of left) (number_of (drawn so_far)) p is).1 turn.label);
      drawn_once_a_turn = is_next ∙ ap drawn phase.drawn_once_a_turn ∙ sym (fold-append (λ (x : Option ℕ) (t : Beat). drawn x) order phase.own (turn.turn ∷ []));
      served = turn.served;
      few = omega arith;
    }

-- nothing is able where nothing is picked
got : {A : Type 0} (xs : List A) (k : ℕ) → k < length xs → slice_get xs k ≡ None → ⊥
got [] k lt e = omega arith
got (x ∷ xs) zero lt e = cc
got (x ∷ xs) (suc k) lt e = got xs k (omega arith) e

none_able : {A : Type 0} (xs : List A) (n : ℕ) → slice_get xs (n % length xs) ≡ None → xs ≡ []
none_able [] n e = refl
none_able (x ∷ xs) n e = absurd (got (x ∷ xs) (n % length (x ∷ xs)) (mod_below n (length (x ∷ xs)) (omega arith)) e)

both_empty : {A : Type 0} (xs ys : List A) → xs ++ ys ≡ [] → (xs ≡ []) × (ys ≡ [])
both_empty [] ys e = (refl, e)
both_empty (x ∷ xs) ys e = absurd (cc)

map_empty : {A B : Type 0} (f : A → B) (xs : List A) → map f xs ≡ [] → xs ≡ []
map_empty f [] e = refl
map_empty f (x ∷ xs) e = absurd (cc)

none_passes : {A : Type 0} (p : A → Bool) (x : A) (xs : List A) → filter p (x ∷ xs) ≡ [] → (p x ≡ false) × (filter p xs ≡ [])
none_passes p x xs = go (p x)
  where
    go : (b : Bool) → cond b (x ∷ filter p xs) (filter p xs) ≡ [] → (b ≡ false) × (filter p xs ≡ [])
    go true e = absurd (cc)
    go false e = (refl, e)

nothing : (xs : List Sent) → not (length xs == 0) ≡ false → xs ≡ []
nothing [] e = refl
nothing (x ∷ xs) e = absurd (grind (arith, nat_tests))

at_each : (a b c d e f g h : List Sent) (i : ℕ) → a ≡ [] → b ≡ [] → c ≡ [] → d ≡ [] → e ≡ [] → f ≡ [] → g ≡ [] → h ≡ [] → sends_of (a ∷ b ∷ c ∷ d ∷ e ∷ f ∷ g ∷ h ∷ []) i ≡ []
at_each a b c d e f g h zero pa pb pc pd pe pf pg ph = refl
at_each a b c d e f g h (suc zero) pa pb pc pd pe pf pg ph = pa
at_each a b c d e f g h (suc (suc zero)) pa pb pc pd pe pf pg ph = pb
at_each a b c d e f g h (suc (suc (suc zero))) pa pb pc pd pe pf pg ph = pc
at_each a b c d e f g h (suc (suc (suc (suc zero)))) pa pb pc pd pe pf pg ph = pd
at_each a b c d e f g h (suc (suc (suc (suc (suc zero))))) pa pb pc pd pe pf pg ph = pe
at_each a b c d e f g h (suc (suc (suc (suc (suc (suc zero)))))) pa pb pc pd pe pf pg ph = pf
at_each a b c d e f g h (suc (suc (suc (suc (suc (suc (suc zero))))))) pa pb pc pd pe pf pg ph = pg
at_each a b c d e f g h (suc (suc (suc (suc (suc (suc (suc (suc zero)))))))) pa pb pc pd pe pf pg ph = ph
at_each a b c d e f g h (suc (suc (suc (suc (suc (suc (suc (suc (suc i))))))))) pa pb pc pd pe pf pg ph = refl

-- no initiator has anything to send
all_sent : (queues : List (List Sent)) (destages : ℕ) → length queues ≡ 8 → filter (arrives (waiting_of (record { sends = sends_of queues; destages = destages }))) initiators ≡ [] → (i : ℕ) → sends_of queues i ≡ []
all_sent (a ∷ b ∷ c ∷ d ∷ e ∷ f ∷ g ∷ h ∷ []) destages eight none i =
    let arrived = arrives (waiting_of (record { sends = sends_of (a ∷ b ∷ c ∷ d ∷ e ∷ f ∷ g ∷ h ∷ []); destages = destages })) in
    let one = none_passes arrived 1 (2 ∷ 3 ∷ 4 ∷ 5 ∷ 6 ∷ 7 ∷ 8 ∷ []) none in
    let two = none_passes arrived 2 (3 ∷ 4 ∷ 5 ∷ 6 ∷ 7 ∷ 8 ∷ []) one.1 in
    let three = none_passes arrived 3 (4 ∷ 5 ∷ 6 ∷ 7 ∷ 8 ∷ []) two.1 in
    let four = none_passes arrived 4 (5 ∷ 6 ∷ 7 ∷ 8 ∷ []) three.1 in
    let five = none_passes arrived 5 (6 ∷ 7 ∷ 8 ∷ []) four.1 in
    let six = none_passes arrived 6 (7 ∷ 8 ∷ []) five.1 in
    let seven = none_passes arrived 7 (8 ∷ []) six.1 in
    let last = none_passes arrived 8 [] seven.1 in
    at_each a b c d e f g h i (nothing a one.0) (nothing b two.0) (nothing c three.0) (nothing d four.0) (nothing e five.0) (nothing f six.0) (nothing g seven.0) (nothing h last.0)
all_sent queues destages eight none i = absurd (omega arith)

-- where no destage comes though some are asked for, no block can be destaged
none_destaged : (asked : ℕ) (b : Option ℕ) → cond (not (asked == 0) && is_some b) (Destage ∷ []) [] ≡ [] → 0 < asked → b ≡ None
none_destaged asked None none some = refl
none_destaged asked (Some b) none some = go (not (asked == 0)) refl none
  where
    go : (t : Bool) → not (asked == 0) ≡ t → cond (t && true) (Destage ∷ []) [] ≡ [] → Some b ≡ None
    go true is e = absurd (cc)
    go false is e = absurd (grind (arith, nat_tests, is, some))

-- the arrivals, the commands and the destage that may come, where nothing may
module _ (s : Scene) (w : Waiting) (none : s.back.flights ≡ []) (unable : able s w ≡ []) where
  abbrev commands : List Pick
  commands = map (λ (m : Member). Work m.task.c) (filter (is_able s) s.hist.set)

  unable_all : map Arrive (filter (arrives w) initiators) ++ (commands ++ able_destage s w) ≡ []
  unable_all = sym (able-is s w none) ∙ unable

  no_arrivals : filter (arrives w) initiators ≡ []
  no_arrivals = map_empty Arrive (filter (arrives w) initiators) (both_empty (map Arrive (filter (arrives w) initiators)) (commands ++ able_destage s w) unable_all).0

  no_others : (commands ≡ []) × (able_destage s w ≡ [])
  no_others = both_empty commands (able_destage s w) (both_empty (map Arrive (filter (arrives w) initiators)) (commands ++ able_destage s w) unable_all).1

  -- so nothing may come where nothing waits
  able_alone : able s nothing_waiting ≡ []
  able_alone = able-quiet s nothing_waiting none refl ∙ no_others.0

-- no command is in where nobody is able
none_in : (s : Scene) → SomebodyIsAble s → able s nothing_waiting ≡ [] → s.hist.set ≡ []
none_in s progress unable = go s.hist.set progress
  where
    go : (set : List Member) → ((0 < length set) ⊎ (0 < length s.back.flights) → 0 < length (able s nothing_waiting)) → set ≡ []
    go [] some = refl
    go (m ∷ ms) some = let lt = some (inl (omega arith)) in let none = ap length unable in absurd (omega arith)

-- turns are left in a phase for which there was room
pub not_spent_in : (old now : Run) (order so_far : Option ℕ) (wanted left : Wanted) → InPhase old order wanted now so_far left → length old.turns + turns_of_phase (scene_of old) wanted < turns_at_most → is_spent now ≡ false
not_spent_in old now order so_far wanted left phase room = let few = phase.few in not_spent now (omega arith)

pub phase_done : (old now : Run) (order so_far : Option ℕ) (wanted : Wanted) (queued : Queued) (x : ℕ) → InPhase old order wanted now so_far (wanted_of queued) → length queued.queues ≡ 8
    → is_off now.ops ≡ false → length old.turns + turns_of_phase (scene_of old) wanted < turns_at_most → pick_of now (waiting_of (wanted_of queued)) x ≡ None → SomebodyIsAble (scene_of now)
    → Carried old order wanted now so_far × IsNothing (wanted_of (record queued { destages = 0 }))
phase_done old now order so_far wanted queued x phase eight on room none progress =
    let left = wanted_of queued in
    let w = waiting_of left in
    let s = scene_of now in
    let unspent = not_spent_in old now order so_far wanted left phase room in
    let unpicked : picked s w x ≡ None = (let h : pick_of now w x ≡ picked s w x = rw (on, unspent) refl in sym h ∙ none) in
    let unable = none_able (able s w) x unpicked in
    let sent = all_sent queued.queues queued.destages eight (no_arrivals s w (flightless now) unable) in
    let empty = none_in s progress (able_alone s w (flightless now) unable) in
    let scene = scene_on old now phase.own phase.beats phase.made in
    let few = phase.few in
    let so_many = phase.destages in (
      record {
        own = phase.own;
        beats = phase.beats;
        made = phase.made;
        phase = record {
          phase = record {
            kinds = phase.kinds;
            arrivals = λ i. sym (phase.arrivals i ∙ ap (λ (xs : List Sent). arrived_in i phase.own ++ xs) (sent i) ∙ append-nil (arrived_in i phase.own));
            destages = omega arith;
            none_left = λ fewer. subst (λ (k : Scene). destaged k ≡ None) scene (none_destaged queued.destages (destaged s) (no_others s w (flightless now) unable).1 (omega arith));
            idle = subst (λ (k : Scene). k.hist.set ≡ []) scene empty;
          };
          by_rule = phase.by_rule;
        };
        drawn_once_a_turn = phase.drawn_once_a_turn;
        few = omega arith;
        idle = empty;
      },
      record { sends = sent; destages = refl },
    )
