-- An arrival takes off the turns that are left: a command that comes is to be sent no more, and has fewer to come; and of those
-- that a function ends none are to come.
use Rattle.std.proofs.Common.{◌≡◌, ◌≢◌, ◌∙◌, ap, sym, refl, subst, ℕ, ◌+◌, ◌-◌, ◌*◌, ◌<◌, ◌≤◌, ◌⊎◌, inl, inr, suc, Bool, true, false, List, [], ◌∷◌, arith, Some, None, Option, cond, length, eqb-true, add-one}
use Rattle.std.specs.Prelude.{◌==◌, sum_by, slice_index, fold}
use Rattle.std.proofs.lemmas.Bool.{cases_eq, ne_eqb}
use Rattle.std.proofs.lemmas.List.Sums.{sum_by-cons}
use Rattle.disk_base.specs.At.{put_at}
use Rattle.disk_base.specs.declared.address.Tag.{Tag}
use Rattle.disk_base.specs.declared.command.Attribute.{Attribute}
use Rattle.disk_base.specs.declared.command.DataOut.{DataOut}
use Rattle.disk_base.specs.declared.command.Function.{Function as Asking}
use Rattle.platter_model.specs.declared.op.Op.{Op}
use Rattle.sense_data.specs.declared.reply.Reply.{Reply}
use Rattle.task_set.specs.declared.member.Member.{Member}
use Rattle.task_set.specs.declared.task.Task.{Task}
use Rattle.task_set.specs.Members.{member_of, with_arrived, without}
use Rattle.cdb_reader.specs.Read.{read_of}
use Rattle.block_machine.specs.declared.entry.Entry.{Entry}
use Rattle.block_machine.specs.declared.entry.Entry.TheVariants.{Arrived, Ended, Aborted, Asked}
use Rattle.block_machine.specs.declared.turn.Label.TheVariants as label
use Rattle.block_machine.specs.State.{State, Duty, is_full}
use Rattle.block_machine.specs.Steps.{entries_after, entry_after, task_arrived}
use Rattle.block_machine.specs.Turns.{is_answered, are_aborted}
use Rattle.block_machine.proofs.Booleans.{both}
use Rattle.drive_scene.specs.declared.event.Arrival.{Arrival as Sent}
use Rattle.drive_scene.specs.declared.event.Arrival.TheVariants.{Command, Function}
use Rattle.drive_scene.specs.Scene.{Scene, capacity}
use Rattle.drive_scene.specs.After.{scene_after, with_arrival}
use Rattle.script_runner.specs.Arrivals.{Sends, arriving}
use Rattle.script_runner.specs.Wanted.{Wanted}
use Rattle.script_runner.specs.Phasing.{TakesArrival}
use Rattle.script_runner.specs.Measure.{steps_asked, turns_left, sum_upto, turns_of_arrival, turns_to_send, turns_of_phase}
use Rattle.script_runner.specs.Each.{Each}
use Rattle.script_runner.proofs.Entries.{IsNoArrival, answered, aborted, arrived_same}
use Rattle.script_runner.proofs.Places.{put_same, put_other}
use Rattle.script_runner.proofs.Members.{IsUntouched, other_left, own_left}
use Rattle.script_runner.proofs.Lowering.{of_command, turns_is, sum_same, sum_less, sum_at_most}

-- a command that isn't the new one
other_arrived : (set : List Member) (t : Task) (j : ℕ) → (j ≡ t.c → ⊥) → member_of (with_arrived set t) j ≡ member_of set j
other_arrived [] t j ne = ap (λ (b : Bool). cond b (Some (record { task = t; started = false })) None) (ne_eqb t.c j (λ e. ne (sym e)))
other_arrived (m ∷ ms) t j ne = ap (λ (o : Option Member). cond (m.task.c == j) (Some m) o) (other_arrived ms t j ne)

-- a command comes, and there is room for it or not
abbrev pub fresh : ℕ → List ℕ → DataOut → Duty
fresh blocks cdb sent = record { code = slice_index cdb 0; asks = read_of cdb sent blocks; sent = sent; owes = None; dirty_then = [] }

abbrev pub came : ℕ → ℕ → State → ℕ → ℕ → Tag → Attribute → List ℕ → DataOut → State
came blocks i h c j t a cdb sent = entry_after blocks (label.Arrive i) h (Arrived c j t a cdb sent)

others_at_once : (blocks i : ℕ) (h : State) (c j : ℕ) (t : Tag) (a : Attribute) (cdb : List ℕ) (sent : DataOut) (n : ℕ) → (n ≡ c → ⊥) → IsUntouched h (came blocks i h c j t a cdb sent) n
others_at_once blocks i h c j t a cdb sent n ne = record { member = go (is_full h); duty = put_other c n (fresh blocks cdb sent) h.duties ne }
  where
    go : (b : Bool) → member_of (cond b h.set (with_arrived h.set (task_arrived blocks c j t a cdb sent))) n ≡ member_of h.set n
    go true = refl
    go false = other_arrived h.set (task_arrived blocks c j t a cdb sent) n ne

-- after the whole turn: other commands are untouched, and the new one has no more to come than what it asks for
pub record Comes (blocks : ℕ) (h k : State) (c : ℕ) (cdb : List ℕ) (sent : DataOut) : Type 0 where
  pub counted : k.arrived ≡ h.arrived + 1
  pub others : (n : ℕ) → (n ≡ c → ⊥) → IsUntouched h k n
  pub few : (w : ℕ) → of_command (member_of k.set c) (k.duties c) w ≤ 309 * (steps_asked (read_of cdb sent blocks) + 1) + 308

few_fresh : (blocks : ℕ) (o : Option Member) (cdb : List ℕ) (sent : DataOut) (w : ℕ) → of_command o (fresh blocks cdb sent) w ≤ 309 * (steps_asked (read_of cdb sent blocks) + 1) + 308
few_fresh blocks None cdb sent w = omega arith
few_fresh blocks (Some m) cdb sent w = go m.started
  where
    go : (b : Bool) → 309 * (cond b 0 (steps_asked (read_of cdb sent blocks) + 1) + 0) + (50 - w) + 258 ≤ 309 * (steps_asked (read_of cdb sent blocks) + 1) + 308
    go true = omega arith
    go false = omega arith

ended : (blocks i : ℕ) (h k : State) (c : ℕ) (d : ℕ) (reply : Reply) → d ≡ c → ((n : ℕ) → (n ≡ c → ⊥) → IsUntouched h k n)
    → (n : ℕ) → (n ≡ c → ⊥) → IsUntouched h (entry_after blocks (label.Arrive i) k (Ended d reply)) n
ended blocks i h k c d reply is others n ne =
    let before = others n ne in
    record {
      member = other_left d n (λ e. ne (e ∙ is)) k.set ∙ before.member;
      duty = put_other d n _ k.duties (λ e. ne (e ∙ is)) ∙ before.duty;
    }

pub comes : (blocks i : ℕ) (h : State) (c j : ℕ) (t : Tag) (a : Attribute) (cdb : List ℕ) (sent : DataOut) (full : Bool) (rest : List Entry) → is_answered full c rest ≡ true
    → Comes blocks h (entries_after blocks (label.Arrive i) h (Arrived c j t a cdb sent ∷ rest)) c cdb sent
comes blocks i h c j t a cdb sent full [] ok = record {
  counted = refl;
  others = others_at_once blocks i h c j t a cdb sent;
  few = λ w. subst (λ (duty : Duty). of_command (member_of (came blocks i h c j t a cdb sent).set c) duty w ≤ 309 * (steps_asked (read_of cdb sent blocks) + 1) + 308)
      (sym (put_same c c (fresh blocks cdb sent) h.duties refl)) (few_fresh blocks (member_of (came blocks i h c j t a cdb sent).set c) cdb sent w);
}
comes blocks i h c j t a cdb sent true (Ended d reply ∷ []) ok =
    let is = eqb-true d c (both (d == c) _ ok).0 in
    record {
      counted = refl;
      others = ended blocks i h (came blocks i h c j t a cdb sent) c d reply is (others_at_once blocks i h c j t a cdb sent);
      few = λ w.
          let none : member_of (without (came blocks i h c j t a cdb sent).set d) c ≡ None =
          subst (λ (x : ℕ). member_of (without (came blocks i h c j t a cdb sent).set x) c ≡ None) (sym is) (own_left c (came blocks i h c j t a cdb sent).set) in
          subst (λ (o : Option Member). of_command o ((entries_after blocks (label.Arrive i) h (Arrived c j t a cdb sent ∷ Ended d reply ∷ [])).duties c) w ≤ 309 * (steps_asked (read_of cdb sent blocks) + 1) + 308) (sym none) (omega arith);
    }
comes blocks i h c j t a cdb sent full rest ok = absurd (cc)

-- no other window begins anew
no_window : (windows : ℕ → List Op) (rest : List Entry) → Each IsNoArrival rest → fold with_arrival windows rest ≡ windows
no_window windows [] quiet = refl
no_window windows (Arrived c i t a cdb sent ∷ rest) quiet = absurd quiet.0
no_window windows (e ∷ rest) quiet = no_window windows rest quiet.1

-- something arrives, and is to be sent no more
sent_lower : (blocks : ℕ) (sends left : Sends) (i : ℕ) (a : Sent) → 1 ≤ i → i ≤ 8 → sends i ≡ a ∷ left i → ((j : ℕ) → j ≢ i → left j ≡ sends j)
    → turns_to_send blocks left + turns_of_arrival blocks a ≤ turns_to_send blocks sends
sent_lower blocks sends left i a low high first others =
    sum_less (λ n. sum_by (turns_of_arrival blocks) (sends n)) (λ n. sum_by (turns_of_arrival blocks) (left n)) 8 i (turns_of_arrival blocks a) low high
    (let here : sum_by (turns_of_arrival blocks) (sends i) ≡ turns_of_arrival blocks a + sum_by (turns_of_arrival blocks) (left i) =
    ap (sum_by (turns_of_arrival blocks)) first ∙ sum_by-cons (turns_of_arrival blocks) a (left i) in omega arith)
    (λ j ne. ap (sum_by (turns_of_arrival blocks)) (others j ne))

-- the turn of a command that arrives
pub arrival_lower : (s : Scene) (wanted left : Wanted) (i c : ℕ) (t : Tag) (a : Attribute) (cdb : List ℕ) (sent : DataOut) (rest : List Entry) (ops : List Op)
    → c ≡ s.hist.arrived + 1 → is_answered (is_full s.hist) c rest ≡ true → 1 ≤ i → i ≤ 8 → TakesArrival wanted i (Command (arriving i t a cdb sent)) left
    → turns_of_phase (scene_after s (record { label = label.Arrive i; entries = Arrived c i t a cdb sent ∷ rest; ops = ops })) left < turns_of_phase s wanted
arrival_lower s wanted left i c t a cdb sent rest ops next ok low high takes =
    let blocks = capacity s in
    let k = scene_after s (record { label = label.Arrive i; entries = Arrived c i t a cdb sent ∷ rest; ops = ops }) in
    let it = comes blocks i s.hist c i t a cdb sent (is_full s.hist) rest ok in
    let quiet = answered (is_full s.hist) c rest ok in
    let window : (j : ℕ) → (j ≡ c → ⊥) → k.windows j ≡ s.windows j =
    λ j ne. ap (λ (w : ℕ → List Op). w j) (no_window (put_at c [] s.windows) rest quiet) ∙ put_other c j [] s.windows ne in
    let to_send = sent_lower blocks wanted.sends left.sends i (Command (arriving i t a cdb sent)) low high takes.first takes.others in
    let same = takes.destages in
    let before : sum_upto (turns_left k) s.hist.arrived ≡ sum_upto (turns_left s) s.hist.arrived =
    sum_same (turns_left s) (turns_left k) s.hist.arrived (λ j le.
    let one = it.others j (λ e. omega arith) in
    turns_is k j ∙ (rw (one.member, one.duty, window j (λ e. omega arith)) refl) ∙ sym (turns_is s j)) in
    let own : turns_left k c ≤ 309 * (steps_asked (read_of cdb sent blocks) + 1) + 308 = rw turns_is (it.few (length (k.windows c))) in
    let up : k.hist.arrived ≡ suc s.hist.arrived = it.counted ∙ add-one s.hist.arrived in
    let all : sum_upto (turns_left k) k.hist.arrived ≡ sum_upto (turns_left k) s.hist.arrived + turns_left k c =
    ap (sum_upto (turns_left k)) up ∙ ap (λ (x : ℕ). sum_upto (turns_left k) s.hist.arrived + x) (ap (turns_left k) (sym (next ∙ add-one s.hist.arrived))) in
    omega arith

-- a command after a function: as it was, or not in any more
pub record IsLeft (h k : State) (n : ℕ) : Type 0 where
  pub member : (member_of k.set n ≡ member_of h.set n) ⊎ (member_of k.set n ≡ None)
  pub duty : k.duties n ≡ h.duties n

one_aborted : (blocks i : ℕ) (h : State) (c n : ℕ) → IsLeft h (entry_after blocks (label.Arrive i) h (Aborted c)) n
one_aborted blocks i h c n = record { member = go (cases_eq n c); duty = refl }
  where
    go : (n ≡ c) ⊎ (n ≡ c → ⊥) → (member_of (without h.set c) n ≡ member_of h.set n) ⊎ (member_of (without h.set c) n ≡ None)
    go (inl e) = inr (subst (λ (x : ℕ). member_of (without h.set c) x ≡ None) (sym e) (own_left c h.set))
    go (inr ne) = inl (other_left c n ne h.set)

-- one function after another
left_twice : {A : Type 0} (x y z : Option A) → (y ≡ x) ⊎ (y ≡ None) → (z ≡ y) ⊎ (z ≡ None) → (z ≡ x) ⊎ (z ≡ None)
left_twice x y z first (inr none) = inr none
left_twice x y z (inl same) (inl e) = inl (e ∙ same)
left_twice x y z (inr none) (inl e) = inr (e ∙ none)

some_aborted : (blocks i : ℕ) (h : State) (cs : List ℕ) (rest : List Entry) → are_aborted cs rest ≡ true → (n : ℕ) → IsLeft h (entries_after blocks (label.Arrive i) h rest) n
some_aborted blocks i h [] [] e n = record { member = inl refl; duty = refl }
some_aborted blocks i h (c ∷ cs) (Aborted d ∷ rest) e n =
    let k = entry_after blocks (label.Arrive i) h (Aborted d) in
    let one = one_aborted blocks i h d n in
    let more = some_aborted blocks i k cs rest (both (c == d) _ e).1 n in
    record {
      member = left_twice (member_of h.set n) (member_of k.set n) (member_of (entries_after blocks (label.Arrive i) k rest).set n) one.member more.member;
      duty = more.duty ∙ one.duty;
    }
some_aborted blocks i h cs rest e n = absurd (cc)

no_more : (o left : Option Member) (duty : Duty) (w : ℕ) → (left ≡ o) ⊎ (left ≡ None) → of_command left duty w ≤ of_command o duty w
no_more o left duty w (inl same) = rw same (omega arith)
no_more o left duty w (inr none) = rw none (omega arith)

-- the turn of a function that arrives
pub function_lower : (s : Scene) (wanted left : Wanted) (i : ℕ) (what : Asking) (cs : List ℕ) (rest : List Entry) (ops : List Op)
    → are_aborted cs rest ≡ true → 1 ≤ i → i ≤ 8 → TakesArrival wanted i (Function i what) left
    → turns_of_phase (scene_after s (record { label = label.Arrive i; entries = Asked i what ∷ rest; ops = ops })) left < turns_of_phase s wanted
function_lower s wanted left i what cs rest ops ok low high takes =
    let blocks = capacity s in
    let k = scene_after s (record { label = label.Arrive i; entries = Asked i what ∷ rest; ops = ops }) in
    let now = entry_after blocks (label.Arrive i) s.hist (Asked i what) in
    let quiet = aborted cs rest ok in
    let to_send = sent_lower blocks wanted.sends left.sends i (Function i what) low high takes.first takes.others in
    let same = takes.destages in
    let fewer : sum_upto (turns_left k) s.hist.arrived ≤ sum_upto (turns_left s) s.hist.arrived =
    sum_at_most (turns_left s) (turns_left k) s.hist.arrived (λ j.
    let it = some_aborted blocks i now cs rest ok j in
    let window : k.windows j ≡ s.windows j = ap (λ (w : ℕ → List Op). w j) (no_window s.windows rest quiet) in
    let after : turns_left k j ≡ of_command (member_of k.hist.set j) (s.hist.duties j) (length (s.windows j)) = turns_is k j ∙ (rw (it.duty, window) refl) in
    let before = turns_is s j in
    let le = no_more (member_of s.hist.set j) (member_of k.hist.set j) (s.hist.duties j) (length (s.windows j)) it.member in
    omega arith) in
    let counted : k.hist.arrived ≡ s.hist.arrived = arrived_same blocks (label.Arrive i) now rest quiet in
    let all : sum_upto (turns_left k) k.hist.arrived ≡ sum_upto (turns_left k) s.hist.arrived = ap (sum_upto (turns_left k)) counted in
    omega arith
