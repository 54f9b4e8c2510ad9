-- Each turn of a phase takes off the turns that are left.
use Rattle.std.proofs.Common.{◌≡◌, ◌∙◌, ap, sym, refl, subst, ℕ, ◌+◌, ◌-◌, ◌*◌, ◌<◌, ◌≤◌, ◌⊎◌, inl, inr, zero, suc, List, [], ◌∷◌, ◌++◌, arith, Some, None, Option, length}
use Rattle.std.specs.Option.{option_map_or}
use Rattle.std.proofs.lemmas.Bool.{cases_eq}
use Rattle.std.proofs.lemmas.Bool.Decides.{nat_tests}
use Rattle.std.proofs.lemmas.List.{length-append}
use Rattle.platter_model.specs.declared.op.Op.{Op}
use Rattle.task_set.specs.declared.member.Member.{Member}
use Rattle.task_set.specs.Members.{member_of}
use Rattle.block_machine.specs.declared.entry.Entry.{Entry}
use Rattle.block_machine.specs.declared.turn.Label.TheVariants as label
use Rattle.block_machine.specs.State.{State, Duty}
use Rattle.block_machine.specs.Steps.{begun, entries_after}
use Rattle.drive_scene.specs.Scene.{Scene, Beat, capacity}
use Rattle.drive_scene.specs.After.{scene_after, window_after}
use Rattle.drive_scene.specs.GoodTurn.{GoodTurn, window_at_most}
use Rattle.script_runner.specs.Measure.{steps_of_member, turns_left, turns_a_step, turns_to_move, sum_upto}
use Rattle.script_runner.proofs.Places.{put_same, put_other}
use Rattle.script_runner.proofs.Entries.{working}
use Rattle.script_runner.proofs.Members.{AreSteps, entries_steps, steps_left, by_duty, by_member, number_of}

-- sums that differ at one number
pub sum_same : (f g : ℕ → ℕ) (n : ℕ) → ((j : ℕ) → j ≤ n → g j ≡ f j) → sum_upto g n ≡ sum_upto f n
sum_same f g zero same = refl
sum_same f g (suc n) same = let here = same (suc n) (omega arith) in let rest = sum_same f g n (λ j le. same j (omega arith)) in omega arith

pub sum_less : (f g : ℕ → ℕ) (n c less : ℕ) → 1 ≤ c → c ≤ n → g c + less ≤ f c → ((j : ℕ) → (j ≡ c → ⊥) → g j ≡ f j) → sum_upto g n + less ≤ sum_upto f n
sum_less f g zero c less low high lt same = absurd (omega arith)
sum_less f g (suc n) c less low high lt same = go (λ le. sum_less f g n c less low le lt same) (cases_eq (suc n) c)
  where
    go : (c ≤ n → sum_upto g n + less ≤ sum_upto f n) → ((suc n) ≡ c) ⊎ ((suc n) ≡ c → ⊥) → sum_upto g n + g (suc n) + less ≤ sum_upto f n + f (suc n)
    go rest (inl e) =
        let here : g (suc n) + less ≤ f (suc n) = subst (λ (k : ℕ). g k + less ≤ f k) (sym e) lt in
        let before : sum_upto g n ≡ sum_upto f n = sum_same f g n (λ j le. same j (λ h. omega arith)) in
        omega arith
    go rest (inr ne) =
        let here : g (suc n) ≡ f (suc n) = same (suc n) ne in
        let before : sum_upto g n + less ≤ sum_upto f n = rest (omega arith) in
        omega arith

pub sum_at_most : (f g : ℕ → ℕ) (n : ℕ) → ((j : ℕ) → g j ≤ f j) → sum_upto g n ≤ sum_upto f n
sum_at_most f g zero le = omega arith
sum_at_most f g (suc n) le = let here = le (suc n) in let rest = sum_at_most f g n le in omega arith

-- the turns of commands by the history and their windows
abbrev pub turns_by : State → (ℕ → List Op) → ℕ → ℕ
turns_by h windows c =
    option_map_or (λ m. turns_a_step * steps_of_member h m + (window_at_most - length (windows c)) + turns_to_move) (member_of h.set c) 0

-- the turns of a command by what is known of it
abbrev pub of_command : Option Member → Duty → ℕ → ℕ
of_command o duty w = option_map_or (λ m. turns_a_step * by_duty m duty + (window_at_most - w) + turns_to_move) o 0

pub turns_is : (s : Scene) (c : ℕ) → turns_left s c ≡ of_command (member_of s.hist.set c) (s.hist.duties c) (length (s.windows c))
turns_is s c = go (member_of s.hist.set c) refl
  where
    go : (o : Option Member) → member_of s.hist.set c ≡ o
        → option_map_or (λ m. turns_a_step * steps_of_member s.hist m + (window_at_most - length (s.windows c)) + turns_to_move) o 0 ≡ of_command o (s.hist.duties c) (length (s.windows c))
    go None is = refl
    go (Some m) is = rw (number_of c s.hist.set m is) refl

bounded : (o : Option Member) (duty : Duty) (w : ℕ) → of_command o duty w ≤ 309 * option_map_or (λ m. by_duty m duty) o 0 + 308
bounded None duty w = omega arith
bounded (Some m) duty w = omega arith

steps_is : (h : State) (c : ℕ) → steps_left h c ≡ option_map_or (λ m. by_duty m (h.duties c)) (member_of h.set c) 0
steps_is h c = go (member_of h.set c) refl
  where
    go : (o : Option Member) → member_of h.set c ≡ o → option_map_or (steps_of_member h) o 0 ≡ option_map_or (λ m. by_duty m (h.duties c)) o 0
    go None is = refl
    go (Some m) is = rw (number_of c h.set m is) refl

-- a turn of work on a command that is in
pub record IsLower (s k : Scene) (c : ℕ) : Type 0 where
  pub own : turns_left k c < turns_left s c
  pub others : (j : ℕ) → (j ≡ c → ⊥) → turns_left k j ≡ turns_left s j

abbrev pub work_on : ℕ → List Entry → List Op → Beat
work_on c entries ops = record { label = label.Work c; entries = entries; ops = ops }

module _ (s : Scene) (c : ℕ) (ops : List Op) (m : Member) (is_in : member_of s.hist.set c ≡ Some m) where
  as_begun : steps_left (begun s.hist (label.Work c)) c ≡ steps_left s.hist c
  as_begun =
      by_member (begun s.hist (label.Work c)) c m is_in ∙ ap (by_duty m) (put_same c c (record (s.hist.duties c) { dirty_then = s.hist.dirty }) s.hist.duties refl) ∙ sym (by_member s.hist c m is_in)

  steps_of_turn : (entries : List Entry) → GoodTurn s (work_on c entries ops)
      → AreSteps (begun s.hist (label.Work c)) (entries_after (capacity s) (label.Work c) (begun s.hist (label.Work c)) entries) c (length entries)
  steps_of_turn entries good =
      entries_steps (capacity s) c (begun s.hist (label.Work c)) entries good.own (working (capacity s) (label.Work c) (begun s.hist (label.Work c)) entries good.tasks)

  same_others : (entries : List Entry) → GoodTurn s (work_on c entries ops) → (j : ℕ) → (j ≡ c → ⊥) → turns_left (scene_after s (work_on c entries ops)) j ≡ turns_left s j
  same_others entries good j ne =
      let k = scene_after s (work_on c entries ops) in
      let one = (steps_of_turn entries good).others j ne in
      let duty : k.hist.duties j ≡ s.hist.duties j = one.duty ∙ put_other c j (record (s.hist.duties c) { dirty_then = s.hist.dirty }) s.hist.duties ne in
      let window : k.windows j ≡ s.windows j = put_other c j (window_after c (s.windows c) (work_on c entries ops)) s.windows ne in
      turns_is k j ∙ (rw (one.member, duty, window) refl) ∙ sym (turns_is s j)

  work_own : (entries : List Entry) → GoodTurn s (work_on c entries ops) → turns_left (scene_after s (work_on c entries ops)) c < turns_left s c
  work_own [] good =
      let k = scene_after s (work_on c [] ops) in
      let some : 1 ≤ length ops = grind (arith, nat_tests, good.step.1) in
      let within : length (s.windows c) + length ops ≤ 50 =
      (let long : k.windows c ≡ s.windows c ++ ops = put_same c c (s.windows c ++ ops) s.windows refl in
      let h : length (s.windows c ++ ops) ≤ 50 = subst (λ (w : List Op). length w ≤ 50) long (good.window c) in rw length-append at h) in
      let window : length (k.windows c) ≡ length (s.windows c) + length ops = ap length (put_same c c (s.windows c ++ ops) s.windows refl) ∙ length-append (s.windows c) ops in
      let duty : k.hist.duties c ≡ record (s.hist.duties c) { dirty_then = s.hist.dirty } = put_same c c (record (s.hist.duties c) { dirty_then = s.hist.dirty }) s.hist.duties refl in
      let after : turns_left k c ≡ 309 * by_duty m (s.hist.duties c) + (50 - (length (s.windows c) + length ops)) + 258 = turns_is k c ∙ (rw (is_in, duty, window) refl) in
      let before : turns_left s c ≡ 309 * by_duty m (s.hist.duties c) + (50 - length (s.windows c)) + 258 = turns_is s c ∙ (rw is_in refl) in
      omega arith
  work_own (e ∷ entries) good =
      let k = scene_after s (work_on c (e ∷ entries) ops) in
      let steps = (steps_of_turn (e ∷ entries) good).lower in
      let begin = as_begun in
      let before : turns_left s c ≡ 309 * by_duty m (s.hist.duties c) + (50 - length (s.windows c)) + 258 = turns_is s c ∙ (rw is_in refl) in
      let was = by_member s.hist c m is_in in
      let is = turns_is k c in
      let now = steps_is k.hist c in
      let most = bounded (member_of k.hist.set c) (k.hist.duties c) (length (k.windows c)) in
      omega arith

  pub work_lower : (entries : List Entry) → GoodTurn s (work_on c entries ops) → IsLower s (scene_after s (work_on c entries ops)) c
  work_lower entries good = record { own = work_own entries good; others = same_others entries good }
