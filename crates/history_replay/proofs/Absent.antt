-- A command that isn't in neither starts nor leaves.
use Rattle.std.proofs.Common.{◌≡◌, ap, refl, ℕ, Bool, true, false, cond, not, List, [], ◌∷◌}
use Rattle.std.specs.Prelude.{◌==◌, Option, Some, None}
use Rattle.task_set.specs.declared.member.Member.{Member}
use Rattle.task_set.specs.Members.{member_of, with_started, without}

left-step : (b : Bool) (m : Member) (ms kept : List Member) (o : Option Member) → cond b (Some m) o ≡ None → (o ≡ None → ms ≡ kept)
    → m ∷ ms ≡ cond (not b) (m ∷ kept) kept
left-step true m ms kept o h k = absurd (cc)
left-step false m ms kept o h k = ap (λ (l : List Member). m ∷ l) (k h)

pub absent_left : (set : List Member) (c : ℕ) → member_of set c ≡ None → set ≡ without set c
absent_left [] c h = refl
absent_left (m ∷ ms) c h = left-step (m.task.c == c) m ms (without ms c) (member_of ms c) h (λ k. absent_left ms c k)

started-step : (b : Bool) (m : Member) (ms kept : List Member) (o : Option Member) → cond b (Some m) o ≡ None → (o ≡ None → ms ≡ kept)
    → m ∷ ms ≡ cond b (record m { started = true }) m ∷ kept
started-step true m ms kept o h k = absurd (cc)
started-step false m ms kept o h k = ap (λ (l : List Member). m ∷ l) (k h)

pub absent_started : (set : List Member) (c : ℕ) → member_of set c ≡ None → set ≡ with_started set c
absent_started [] c h = refl
absent_started (m ∷ ms) c h = started-step (m.task.c == c) m ms (with_started ms c) (member_of ms c) h (λ k. absent_started ms c k)
