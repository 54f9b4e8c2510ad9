-- Which commands are in.
use Rattle.std.proofs.Common.{◌≡◌, ◌∙◌, ap, sym, refl, ℕ, suc, ◌+◌, ◌≤◌, Bool, true, false, cond, not, List, [], ◌∷◌, ◌++◌, arith}
use Rattle.std.specs.Prelude.{◌==◌, All, Option, Some, None}
use Rattle.std.specs.Option.{is_some}
use Rattle.std.proofs.lemmas.Bool.Decides.{nat_tests}
use Rattle.std.proofs.lemmas.List.Elements.{All-filter, All-map, All-push, All-weaker}
use Rattle.task_set.specs.declared.member.Member.{Member}
use Rattle.history_replay.proofs.Numbers.{other, turned}
use Rattle.task_set.specs.Members.{IsIn, member_of, started_at, with_started, without}

there : (d : Bool) (m : Member) (o : Option Member) → is_some o ≡ true → is_some (cond d (Some m) o) ≡ true
there true m o h = refl
there false m o h = h

without-step : (m : Member) (ms : List Member) (c q : ℕ) (b d : Bool) → (m.task.c == c) ≡ b → (m.task.c == q) ≡ d
    → is_some (member_of (cond (not b) (m ∷ without ms c) (without ms c)) q) ≡ true
    → (IsIn (without ms c) q → IsIn ms q × ((q == c) ≡ false))
    → (is_some (cond d (Some m) (member_of ms q)) ≡ true) × ((q == c) ≡ false)
without-step m ms c q true d e f h k = let r = k h in (there d m (member_of ms q) r.0, r.1)
without-step m ms c q false true e f h k = (refl, other m.task.c c q e f)
without-step m ms c q false false e f h k = k (ap (λ (v : Bool). is_some (cond v (Some m) (member_of (without ms c) q))) (sym f) ∙ h)

-- without a command others are in
pub in_without : (set : List Member) (c q : ℕ) → IsIn (without set c) q → IsIn set q × ((q == c) ≡ false)
in_without [] c q h = absurd (cc)
in_without (m ∷ ms) c q h = without-step m ms c q (m.task.c == c) (m.task.c == q) refl refl h (in_without ms c q)

started-step : (b : Bool) (m : Member) (q : ℕ) (o p : Option Member) → (is_some o ≡ true → is_some p ≡ true)
    → is_some (cond ((cond b (record m { started = true }) m).task.c == q) (Some (cond b (record m { started = true }) m)) o) ≡ true
    → is_some (cond (m.task.c == q) (Some m) p) ≡ true
started-step b m q o p k h =
    let both : (v : Bool) (x y : Member) → is_some (cond v (Some x) o) ≡ true → is_some (cond v (Some y) p) ≡ true =
    λ v x y. elim v as (λ w. is_some (cond w (Some x) o) ≡ true → is_some (cond w (Some y) p) ≡ true) [ true ↦ λ i. refl | false ↦ k ] in
    elim b as (λ w. is_some (cond ((cond w (record m { started = true }) m).task.c == q) (Some (cond w (record m { started = true }) m)) o) ≡ true
    → is_some (cond (m.task.c == q) (Some m) p) ≡ true) [
      | true ↦ both (m.task.c == q) (record m { started = true }) m
      | false ↦ both (m.task.c == q) m m
    ] h

-- those that are in when one started were in
pub in_started : (set : List Member) (c q : ℕ) → IsIn (with_started set c) q → IsIn set q
in_started [] c q h = h
in_started (m ∷ ms) c q h = started-step (m.task.c == c) m q (member_of (with_started ms c) q) (member_of ms q) (in_started ms c q) h

-- those that are in when one came were in, or are that one
pub in_arrived : (set : List Member) (m : Member) (q : ℕ) → (q == m.task.c) ≡ false → IsIn (set ++ m ∷ []) q → IsIn set q
in_arrived [] m q differs h = ap (λ (v : Bool). is_some (cond v (Some m) None)) (sym (turned q m.task.c false differs)) ∙ h
in_arrived (x ∷ xs) m q differs h =
    elim (x.task.c == q) as (λ v. is_some (cond v (Some x) (member_of (xs ++ m ∷ []) q)) ≡ true → is_some (cond v (Some x) (member_of xs q)) ≡ true) [
      | true ↦ λ i. refl
      | false ↦ in_arrived xs m q differs
    ] h

-- no command has a number above a bound
abbrev pub AreUpTo : ℕ → List Member → Type 0
AreUpTo n set = All (λ m. m.task.c ≤ n) set

low : (x q n : ℕ) → (x == q) ≡ true → x ≤ n → q ≤ n
low x q n e h = grind (arith, nat_tests)

pub up_to : (set : List Member) (n q : ℕ) → AreUpTo n set → IsIn set q → q ≤ n
up_to [] n q all h = absurd (cc)
up_to (m ∷ ms) n q all h =
    let rest : AreUpTo n ms = λ k d less. all (suc k) d (omega arith) in
    let head : m.task.c ≤ n = all 0 m (omega arith) in
    elim (m.task.c == q) as (λ v. (m.task.c == q) ≡ v → is_some (cond v (Some m) (member_of ms q)) ≡ true → q ≤ n) [
      | true ↦ λ e i. low m.task.c q n e head
      | false ↦ λ e i. up_to ms n q rest i
    ] refl h

pub up_to_without : (set : List Member) (n c : ℕ) → AreUpTo n set → AreUpTo n (without set c)
up_to_without set n c all = All-filter (λ (m : Member). not (m.task.c == c)) (λ (m : Member). m.task.c ≤ n) set all

same-number : (b : Bool) (m : Member) (n : ℕ) → m.task.c ≤ n → (cond b (record m { started = true }) m).task.c ≤ n
same-number true m n h = h
same-number false m n h = h

pub up_to_started : (set : List Member) (n c : ℕ) → AreUpTo n set → AreUpTo n (with_started set c)
up_to_started set n c all =
    All-map (λ (m : Member). m.task.c ≤ n) (started_at c) set (λ k d less. same-number _ _ n (all k d less))

pub up_to_more : (set : List Member) (n : ℕ) → AreUpTo n set → AreUpTo (n + 1) set
up_to_more set n all = All-weaker (λ (x : Member). x.task.c ≤ n) (λ (x : Member). x.task.c ≤ n + 1) (λ x h. omega arith) set all

pub up_to_arrived : (set : List Member) (m : Member) (n : ℕ) → m.task.c ≡ n + 1 → AreUpTo n set → AreUpTo (n + 1) (set ++ m ∷ [])
up_to_arrived set m n is all =
    let fits : m.task.c ≤ n + 1 = omega arith in
    All-push (λ (x : Member). x.task.c ≤ n + 1) set m (up_to_more set n all) fits
