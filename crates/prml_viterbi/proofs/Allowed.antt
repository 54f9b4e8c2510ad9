-- A word is allowed exactly where the states take it, and the state knows the last three levels.
use Rattle.std.proofs.Common.{◌≡◌, ◌⊎◌, ℕ, zero, suc, ◌<◌, ◌≤◌, Bool, true, false, List, length, Some, ℤ, pos, get_or, refl, sym, ap, ◌∙◌, subst, inl, inr, arith}
use Rattle.std.specs.Option.{option_and_then}
use Rattle.std.proofs.lemmas.Bool.{cases_lt}
use Rattle.prml_viterbi.specs.Levels.{AreLevels, level_for, is_high, level_at, KeepsRuns, IsAllowed}
use Rattle.prml_viterbi.specs.Trellis.{State, low_three, low_two, low_one, high_one, high_two, high_three, after, state_of, is_high_state, first_levels}
use Rattle.prml_viterbi.proofs.Words.{last_step}
use Rattle.prml_viterbi.proofs.Distances.{second, third}
use Rattle.prml_viterbi.proofs.LevelWords.{level_at-is_level, level_for-is_high}

-- the three levels before place k are those of the state
pub record Matches (word : List ℤ) (k : ℕ) (state : State) : Type 0 where
  pub last : level_at word (suc (suc k)) ≡ level_for (is_high_state state)
  pub before : level_at word (suc k) ≡ level_for (second state)
  pub first : level_at word k ≡ level_for (third state)

-- a step moves the three levels on
moves : (b : Bool) (s t : State) → after b s ≡ Some t → (is_high_state t ≡ b) × (second t ≡ is_high_state s) × (third t ≡ second s)
moves false low_three t e = let h : low_three ≡ t = cc in subst (λ x. (is_high_state x ≡ false) × (second x ≡ false) × (third x ≡ false)) h (refl, refl, refl)
moves false low_two t e = let h : low_three ≡ t = cc in subst (λ x. (is_high_state x ≡ false) × (second x ≡ false) × (third x ≡ false)) h (refl, refl, refl)
moves false low_one t e = let h : low_two ≡ t = cc in subst (λ x. (is_high_state x ≡ false) × (second x ≡ false) × (third x ≡ true)) h (refl, refl, refl)
moves false high_one t e = cc
moves false high_two t e = cc
moves false high_three t e = let h : low_one ≡ t = cc in subst (λ x. (is_high_state x ≡ false) × (second x ≡ true) × (third x ≡ true)) h (refl, refl, refl)
moves true low_three t e = let h : high_one ≡ t = cc in subst (λ x. (is_high_state x ≡ true) × (second x ≡ false) × (third x ≡ false)) h (refl, refl, refl)
moves true low_two t e = cc
moves true low_one t e = cc
moves true high_one t e = let h : high_two ≡ t = cc in subst (λ x. (is_high_state x ≡ true) × (second x ≡ true) × (third x ≡ false)) h (refl, refl, refl)
moves true high_two t e = let h : high_three ≡ t = cc in subst (λ x. (is_high_state x ≡ true) × (second x ≡ true) × (third x ≡ true)) h (refl, refl, refl)
moves true high_three t e = let h : high_three ≡ t = cc in subst (λ x. (is_high_state x ≡ true) × (second x ≡ true) × (third x ≡ true)) h (refl, refl, refl)

-- a step keeps the level, or leaves a run of three
runs : (b : Bool) (s t : State) → after b s ≡ Some t → (b ≡ is_high_state s) ⊎ ((is_high_state s ≡ second s) × (second s ≡ third s))
runs false low_three t e = inl refl
runs false low_two t e = inl refl
runs false low_one t e = inl refl
runs false high_one t e = cc
runs false high_two t e = cc
runs false high_three t e = inr (refl, refl)
runs true low_three t e = inr (refl, refl)
runs true low_two t e = cc
runs true low_one t e = cc
runs true high_one t e = inl refl
runs true high_two t e = inl refl
runs true high_three t e = inl refl

-- each state can keep its level
stays : (s : State) → (t : State) × (after (is_high_state s) s ≡ Some t)
stays low_three = (low_three, refl)
stays low_two = (low_three, refl)
stays low_one = (low_two, refl)
stays high_one = (high_two, refl)
stays high_two = (high_three, refl)
stays high_three = (high_three, refl)

-- a run of three can end
leaves : (b : Bool) (s : State) → is_high_state s ≡ second s → second s ≡ third s → (t : State) × (after b s ≡ Some t)
leaves false low_three e f = (low_three, refl)
leaves false low_two e f = cc
leaves false low_one e f = cc
leaves false high_one e f = cc
leaves false high_two e f = cc
leaves false high_three e f = (low_one, refl)
leaves true low_three e f = (high_one, refl)
leaves true low_two e f = cc
leaves true low_one e f = cc
leaves true high_one e f = cc
leaves true high_two e f = cc
leaves true high_three e f = (high_three, refl)

level_for_same : (a b : Bool) → level_for a ≡ level_for b → a ≡ b
level_for_same true true e = refl
level_for_same true false e = cc
level_for_same false true e = cc
level_for_same false false e = refl

-- the level at place k, by whether it is high
level_is : (word : List ℤ) → AreLevels word → (k : ℕ) → level_at word (suc (suc (suc k))) ≡ level_for (is_high (get_or word k (pos 1)))
level_is word h k = sym (level_for-is_high (get_or word k (pos 1)) (level_at-is_level word h (suc (suc (suc k)))))

pub Matches-from_levels : (word : List ℤ) → AreLevels word → (k : ℕ) (s : State) → state_of (first_levels word k) ≡ Some s → Matches word k s
Matches-from_levels word levels zero s e = let h : high_three ≡ s = cc in subst (Matches word 0) h (record { last = refl; before = refl; first = refl })
Matches-from_levels word levels (suc k) s e =
    let b = is_high (get_or word k (pos 1)) in
    let step = last_step b (state_of (first_levels word k)) s e in
    let m = Matches-from_levels word levels k step.0 step.1 in
    let moved = moves b step.0 s step.2 in
    record {
      last = level_is word levels k ∙ ap level_for (sym moved.0);
      before = m.last ∙ ap level_for (sym moved.1);
      first = m.before ∙ ap level_for (sym moved.2);
    }

-- an allowed word leads to a state
pub state-from_allowed : (word : List ℤ) → IsAllowed word → (k : ℕ) → k ≤ length word → (s : State) × (state_of (first_levels word k) ≡ Some s)
state-from_allowed word allowed zero h = (high_three, refl)
state-from_allowed word allowed (suc k) h =
    let b = is_high (get_or word k (pos 1)) in
    let so_far = state-from_allowed word allowed k (omega arith) in
    let m = Matches-from_levels word allowed.levels k so_far.0 so_far.1 in
    let step : (t : State) × (after b so_far.0 ≡ Some t) = elim (allowed.runs k h) [
      | inl same ↦
          let kept : b ≡ is_high_state so_far.0 = level_for_same _ _ (sym (level_is word allowed.levels k) ∙ same ∙ m.last) in
          let on = stays so_far.0 in
          (on.0, ap (λ x. after x so_far.0) kept ∙ on.1)
      | inr three ↦ leaves b so_far.0 (level_for_same _ _ (sym m.last ∙ three.0 ∙ m.before)) (level_for_same _ _ (sym m.before ∙ three.1 ∙ m.first))
    ] in
    (step.0, ap (option_and_then (after b)) so_far.1 ∙ step.1)

-- the beginnings of a word that leads to a state lead to states
pub state-before : (word : List ℤ) (n k : ℕ) (s : State) → k ≤ n → state_of (first_levels word n) ≡ Some s → (t : State) × (state_of (first_levels word k) ≡ Some t)
state-before word zero k s h e = let z : k ≡ 0 = omega arith in rw z (s, e)
state-before word (suc n) k s h e = elim (cases_lt n k) [
  | inl all ↦ let z : k ≡ suc n = omega arith in rw z (s, e)
  | inr less ↦
      let step = last_step (is_high (get_or word n (pos 1))) (state_of (first_levels word n)) s e in
      state-before word n k step.0 less step.1
]

-- a word of levels that leads to a state is allowed
pub IsAllowed-from_state : (word : List ℤ) (s : State) → AreLevels word → state_of (first_levels word (length word)) ≡ Some s → IsAllowed word
IsAllowed-from_state word s levels e = record { levels = levels; runs = keeps }
  where
    keeps : (k : ℕ) → k < length word → KeepsRuns word k
    keeps k h =
        let b = is_high (get_or word k (pos 1)) in
        let here = state-before word (length word) (suc k) s h e in
        let step = last_step b (state_of (first_levels word k)) here.0 here.1 in
        let m = Matches-from_levels word levels k step.0 step.1 in
        elim (runs b step.0 here.0 step.2) [
          | inl same ↦ inl (level_is word levels k ∙ ap level_for same ∙ sym m.last)
          | inr three ↦ inr (m.last ∙ ap level_for three.0 ∙ sym m.before, m.before ∙ ap level_for three.1 ∙ sym m.first)
        ]
