-- The way back over the survivors: what is written so far is the end of the word that leads from the last state.
use Rattle.std.proofs.Common.{◌≡◌, ◌≢◌, ◌⊎◌, ℕ, suc, ◌<◌, ◌≤◌, Bool, true, false, List, ◌∷◌, length, ℤ, pos, get_or, set, refl, sym, ap, ◌∙◌, subst, inl, inr, arith, length-set, get_or-set_same, get_or-set_other}
use Rattle.std.proofs.lemmas.Bool.{cases_eq}
use Rattle.std.proofs.lemmas.List.{get_or_default}
use Rattle.prml_viterbi.specs.Levels.{IsLevel, AreLevels, level_for, is_high}
use Rattle.prml_viterbi.specs.Trellis.{State, code, is_high_state, path, state_before, first_levels}
use Rattle.prml_viterbi.proofs.Ends.{same_code}

-- from place k on the levels are those on the way back from the end to this state
pub record IsTraced (survivors : List ℕ) (out : List ℤ) (end state k : ℕ) : Type 0 where
  pub coded : (s : State) × (code s ≡ state)
  pub levels : (j : ℕ) → k ≤ j → j < length out → IsLevel (get_or out j (pos 1))
  pub leads : (s start : State) → code s ≡ state → code start ≡ end → (word : List ℤ) → length word ≡ length out
      → ((j : ℕ) → k ≤ j → get_or word j (pos 1) ≡ get_or out j (pos 1))
      → first_levels word k ≡ path survivors k s
      → first_levels word (length out) ≡ path survivors (length out) start

pub level_for-is_level : (high : Bool) → IsLevel (level_for high)
level_for-is_level true = inl refl
level_for-is_level false = inr refl

pub is_high-level_for : (high : Bool) → is_high (level_for high) ≡ high
is_high-level_for true = refl
is_high-level_for false = refl

pub IsTraced-none : (survivors : List ℕ) (out : List ℤ) (end : ℕ) → (s : State) × (code s ≡ end) → IsTraced survivors out end end (length out)
IsTraced-none survivors out end s = record {
  coded = s;
  levels = λ j low high. absurd (omega arith);
  leads = λ t start e f word long same h. h ∙ ap (path survivors (length out)) (same_code t start (e ∙ sym f));
}

pub IsTraced-more : (survivors : List ℕ) (out : List ℤ) (end state next k : ℕ) (level : ℤ)
    → suc k ≤ length out
    → ((s : State) → code s ≡ state → level ≡ level_for (is_high_state s))
    → ((s : State) → code s ≡ state → next ≡ code (state_before (get_or survivors k 0) s))
    → IsTraced survivors out end state (suc k)
    → IsTraced survivors (set out k level) end next k
IsTraced-more survivors out end state next k level room is_level is_next before = record {
  coded = (state_before (get_or survivors k 0) before.coded.0, sym (is_next before.coded.0 before.coded.1));
  levels = λ j low high. levels_at j low (omega (arith, length-set out k level)) (cases_eq j k);
  leads = back;
}
  where
    put : get_or (set out k level) k (pos 1) ≡ level
    put = get_or-set_same out k level (pos 1) room

    levels_at : (j : ℕ) → k ≤ j → j < length out → (j ≡ k) ⊎ (j ≡ k → ⊥) → IsLevel (get_or (set out k level) j (pos 1))
    levels_at j low high (inl e) = subst (λ i. IsLevel (get_or (set out k level) i (pos 1))) (sym e) (subst IsLevel (sym (put ∙ is_level before.coded.0 before.coded.1)) (level_for-is_level _))
    levels_at j low high (inr ne) = subst IsLevel (sym (get_or-set_other out k j level (pos 1) ne)) (before.levels j (omega (arith, ne)) high)

    le_self : k ≤ k
    le_self = omega arith

    above : (j : ℕ) → suc k ≤ j → j ≢ k
    above j low = omega arith

    back : (s start : State) → code s ≡ next → code start ≡ end → (word : List ℤ) → length word ≡ length (set out k level)
        → ((j : ℕ) → k ≤ j → get_or word j (pos 1) ≡ get_or (set out k level) j (pos 1))
        → first_levels word k ≡ path survivors k s
        → first_levels word (length (set out k level)) ≡ path survivors (length (set out k level)) start
    back s start e f word long same h =
        let t = before.coded.0 in
        let s_is = same_code s (state_before (get_or survivors k 0) t) (e ∙ is_next t before.coded.1) in
        let top = ap is_high (same k le_self ∙ put ∙ is_level t before.coded.1) ∙ is_high-level_for (is_high_state t) in
        let below = h ∙ ap (path survivors k) s_is in
        let found = before.leads t start before.coded.1 f word (long ∙ length-set out k level)
        (λ j low. same j (omega arith) ∙ get_or-set_other out k j level (pos 1) (above j low))
        (ap (λ b. b ∷ first_levels word k) top ∙ ap (λ w. is_high_state t ∷ w) below) in
        rw (length-set out k level) found

-- at the start of the word all of it is written
pub IsTraced-all : (survivors : List ℕ) (out : List ℤ) (end state k : ℕ) → k ≡ 0 → IsTraced survivors out end state k
    → AreLevels out × ((start : State) → code start ≡ end → first_levels out (length out) ≡ path survivors (length out) start)
IsTraced-all survivors out end state k zero_is traced = (
  λ j d high. subst IsLevel (get_or_default out j (pos 1) d high) (traced.levels j (omega arith) high),
  λ start e. traced.leads traced.coded.0 start traced.coded.1 e out refl (λ _ _. refl) (rw zero_is refl),
)
