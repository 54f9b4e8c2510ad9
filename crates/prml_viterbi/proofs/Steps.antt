-- One step of the six states keeps, for each, the best of the words that lead to it.
use Rattle.std.proofs.Common.{◌≡◌, ◌≢◌, ◌⊎◌, ℕ, zero, suc, ◌+◌, ◌*◌, ◌^◌, ◌<◌, ◌≤◌, Bool, true, false, cond, ltb, List, [], ◌∷◌, length, Some, ℤ, pos, get_or, set, refl, sym, ap, ◌∙◌, subst, inl, inr, arith, get_or-set_same, get_or-set_other, lit<, lit≤, FitsSigned, w8}
use Rattle.std.proofs.lemmas.Int.{ints}
use Rattle.std.specs.Option.{option_and_then}
use Rattle.prml_viterbi.specs.Trellis.{State, low_three, low_two, low_one, high_one, high_two, high_three, after, state_of, branch, IsAtLeastAsGood, path, state_before, survivor, is_high_state}
use Rattle.prml_viterbi.specs.Sums.{sum_at, Steps, HasRoom}
use Rattle.prml_viterbi.specs.declared.trellis.Sums.{Sums}
use Rattle.prml_viterbi.proofs.Words.{EntersFrom, enters, last_step, rank, Precedes-by_rank}
use Rattle.prml_viterbi.proofs.Best.{Kept, IsFar, Leads, Kept-either, Kept-longer, Kept-small}

-- only the state of a long high run is led to by the empty word
nowhere : (state : State) → (Some high_three ≡ Some state → ⊥) → IsFar (Leads 0 state) 0 (2 ^ 62)
nowhere state other = record { far = lit≤ tt; near = lit≤ tt; empty = none }
  where
    none : (w : List Bool) → Leads 0 state w → ⊥
    none [] h = other h.leads
    none (b ∷ w) h = absurd (omega (arith, h.long))

-- for each state the best of the words of n levels that lead to it, or that there is none
abbrev pub AllKept : List ℤ → ℕ → Sums → List ℕ → Type 0
AllKept samples n sums survivors =
    (state : State) → Kept samples (Leads n state) (272 * n) (sum_at sums state) (path survivors n state)

-- no branch costs more than 272
pub branch-small : (sample : ℤ) → FitsSigned w8 sample → (state : State) → branch state sample ≤ 272
branch-small sample h low_three = lit≤ tt
branch-small sample h low_two = omega (arith, ints)
branch-small sample h low_one = omega (arith, ints)
branch-small sample h high_one = omega (arith, ints)
branch-small sample h high_two = omega (arith, ints)
branch-small sample h high_three = lit≤ tt

-- a word's path does not read what later steps keep
path-set : (survivors : List ℕ) (i kept n : ℕ) (state : State) → n ≤ i → path (set survivors i kept) n state ≡ path survivors n state
path-set survivors i kept zero state h = refl
path-set survivors i kept (suc n) state h =
    let other : n ≢ i = omega arith in
    rw (get_or-set_other survivors i n kept 0 other) (ap (λ w. is_high_state state ∷ w) (path-set survivors i kept n (state_before (get_or survivors n 0) state) (omega arith)))

path-cond : (survivors : List ℕ) (n : ℕ) (b : Bool) (s t : State) → path survivors n (cond b s t) ≡ cond b (path survivors n s) (path survivors n t)
path-cond survivors n true s t = refl
path-cond survivors n false s t = refl

-- what a step keeps says its two choices
low_choice : (low high : Bool) → state_before (survivor low high) low_three ≡ cond low low_two low_three
low_choice false false = refl
low_choice false true = refl
low_choice true false = refl
low_choice true true = refl

high_choice : (low high : Bool) → state_before (survivor low high) high_three ≡ cond high high_three high_two
high_choice false false = refl
high_choice false true = refl
high_choice true false = refl
high_choice true true = refl

-- the same, under equal numbers and words
Kept-at : (samples : List ℤ) (P : List Bool → Type 0) (bound bound' sum sum' : ℕ) (word word' : List Bool) → bound ≡ bound' → sum ≡ sum' → word ≡ word' → Kept samples P bound sum word → Kept samples P bound' sum' word'
Kept-at samples P bound bound' sum sum' word word' e f g h =
    subst (λ b. Kept samples P b sum' word') e (subst (λ s. Kept samples P bound s word') f (subst (λ w. Kept samples P bound sum w) g h))

-- a word that leads to a state, but for its last level, leads to one that the state is entered from
came_from : (n : ℕ) (state : State) (b : Bool) (w : List Bool) → Leads (suc n) state (b ∷ w) → (before : State) × Leads n before w × EntersFrom state b before
came_from n state b w h =
    let s = last_step b (state_of w) state h.leads in
    (s.0, record { long = omega (arith, h.long); leads = s.1 }, enters b s.0 state s.2)

-- a word that leads to a state leads on
goes_to : (n : ℕ) (state before : State) (level : Bool) (w : List Bool) → after level before ≡ Some state → Leads n before w → (length w ≡ n) × (state_of (level ∷ w) ≡ Some state)
goes_to n state before level w e h = (h.long, ap (option_and_then (after level)) h.leads ∙ e)

-- a state with one state before it
from_one : (samples : List ℤ) (n bound sum : ℕ) (state before : State) (level : Bool) (word : List Bool)
    → after level before ≡ Some state
    → ((b : Bool) (s : State) → EntersFrom state b s → (b ≡ level) × (s ≡ before))
    → branch state (get_or samples n (pos 0)) ≤ 272
    → Kept samples (Leads n before) bound sum word
    → Kept samples (Leads (suc n) state) (bound + 272) (sum + branch state (get_or samples n (pos 0))) (level ∷ word)
from_one samples n bound sum state before level word e sources small kept =
    Kept-longer samples (Leads n before) n bound sum (branch state (get_or samples n (pos 0))) 272 level state word refl small
    (λ w h. goes_to n state before level w e h)
    (λ b w h.
    let c = came_from n state b w h in
    let s = sources b c.0 c.2 in
    (s.0, subst (λ x. Leads n x w) s.1 c.1))
    kept

-- a state with two states before it, the words of the first of which come first
from_two : (samples : List ℤ) (n bound a b : ℕ) (state first second : State) (level : Bool) (word other : List Bool)
    → after level first ≡ Some state → after level second ≡ Some state
    → ((c : Bool) (s : State) → EntersFrom state c s → (c ≡ level) × ((s ≡ first) ⊎ (s ≡ second)))
    → branch state (get_or samples n (pos 0)) ≤ 272
    → rank first < rank second → bound < 2 ^ 62
    → Kept samples (Leads n first) bound a word → Kept samples (Leads n second) bound b other
    → Kept samples (Leads (suc n) state) (bound + 272) (cond (ltb b a) b a + branch state (get_or samples n (pos 0))) (level ∷ cond (ltb b a) other word)
from_two samples n bound a b state first second level word other e f sources small order low kept kept' =
    Kept-longer samples (λ w. Leads n first w ⊎ Leads n second w) n bound (cond (ltb b a) b a) (branch state (get_or samples n (pos 0))) 272 level state (cond (ltb b a) other word) refl small
    (λ w h. elim h [ inl x ↦ goes_to n state first level w e x | inr x ↦ goes_to n state second level w f x ])
    (λ c w h.
    let d = came_from n state c w h in
    let s = sources c d.0 d.2 in
    (s.0, elim s.1 [ inl x ↦ inl (subst (λ y. Leads n y w) x d.1) | inr x ↦ inr (subst (λ y. Leads n y w) x d.1) ]))
    (Kept-either samples (Leads n first) (Leads n second) bound a b word other low
    (λ w v x y. Precedes-by_rank w v first second (x.long ∙ sym y.long) x.leads y.leads order)
    kept kept')

module _ (samples : List ℤ) (n : ℕ) (old new : Sums) (survivors : List ℕ) (kept : ℕ)
    (all : AllKept samples n old survivors) (steps : Steps old (get_or samples n (pos 0)) new kept)
    (small : (state : State) → branch state (get_or samples n (pos 0)) ≤ 272) (low : 272 * n < 2 ^ 62) (room : n < length survivors) where
  -- the path one step longer
  path-more : (state : State) → path (set survivors n kept) (suc n) state ≡ is_high_state state ∷ path survivors n (state_before kept state)
  path-more state =
      rw (get_or-set_same survivors n kept 0 room) (ap (λ w. is_high_state state ∷ w) (path-set survivors n kept n (state_before kept state) le_refl'))
    where
      le_refl' : n ≤ n
      le_refl' = omega arith

  bound : 272 * n + 272 ≡ 272 * suc n
  bound = omega arith

  low_three_path : path (set survivors n kept) (suc n) low_three ≡ false ∷ cond (ltb old.low_two old.low_three) (path survivors n low_two) (path survivors n low_three)
  low_three_path = path-more low_three ∙ ap (λ w. false ∷ w) (ap (path survivors n) (ap (λ k. state_before k low_three) steps.choices ∙ low_choice _ _) ∙ path-cond survivors n _ low_two low_three)

  high_three_path : path (set survivors n kept) (suc n) high_three ≡ true ∷ cond (ltb old.high_three old.high_two) (path survivors n high_three) (path survivors n high_two)
  high_three_path = path-more high_three ∙ ap (λ w. true ∷ w) (ap (path survivors n) (ap (λ k. state_before k high_three) steps.choices ∙ high_choice _ _) ∙ path-cond survivors n _ high_three high_two)

  pub AllKept-more : AllKept samples (suc n) new (set survivors n kept)
  AllKept-more low_three =
      Kept-at samples _ _ _ _ _ _ _ bound (sym steps.low_three) (sym low_three_path)
      (from_two samples n (272 * n) old.low_three old.low_two low_three low_three low_two false (path survivors n low_three) (path survivors n low_two) refl refl (λ _ _ h. h) (small low_three) (lit< tt) low (all low_three) (all low_two))
  AllKept-more low_two =
      Kept-at samples _ _ _ _ _ _ _ bound (sym steps.low_two) (sym (path-more low_two))
      (from_one samples n (272 * n) old.low_one low_two low_one false (path survivors n low_one) refl (λ _ _ h. h) (small low_two) (all low_one))
  AllKept-more low_one =
      Kept-at samples _ _ _ _ _ _ _ bound (sym steps.low_one) (sym (path-more low_one))
      (from_one samples n (272 * n) old.high_three low_one high_three false (path survivors n high_three) refl (λ _ _ h. h) (small low_one) (all high_three))
  AllKept-more high_one =
      Kept-at samples _ _ _ _ _ _ _ bound (sym steps.high_one) (sym (path-more high_one))
      (from_one samples n (272 * n) old.low_three high_one low_three true (path survivors n low_three) refl (λ _ _ h. h) (small high_one) (all low_three))
  AllKept-more high_two =
      Kept-at samples _ _ _ _ _ _ _ bound (sym steps.high_two) (sym (path-more high_two))
      (from_one samples n (272 * n) old.high_one high_two high_one true (path survivors n high_one) refl (λ _ _ h. h) (small high_two) (all high_one))
  AllKept-more high_three =
      Kept-at samples _ _ _ _ _ _ _ bound (sym steps.high_three) (sym high_three_path)
      (from_two samples n (272 * n) old.high_two old.high_three high_three high_two high_three true (path survivors n high_two) (path survivors n high_three) refl refl (λ _ _ h. h) (small high_three) (lit< tt) low (all high_two) (all high_three))

-- before the first sample: the empty word, in the state of a long high run
pub AllKept-none : (samples : List ℤ) (survivors : List ℕ) → AllKept samples 0 (record { low_three = 2 ^ 62; low_two = 2 ^ 62; low_one = 2 ^ 62; high_one = 2 ^ 62; high_two = 2 ^ 62; high_three = 0 }) survivors
AllKept-none samples survivors low_three = inr (nowhere low_three (λ e. cc))
AllKept-none samples survivors low_two = inr (nowhere low_two (λ e. cc))
AllKept-none samples survivors low_one = inr (nowhere low_one (λ e. cc))
AllKept-none samples survivors high_one = inr (nowhere high_one (λ e. cc))
AllKept-none samples survivors high_two = inr (nowhere high_two (λ e. cc))
AllKept-none samples survivors high_three = inl record {
  member = record { long = refl; leads = refl };
  sum_is = refl;
  bounded = lit≤ tt;
  least = only;
}
  where
    only : (other : List Bool) → Leads 0 high_three other → IsAtLeastAsGood samples [] other
    only [] h = inr (refl, tt)
    only (b ∷ other) h = absurd (omega (arith, h.long))

-- while each state's best is kept, one step more fits
pub HasRoom-from_kept : (samples : List ℤ) (n : ℕ) (sums : Sums) (survivors : List ℕ) → n ≤ 2 ^ 48 → AllKept samples n sums survivors → HasRoom sums
HasRoom-from_kept samples n sums survivors h all = record {
  low_three = omega (arith, Kept-small samples _ _ _ _ (all low_three));
  low_two = omega (arith, Kept-small samples _ _ _ _ (all low_two));
  low_one = omega (arith, Kept-small samples _ _ _ _ (all low_one));
  high_one = omega (arith, Kept-small samples _ _ _ _ (all high_one));
  high_two = omega (arith, Kept-small samples _ _ _ _ (all high_two));
  high_three = omega (arith, Kept-small samples _ _ _ _ (all high_three));
}
