-- Words and the states they lead to: where a state comes from, and the order of words by their states.
use Rattle.std.proofs.Common.{◌≡◌, ◌⊎◌, ℕ, ◌+◌, ◌-◌, ◌<◌, min, max, Bool, true, false, List, [], ◌∷◌, length, Option, Some, None, refl, subst, inl, inr, arith}
use Rattle.std.specs.Option.{option_and_then}
use Rattle.prml_viterbi.specs.Trellis.{State, low_three, low_two, low_one, high_one, high_two, high_three, after, state_of, Precedes}

-- what a step into a state says of the level and of the state before
abbrev pub EntersFrom : State → Bool → State → Type 0
EntersFrom low_three b before = (b ≡ false) × ((before ≡ low_three) ⊎ (before ≡ low_two))
EntersFrom low_two b before = (b ≡ false) × (before ≡ low_one)
EntersFrom low_one b before = (b ≡ false) × (before ≡ high_three)
EntersFrom high_one b before = (b ≡ true) × (before ≡ low_three)
EntersFrom high_two b before = (b ≡ true) × (before ≡ high_one)
EntersFrom high_three b before = (b ≡ true) × ((before ≡ high_two) ⊎ (before ≡ high_three))

pub enters : (b : Bool) (before state : State) → after b before ≡ Some state → EntersFrom state b before
enters false low_three state e = let h : low_three ≡ state = cc in subst (λ s. EntersFrom s false low_three) h (refl, inl refl)
enters false low_two state e = let h : low_three ≡ state = cc in subst (λ s. EntersFrom s false low_two) h (refl, inr refl)
enters false low_one state e = let h : low_two ≡ state = cc in subst (λ s. EntersFrom s false low_one) h (refl, refl)
enters false high_one state e = cc
enters false high_two state e = cc
enters false high_three state e = let h : low_one ≡ state = cc in subst (λ s. EntersFrom s false high_three) h (refl, refl)
enters true low_three state e = let h : high_one ≡ state = cc in subst (λ s. EntersFrom s true low_three) h (refl, refl)
enters true low_two state e = cc
enters true low_one state e = cc
enters true high_one state e = let h : high_two ≡ state = cc in subst (λ s. EntersFrom s true high_one) h (refl, refl)
enters true high_two state e = let h : high_three ≡ state = cc in subst (λ s. EntersFrom s true high_two) h (refl, inl refl)
enters true high_three state e = let h : high_three ≡ state = cc in subst (λ s. EntersFrom s true high_three) h (refl, inr refl)

-- the step that a word's last level makes
pub last_step : (b : Bool) (o : Option State) (state : State) → option_and_then (after b) o ≡ Some state → (before : State) × (o ≡ Some before) × (after b before ≡ Some state)
last_step b None state e = cc
last_step b (Some before) state e = (before, refl, e)

-- the place of a state in the order in which equal sums are decided
abbrev pub rank : State → ℕ
rank low_three = 0
rank low_two = 1
rank low_one = 2
rank high_one = 3
rank high_two = 4
rank high_three = 5

pub rank-after_low : (before state : State) → after false before ≡ Some state → rank state ≡ min (rank before - 1) 2
rank-after_low low_three state e = let h : low_three ≡ state = cc in subst (λ s. rank s ≡ 0) h refl
rank-after_low low_two state e = let h : low_three ≡ state = cc in subst (λ s. rank s ≡ 0) h refl
rank-after_low low_one state e = let h : low_two ≡ state = cc in subst (λ s. rank s ≡ 1) h refl
rank-after_low high_one state e = cc
rank-after_low high_two state e = cc
rank-after_low high_three state e = let h : low_one ≡ state = cc in subst (λ s. rank s ≡ 2) h refl

pub rank-after_high : (before state : State) → after true before ≡ Some state → rank state ≡ max 3 (min (rank before + 1) 5)
rank-after_high low_three state e = let h : high_one ≡ state = cc in subst (λ s. rank s ≡ 3) h refl
rank-after_high low_two state e = cc
rank-after_high low_one state e = cc
rank-after_high high_one state e = let h : high_two ≡ state = cc in subst (λ s. rank s ≡ 4) h refl
rank-after_high high_two state e = let h : high_three ≡ state = cc in subst (λ s. rank s ≡ 5) h refl
rank-after_high high_three state e = let h : high_three ≡ state = cc in subst (λ s. rank s ≡ 5) h refl

-- of words as long, the one whose state ranks first comes first
pub Precedes-by_rank : (word other : List Bool) (state end : State) → length word ≡ length other → state_of word ≡ Some state → state_of other ≡ Some end → rank state < rank end → Precedes word other
Precedes-by_rank [] [] state end long e f h = tt
Precedes-by_rank [] (c ∷ other) state end long e f h = absurd (omega arith)
Precedes-by_rank (b ∷ word) [] state end long e f h = absurd (omega arith)
Precedes-by_rank (false ∷ word) (true ∷ other) state end long e f h = tt
Precedes-by_rank (true ∷ word) (false ∷ other) state end long e f h =
    let s = last_step true (state_of word) state e in
    let t = last_step false (state_of other) end f in
    let x = rank-after_high s.0 state s.2 in
    let y = rank-after_low t.0 end t.2 in
    absurd (omega arith)
Precedes-by_rank (false ∷ word) (false ∷ other) state end long e f h =
    let s = last_step false (state_of word) state e in
    let t = last_step false (state_of other) end f in
    let x = rank-after_low s.0 state s.2 in
    let y = rank-after_low t.0 end t.2 in
    Precedes-by_rank word other s.0 t.0 (omega arith) s.1 t.1 (omega arith)
Precedes-by_rank (true ∷ word) (true ∷ other) state end long e f h =
    let s = last_step true (state_of word) state e in
    let t = last_step true (state_of other) end f in
    let x = rank-after_high s.0 state s.2 in
    let y = rank-after_high t.0 end t.2 in
    Precedes-by_rank word other s.0 t.0 (omega arith) s.1 t.1 (omega arith)
