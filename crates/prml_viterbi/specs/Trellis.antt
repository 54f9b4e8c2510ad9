-- The six states of the detector, and the words that reach them. Here a word is a list of levels,
-- high or low, the last first.
use Rattle.std.specs.Prelude.{◌≡◌, ◌⊎◌, ℕ, zero, suc, ◌+◌, ◌<◌, ◌/◌, ◌%◌, ◌==◌, Bool, true, false, List, [], ◌∷◌, length, Option, Some, None, ℤ, pos, ◌+ℤ◌, ◌-ℤ◌, unsigned_abs, slice_index_or, slice_index, if◌then◌else◌}
use Rattle.std.specs.Option.{option_and_then}
use Rattle.prml_viterbi.specs.Levels.{is_high}

-- a level and the length of its run, three standing for three and more
pub data State : Type 0 where
  low_three : State
  low_two : State
  low_one : State
  high_one : State
  high_two : State
  high_three : State

-- the state after one level more, if that level is allowed
abbrev pub after : Bool → State → Option State
after false low_three = Some low_three
after false low_two = Some low_three
after false low_one = Some low_two
after false high_one = None
after false high_two = None
after false high_three = Some low_one
after true low_three = Some high_one
after true low_two = None
after true low_one = None
after true high_one = Some high_two
after true high_two = Some high_three
after true high_three = Some high_three

-- the state that a word leads to; a long run of high levels stands before it
abbrev pub state_of : List Bool → Option State
state_of [] = Some high_three
state_of (level ∷ word) = option_and_then (after level) (state_of word)

-- what a sample costs in a state: a 64th of the squared difference less the sample's own square, and
-- 128 more, so that none is negative
abbrev pub branch : State → ℤ → ℕ
branch low_three sample = 128
branch low_two sample = unsigned_abs (sample +ℤ pos 144)
branch low_one sample = unsigned_abs (sample +ℤ pos 144)
branch high_one sample = unsigned_abs (pos 144 -ℤ sample)
branch high_two sample = unsigned_abs (pos 144 -ℤ sample)
branch high_three sample = 128

abbrev pub branch_at : Option State → ℤ → ℕ
branch_at None sample = 0
branch_at (Some state) sample = branch state sample

-- the sum of a word's branches
abbrev pub metric : List ℤ → List Bool → ℕ
metric samples [] = 0
metric samples (level ∷ word) =
    metric samples word + branch_at (state_of (level ∷ word)) (slice_index_or samples (length word) (pos 0))

-- of two words as long, the first is the other, or low at the first place where they differ
abbrev pub Precedes : List Bool → List Bool → Type 0
Precedes [] [] = Unit {0}
Precedes [] (b ∷ other) = ⊥
Precedes (a ∷ word) [] = ⊥
Precedes (false ∷ word) (true ∷ other) = Unit {0}
Precedes (true ∷ word) (false ∷ other) = ⊥
Precedes (false ∷ word) (false ∷ other) = Precedes word other
Precedes (true ∷ word) (true ∷ other) = Precedes word other

abbrev pub IsAtLeastAsGood : List ℤ → List Bool → List Bool → Type 0
IsAtLeastAsGood samples word other = (metric samples word < metric samples other)
    ⊎ ((metric samples word ≡ metric samples other) × Precedes word other)

-- a word of n levels that leads to some state, and is at least as good as every such word
pub record IsLeast (samples : List ℤ) (n : ℕ) (word : List Bool) : Type 0 where
  pub state : State
  pub leads : state_of word ≡ Some state
  pub long : length word ≡ n
  pub least : (other : List Bool) (end : State) → length other ≡ n → state_of other ≡ Some end → IsAtLeastAsGood samples word other

-- the number that the code keeps of a state
abbrev pub code : State → ℕ
code low_three = 0
code low_two = 5
code low_one = 10
code high_one = 15
code high_two = 20
code high_three = 25

abbrev pub is_high_state : State → Bool
is_high_state low_three = false
is_high_state low_two = false
is_high_state low_one = false
is_high_state high_one = true
is_high_state high_two = true
is_high_state high_three = true

-- what one step keeps of its two choices: whether run 3 of the low level came from run 2, and run 3
-- of the high level from run 3
abbrev pub survivor : Bool → Bool → ℕ
survivor false false = 0
survivor true false = 1
survivor false true = 2
survivor true true = 3

-- the state before a state, by the two choices
abbrev pub chosen_before : Bool → Bool → State → State
chosen_before low high low_three = if low then low_two else low_three
chosen_before low high low_two = low_one
chosen_before low high low_one = high_three
chosen_before low high high_one = low_three
chosen_before low high high_two = high_one
chosen_before low high high_three = if high then high_three else high_two

-- the state before a state, by what its step kept
abbrev pub state_before : ℕ → State → State
state_before kept state = chosen_before (kept % 2 == 1) (kept / 2 % 2 == 1) state

-- the word that the survivors of the first n steps lead back over from a state
abbrev pub path : List ℕ → ℕ → State → List Bool
path survivors zero state = []
path survivors (suc n) state =
    is_high_state state ∷ path survivors n (state_before (slice_index survivors n) state)

-- the first n levels of a word, the last first
abbrev pub first_levels : List ℤ → ℕ → List Bool
first_levels word zero = []
first_levels word (suc n) = is_high (slice_index_or word n (pos 1)) ∷ first_levels word n

-- some state has this code, and the survivors' word from it is the least
pub record EndsLeast (samples : List ℤ) (survivors : List ℕ) (end : ℕ) : Type 0 where
  pub state : State
  pub coded : code state ≡ end
  pub least : IsLeast samples (length samples) (path survivors (length samples) state)
