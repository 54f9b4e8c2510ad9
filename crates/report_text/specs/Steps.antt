-- Steps that may find nothing.
use Rattle.std.specs.Prelude.{ℕ, Bool, true, false, List, [], ◌∷◌, Option, None, Some}

infixl 10 ◌>>=◌
abbrev pub ◌>>=◌ : {A B : Type 0} → Option A → (A → Option B) → Option B
None >>= f = None
Some x >>= f = f x

-- a test that has to pass
abbrev pub demand : Bool → Option (Unit {0})
demand true = Some tt
demand false = None

-- what is read where no word stands
abbrev pub of_none : {A : Type 0} → A → List (List ℕ) → Option A
of_none whole [] = Some whole
of_none whole other = None

-- what just one word is read as
abbrev pub of_one : {A : Type 0} → (List ℕ → Option A) → List (List ℕ) → Option A
of_one read (a ∷ []) = read a
of_one read other = None

-- two words
abbrev pub of_two : {A : Type 0} → (List ℕ → List ℕ → Option A) → List (List ℕ) → Option A
of_two read (a ∷ b ∷ []) = read a b
of_two read other = None

-- three words
abbrev pub of_three : {A : Type 0} → (List ℕ → List ℕ → List ℕ → Option A) → List (List ℕ) → Option A
of_three read (a ∷ b ∷ c ∷ []) = read a b c
of_three read other = None
