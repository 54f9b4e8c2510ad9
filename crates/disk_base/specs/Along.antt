-- Rules that hold along a list, from a state that each item steps on.
use Rattle.std.specs.Prelude.{Bool, true, ◌&&◌, List, [], ◌∷◌, Option, None, Some, ℕ, ◌+◌, if◌then◌else◌}
use Rattle.std.specs.Option.{option_map}

-- a rule that holds of each item of a list, and of the state that those before it left
abbrev pub Along : {S T : Type 0} → (S → T → S) → (S → T → Type 0) → S → List T → Type 0
Along step P s [] = Unit {0}
Along step P s (t ∷ ts) = P s t × Along step P (step s t) ts

-- the same with a test
abbrev pub all_along : {S T : Type 0} → (S → T → S) → (S → T → Bool) → S → List T → Bool
all_along step p s [] = true
all_along step p s (t ∷ ts) = p s t && all_along step p (step s t) ts

-- the place of the first item at which the test fails
abbrev pub first_failing : {S T : Type 0} → (S → T → S) → (S → T → Bool) → S → List T → Option ℕ
first_failing step p s [] = None
first_failing step p s (t ∷ ts) = if p s t then option_map (λ n. n + 1) (first_failing step p (step s t) ts) else Some 0
