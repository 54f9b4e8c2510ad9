-- What the words of a summary are read as.
use Rattle.std.specs.Prelude.{ℕ, List, [], ◌∷◌, Option, Some, None}
use Rattle.report_text.specs.declared.counts.Counts.{Counts}
use Rattle.report_text.specs.Steps.{◌>>=◌}
use Rattle.report_text.specs.Fields.{number_of}

abbrev pub count_of : List ℕ → Option ℕ
count_of word = number_of 0 18446744073709551615 word

unfoldable pub counts_by : List ℕ → List ℕ → List ℕ → List ℕ → List ℕ → List ℕ → List ℕ → List ℕ → Option Counts
counts_by t c g k f a x s = do
  turns ← count_of t
  commands ← count_of c
  good ← count_of g
  check ← count_of k
  full ← count_of f
  aborted ← count_of a
  cut ← count_of x
  strays ← count_of s
  Some (record { turns = turns; commands = commands; good = good; check = check; full = full; aborted = aborted; cut = cut; strays = strays })

-- the numbers at every other place, behind the first four
abbrev pub later_counts : List ℕ → List ℕ → List ℕ → List ℕ → List (List ℕ) → Option Counts
later_counts t c g k (w5 ∷ f ∷ w6 ∷ a ∷ w7 ∷ x ∷ w8 ∷ s ∷ []) = counts_by t c g k f a x s
later_counts t c g k other = None

-- the numbers at every other place
abbrev pub counts_from : List (List ℕ) → Option Counts
counts_from (w1 ∷ t ∷ w2 ∷ c ∷ w3 ∷ g ∷ w4 ∷ k ∷ rest) = later_counts t c g k rest
counts_from other = None
