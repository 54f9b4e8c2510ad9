-- How much a call took from a source or gave to a sink, where their bytes are known.
use Rattle.std.specs.Prelude.{◌≡◌, ℕ, ◌≤◌, List, length, take, Option}
use Rattle.std.specs.Io.KnownBytes.{Consumes, Appends}

-- a front of the bytes left was consumed, of at most n bytes
abbrev pub ConsumesAtMost : Option (List ℕ) → Option (List ℕ) → ℕ → Type 0
ConsumesAtMost old new n = (taken : List ℕ) × Consumes old new taken × (length taken ≤ n)

-- a front of the bytes left was consumed, of exactly n bytes
abbrev pub ConsumesExactly : Option (List ℕ) → Option (List ℕ) → ℕ → Type 0
ConsumesExactly old new n = (taken : List ℕ) × Consumes old new taken × (length taken ≡ n)

-- the bytes held grew by a front of a text
abbrev pub AppendsFront : Option (List ℕ) → Option (List ℕ) → List ℕ → Type 0
AppendsFront old new text = (n : ℕ) × Appends old new (take n text)
