-- the places so far hold the word's bits
use Rattle.std.proofs.Common.{◌≡◌, ℕ, ◌-◌, ◌<◌, get_or, false, eqb}
use Rattle.std.specs.Int.{bit_at}
use Rattle.rll_code.proofs.encoder.put_end.Given as goal

abbrev pub invariant-loop-k : goal.invariant-loop-k
invariant-loop-k l = (j : ℕ) → j < l.k → get_or l.places j false ≡ eqb (bit_at l.word (23 - j)) 1
