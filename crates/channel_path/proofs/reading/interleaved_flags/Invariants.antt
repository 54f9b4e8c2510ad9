-- the flags so far are those of the word
use Rattle.std.proofs.Common.{◌≡◌, ◌*◌, ◌+◌, ◌<◌, ℕ}
use Rattle.std.specs.Prelude.{slice_index_or, false}
use Rattle.channel_path.proofs.reading.interleaved_flags.Given as goal

abbrev pub invariant-loop-k : goal.invariant-loop-k
invariant-loop-k l = (n : ℕ) → n < l.k → slice_index_or l.flag-items n false ≡ slice_index_or l.flags (4 * n + l.i) false
