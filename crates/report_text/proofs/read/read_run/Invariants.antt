-- the turns so far are read, and of turns that are told the others are left
use Rattle.std.proofs.Common.{length}
use Rattle.report_text.proofs.RunLemmas.{place_at, ReadSo}
use Rattle.report_text.proofs.read.read_run.Given as goal

abbrev pub invariant-loop-line : goal.invariant-loop-line
invariant-loop-line l = ReadSo l.bytes l.rest l.turns (place_at l.number l.minutes l.shown)

abbrev pub decreases-loop-line : goal.decreases-loop-line
decreases-loop-line l = length l.rest
