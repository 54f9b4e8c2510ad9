use Rattle.std.proofs.Common.{◌≡◌, ◌≤◌, length}
use Rattle.script_text.specs.Standing.{at_start}
use Rattle.script_text.specs.Meaning.{lines_of, behind_lines}
use Rattle.script_text.proofs.read.read_script.Given as goal

abbrev pub invariant-loop-rest : goal.invariant-loop-rest
invariant-loop-rest l = record { few : l.number ≤ 65537; rest : behind_lines l.number l.standing (lines_of l.rest) ≡ behind_lines 1 at_start (lines_of l.fn.bytes) }

abbrev pub decreases-loop-rest : goal.decreases-loop-rest
decreases-loop-rest l = length l.rest
