use Rattle.rll_code.proofs.Encoding.{Encoded}
use Rattle.rll_code.proofs.encoder.encode.Given as goal

abbrev pub invariant-loop-i : goal.invariant-loop-i
invariant-loop-i l = Encoded l.bytes l.out l.state l.i
