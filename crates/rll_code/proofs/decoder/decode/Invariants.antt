use Rattle.rll_code.proofs.Decoding.{Decoded}
use Rattle.rll_code.proofs.decoder.decode.Given as goal

abbrev pub invariant-loop-i : goal.invariant-loop-i
invariant-loop-i l = Decoded l.chan l.out l.flags l.state l.bits l.marks l.i
