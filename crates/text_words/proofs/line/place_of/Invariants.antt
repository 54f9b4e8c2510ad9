-- the byte is none of those so far
use Rattle.memchr.specs.Find.{Nowhere, Passes, is_byte}
use Rattle.text_words.proofs.line.place_of.Given as goal

abbrev pub invariant-loop-i : goal.invariant-loop-i
invariant-loop-i l = Nowhere (Passes (is_byte l.byte) l.text) 0 l.i
