-- the bytes so far are the same
use Rattle.std.proofs.Common.{◌≡◌, take}
use Rattle.text_words.proofs.compare.behind_short.Given as goal

abbrev pub invariant-loop-i : goal.invariant-loop-i
invariant-loop-i l = take l.i l.text ≡ take l.i l.piece
