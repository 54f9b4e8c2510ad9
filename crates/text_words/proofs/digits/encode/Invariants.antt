-- the digits so far, and those of the bytes to come
use Rattle.std.proofs.Common.{◌≡◌, ◌*◌, ◌++◌, take, drop}
use Rattle.hex.specs.Hex.{encode_with, upper_digits}
use Rattle.text_words.proofs.digits.encode.Given as goal

abbrev pub invariant-loop-i : goal.invariant-loop-i
invariant-loop-i l = take (2 * l.i) l.digits ++ encode_with upper_digits (drop l.i l.bytes) ≡ encode_with upper_digits l.bytes
