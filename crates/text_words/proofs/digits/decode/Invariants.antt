-- while each character was a digit, the bytes so far are theirs; else the digits give no bytes
use Rattle.std.proofs.Common.{◌≡◌, ◌<◌, ◌≤◌, ◌*◌, take, drop, None}
use Rattle.std.specs.Result.{result_ok}
use Rattle.hex.specs.Hex.{decode_pairs}
use Rattle.hex.proofs.Pairs.{prepend}
use Rattle.text_words.proofs.digits.decode.Given as goal

abbrev pub invariant-loop-i : goal.invariant-loop-i
invariant-loop-i l = record {
  digits : l.most < 16 → decode_pairs 0 l.digits ≡ prepend (take l.i l.bytes) (decode_pairs (2 * l.i) (drop (2 * l.i) l.digits));
  other : 16 ≤ l.most → result_ok (decode_pairs 0 l.digits) ≡ None;
}
