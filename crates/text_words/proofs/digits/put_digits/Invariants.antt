-- the digits of the bytes so far are written
use Rattle.std.proofs.Common.{ℕ, List, ◌≤◌, ◌++◌, ◌-◌, length, take}
use Rattle.text_words.specs.Digits.{hex_of}
use Rattle.text_words.proofs.digits.put_digits.Given as goal

abbrev pub invariant-loop-at : goal.invariant-loop-at
invariant-loop-at g l = record {
  within : l.at ≤ length l.bytes;
  written : (start : _) (text : List ℕ) → g.O.Out.written start text l.fn.out → g.O.Out.written start (text ++ hex_of (take l.at l.bytes)) l.out;
}

abbrev pub decreases-loop-at : goal.decreases-loop-at
decreases-loop-at g l = length l.bytes - l.at
