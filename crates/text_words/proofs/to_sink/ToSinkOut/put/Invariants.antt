-- what was taken of the piece is written
use Rattle.std.proofs.Common.{ℕ, List, ◌≤◌, ◌++◌, ◌+◌, ◌-◌, length, take}
use Rattle.text_words.specs.ToSink.{IsWritten}
use Rattle.text_words.proofs.to_sink.ToSinkOut.put.Given as goal

abbrev pub invariant-loop-at : goal.invariant-loop-at
invariant-loop-at g l = record {
  within : l.at ≤ length l.piece;
  written : (start : _) (text : List ℕ) → IsWritten g.K.Sink.held g.K.Sink.faults start text l.fn.self → IsWritten g.K.Sink.held g.K.Sink.faults start (text ++ take l.at l.piece) l.self;
}

abbrev pub decreases-loop-at : goal.decreases-loop-at
decreases-loop-at g l = length l.piece - l.at + length l.self.gathered
