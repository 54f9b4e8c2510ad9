-- the words so far, and those of the text left, are the line's
use Rattle.std.proofs.Common.{◌≡◌, ◌≤◌, ◌++◌, length}
use Rattle.text_words.specs.Line.{words_of, texts_of}
use Rattle.text_words.proofs.Splitting.{words_left}
use Rattle.text_words.proofs.line.read_words.Given as goal

abbrev pub invariant-loop-left : goal.invariant-loop-left
invariant-loop-left g l = record {
  fits : length l.words.items ≤ g.row.MOST;
  whole : texts_of l.words.items ++ words_left l.left ≡ words_of l.fn.line;
}

abbrev pub decreases-loop-left : goal.decreases-loop-left
decreases-loop-left g l = length (words_left l.left)
