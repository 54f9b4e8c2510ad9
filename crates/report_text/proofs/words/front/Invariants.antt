-- the words so far, with those to come before the mark, are those before the mark
use Rattle.std.proofs.Common.{◌≡◌, ◌++◌, length}
use Rattle.text_words.specs.Line.{texts_of}
use Rattle.report_text.specs.Marks.{before_mark, from_mark, words_in}
use Rattle.report_text.proofs.words.front.Given as goal

abbrev pub invariant-loop-word : goal.invariant-loop-word
invariant-loop-word l = record {
  front : texts_of l.front.items ++ before_mark (words_in l.left) ≡ before_mark (words_in l.fn.words);
  left : from_mark (words_in l.left) ≡ from_mark (words_in l.fn.words);
}

abbrev pub decreases-loop-word : goal.decreases-loop-word
decreases-loop-word l = length (words_in l.left)
