use Rattle.std.proofs.Common.{length}
use Rattle.script_text.proofs.standing.+has_empty_word.Given as goal

abbrev pub decreases-has_empty_word : goal.decreases-has_empty_word
decreases-has_empty_word l = length l.words.now
