use Rattle.run_picture.proofs.WordLaws.{first_words}
use Rattle.run_picture.proofs.laws.words_are_the_reports.Goals as goal

pub returns : goal.returns
returns c = first_words
