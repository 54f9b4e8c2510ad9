use Rattle.report_text.specs.Marks.{words_left}
use Rattle.report_text.proofs.LineWords.{first_word, few_words_of}
use Rattle.report_text.proofs.words.behind_first.Goals as goal

pub returns-clause-words : goal.returns-clause-words
returns-clause-words c = (c.first_part.result.0.now, first_word c.args.line.now c.first_part.result.0.now c.first_part.result.1 c.first_part.ensures)

pub returns-clause-few : goal.returns-clause-few
returns-clause-few c =
    few_words_of c.args.line.now c.first_part.result.0.now (words_left c.first_part.result.1) (first_word c.args.line.now c.first_part.result.0.now c.first_part.result.1 c.first_part.ensures)
