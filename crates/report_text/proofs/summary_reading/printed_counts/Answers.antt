-- A summary has sixteen words, and its numbers are read.
use Rattle.std.proofs.Common.{[], sym, ap, ◌∙◌}
use Rattle.std.specs.Prelude.{Some}
use Rattle.std.proofs.lemmas.Bool.{false≢true}
use Rattle.text_words.specs.Line.{texts_of, words_of}
use Rattle.report_text.specs.Summary.{summary_text}
use Rattle.report_text.specs.SummaryReading.{counts_from}
use Rattle.report_text.proofs.LineWords.{same_some, none_some}
use Rattle.report_text.proofs.SummaryLaw.{counts_again, sixteen}
use Rattle.report_text.proofs.summary_reading.printed_counts.Goals as goal

pub returns-in-None-clause-found : goal.returns-in-None-clause-found
returns-in-None-clause-found c = λ counts fit is. absurd (false≢true (c.in-None.ensures.few.1 (sixteen c.args.line.now counts fit is)))

pub returns-then-is_all-clause-found : goal.returns-then-is_all-clause-found
returns-then-is_all-clause-found c = λ counts fit is.
    let words = ap texts_of c.as_slice.ensures.value ∙ c.in-Some.ensures.words in
    c.in-Some-counts_from.ensures.value ∙ (ap counts_from (words ∙ ap words_of is) ∙ counts_again counts fit)

pub returns-else-is_all-clause-found : goal.returns-else-is_all-clause-found
returns-else-is_all-clause-found c = λ counts fit is.
    let words = ap texts_of c.as_slice.ensures.value ∙ c.in-Some.ensures.words in
    let same = same_some (c.in-Some-counts_from.ensures.value ∙ (ap counts_from (words ∙ ap words_of is) ∙ counts_again counts fit)) in
    let text = c.put_counts.ensures c.new-out.result [] c.new-out.ensures.fresh in
    absurd (false≢true (sym c.if-is_all.false ∙ (c.is_all.ensures c.new-out.result _ text).1 (c.new-out.ensures.rest ∙ (is ∙ ap summary_text (sym same)))))

pub returns-in-None-counts_from-clause-found : goal.returns-in-None-counts_from-clause-found
returns-in-None-counts_from-clause-found c = λ counts fit is.
    let words = ap texts_of c.as_slice.ensures.value ∙ c.in-Some.ensures.words in
    absurd (none_some (c.in-None-counts_from.ensures.value ∙ (ap counts_from (words ∙ ap words_of is) ∙ counts_again counts fit)))
