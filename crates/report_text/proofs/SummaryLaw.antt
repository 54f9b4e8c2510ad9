-- A summary, printed, is read as the same numbers.
use Rattle.std.proofs.Common.{◌≡◌, ℕ, ◌^◌, ◌<◌, ◌≤◌, true, List, ◌∷◌, length, Some, refl, ap, ◌∙◌, arith, lit<}
use Rattle.std.specs.Prelude.{codes, decimal}
use Rattle.std.specs.List.{list_all}
use Rattle.text_words.specs.Line.{words_of}
use Rattle.text_words.proofs.Words.{words_of-spaced}
use Rattle.report_text.specs.declared.counts.Counts.{Counts}
use Rattle.report_text.specs.Summary.{summary_words, summary_text}
use Rattle.report_text.specs.SummaryReading.{count_of, counts_by, counts_from}
use Rattle.report_text.specs.Reading.{AreCounts}
use Rattle.report_text.proofs.FieldLaws.{number_again}
use Rattle.report_text.proofs.Plain.{plain_decimal}
use Rattle.report_text.proofs.LineWords.{no_blank, no_blanks, have_no_blank}

count_again : (n : ℕ) → n < 2 ^ 64 → count_of (decimal n) ≡ Some n
count_again n fits = number_again 0 18446744073709551615 n (omega arith) (omega (arith, fits)) (lit< tt)

free : (n : ℕ) → n < 2 ^ 64 → no_blank (decimal n) ≡ true
free n fits = no_blanks (decimal n) (plain_decimal n fits)

pub summary_free : (counts : Counts) → AreCounts counts → list_all no_blank (summary_words counts) ≡ true
summary_free counts fit = rw (free counts.turns fit.turns, free counts.commands fit.commands, free counts.good fit.good, free counts.check fit.check, free counts.full fit.full, free counts.aborted fit.aborted, free counts.cut fit.cut, free counts.strays fit.strays) refl

pub summary_split : (counts : Counts) → AreCounts counts → words_of (summary_text counts) ≡ codes "turns" ∷ summary_words counts
summary_split counts fit = words_of-spaced (codes "turns") (summary_words counts) (have_no_blank (codes "turns" ∷ summary_words counts) (summary_free counts fit))

pub counts_again : (counts : Counts) → AreCounts counts → counts_from (words_of (summary_text counts)) ≡ Some counts
unfolding counts_by
counts_again counts fit = ap counts_from (summary_split counts fit) ∙ read
  where
    read : counts_from (codes "turns" ∷ summary_words counts) ≡ Some counts
    read = rw (count_again counts.turns fit.turns, count_again counts.commands fit.commands, count_again counts.good fit.good, count_again counts.check fit.check, count_again counts.full fit.full, count_again counts.aborted fit.aborted, count_again counts.cut fit.cut, count_again counts.strays fit.strays) refl

pub sixteen : (line : List ℕ) (counts : Counts) → AreCounts counts → line ≡ summary_text counts → length (words_of line) ≤ 16
sixteen line counts fit is =
    let count : length (words_of line) ≡ 16 = ap length (ap words_of is ∙ summary_split counts fit) in
    omega (arith, count)
