-- as many words as were taken, or more
use Rattle.std.proofs.Common.{◌∙◌, refl, sym, length, arith}
use Rattle.std.proofs.lemmas.Bool.{eqb-true, false≢true}
use Rattle.text_words.specs.Line.{words_of}
use Rattle.text_words.proofs.Splitting.{few_words, many_words}
use Rattle.text_words.proofs.line.read_words.Goals as goal

pub returns-then-is_full-clause-few : goal.returns-then-is_full-clause-few
returns-then-is_full-clause-few g c =
    let full = eqb-true (length c.loop-left.words.items) g.row.MOST (sym c.is_full.ensures.value ∙ c.if-is_full.true) in
    let more = many_words c.loop-left.words.items c.in-Some.text.now (words_of c.args.line.now) g.row.MOST (rw c.in-Some.is at c.loop-left.invariant.whole) full in
    (λ e. absurd (false≢true e), λ few. absurd (omega (arith, more, few)))

pub returns-clause-few : goal.returns-clause-few
returns-clause-few g c =
    (λ _. few_words c.loop-left.words.items (words_of c.args.line.now) g.row.MOST (rw c.in_default.is at c.loop-left.invariant.whole) c.loop-left.invariant.fits, λ _. refl)
