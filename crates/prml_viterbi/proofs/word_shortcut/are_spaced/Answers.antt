use Rattle.std.proofs.Common.{◌*◌, refl, sym, ◌∙◌, arith}
use Rattle.std.proofs.lemmas.Bool.{false≢true}
use Rattle.bit_words.proofs.BitLists.{length-word_bits}
use Rattle.prml_viterbi.proofs.Spaced.{apart_in_spaced, apart_more, before_next, before_none, spaced_from}
use Rattle.prml_viterbi.proofs.word_shortcut.are_spaced.Goals as goal

pub loop-word-init : goal.loop-word-init
loop-word-init c = record {
  two = omega arith;
  before = before_none _;
  apart = λ p less one. absurd (omega arith);
}

pub loop-word-preserved : goal.loop-word-preserved
loop-word-preserved c =
    let words = c.args.words.now in
    let j = c.loop-word.word-index in
    let i = c.loop-word.invariant in
    record {
      two = omega arith;
      before = before_next words j c.loop-word.before (omega arith) i.two i.before;
      apart = apart_more words j c.loop-word.before (omega arith) i.two i.before (c.is_apart.ensures.0 c.if-not-is_apart.false) i.apart;
    }

pub returns-then-not-is_apart : goal.returns-then-not-is_apart
returns-then-not-is_apart c =
    let i = c.loop-word.invariant in (
      λ no_way. absurd (false≢true no_way),
      λ spaced. absurd (false≢true (sym c.if-not-is_apart.true ∙ c.is_apart.ensures.1 (apart_in_spaced c.args.words.now c.loop-word.word-index c.loop-word.before (omega arith) i.two i.before spaced))),
    )

pub returns : goal.returns
returns c = (λ _. spaced_from c.args.words.now (64 * c.loop-word.word-index) (omega (arith, length-word_bits c.args.words.now)) c.loop-word.invariant.apart, λ _. refl)
