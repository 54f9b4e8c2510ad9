-- while both of a pair are digits their byte is the next; else there are no bytes
use Rattle.std.proofs.Common.{◌≡◌, ◌∙◌, max, inl, inr, arith}
use Rattle.std.proofs.lemmas.Bool.{cases_lt, ltb-true}
use Rattle.hex.proofs.Pairs.{decode_done}
use Rattle.text_words.proofs.Decoding.{greater, next_pair, other_pair}
use Rattle.text_words.proofs.digits.decode.Goals as goal

pub loop-i-preserved : goal.loop-i-preserved
loop-i-preserved c =
    let kept = c.loop-i.invariant in
    let high = c.worth_of-high.result in
    let low = c.worth_of-low.result in
    let first : c.max.result ≡ max c.loop-i.most high = c.max.ensures ∙ greater c.loop-i.most high in
    let both : c.max-most.result ≡ max c.max.result low = c.max-most.ensures in
    record {
      digits = λ less.
          next_pair c.args.digits.now c.loop-i.bytes c.loop-i.i high low (omega arith) (omega arith) c.worth_of-high.ensures c.worth_of-low.ensures
          (omega (arith, less, first, both)) (omega (arith, less, first, both)) (kept.digits (omega (arith, less, first, both)));
      other = λ more. elim (cases_lt c.loop-i.most 16) [
        | inl less ↦
            other_pair c.args.digits.now c.loop-i.bytes c.loop-i.i high low (omega arith) c.worth_of-high.ensures c.worth_of-low.ensures
            (λ small. omega (arith, more, less, small, first, both)) (kept.digits less)
        | inr great ↦ kept.other great
      ];
    }

pub returns-clause-yes : goal.returns-clause-yes
returns-clause-yes c all = decode_done c.args.digits.now c.loop-i.bytes c.loop-i.i (omega arith) (omega arith) (c.loop-i.invariant.digits (ltb-true c.loop-i.most 16 all))
