-- the first digits are worth too much already
use Rattle.std.proofs.Common.{ℕ, ◌<◌, Bool, Option, Some, None, sym, ap, arith}
use Rattle.std.specs.Prelude.{if◌then◌else◌}
use Rattle.std.proofs.lemmas.Bool.{lt-leb}
use Rattle.text_words.specs.Number.{worth}
use Rattle.text_words.proofs.Worth.{too_great}
use Rattle.text_words.proofs.number.worth_up_to.Goals as goal

pub returns-then-more-from : goal.returns-then-more-from
returns-then-more-from c =
    let all = c.args.digits.now in
    let great : c.args.most < worth all =
    too_great all c.loop-digit.worth c.loop-digit.digit-index c.args.most c.loop-digit-test.true c.loop-digit.invariant.whole
    (omega (arith, c.from.ensures, c.saturating_sub.ensures, c.from-in-loop-digit.ensures, c.from-in-loop-digit-2.ensures, c.if-more-from.true)) in
    let none : Bool → Option ℕ = λ b. if b then Some (worth all) else None in
    sym (ap none (lt-leb (worth all) c.args.most great))
