-- what the digits so far are worth, with those to come, is what all are worth
use Rattle.std.proofs.Common.{◌≡◌, ◌≤◌, drop}
use Rattle.std.specs.Prelude.{fold}
use Rattle.text_words.specs.Number.{with_digit, worth}
use Rattle.text_words.proofs.number.worth_up_to.Given as goal

abbrev pub invariant-loop-digit : goal.invariant-loop-digit
invariant-loop-digit l = record {
  small : l.worth ≤ l.most;
  whole : fold with_digit l.worth (drop l.digit-index l.digits) ≡ worth l.fn.digits;
}
