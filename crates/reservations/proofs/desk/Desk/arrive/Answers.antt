use Rattle.std.proofs.Common.{◌≤◌, arith}
use Rattle.reservations.proofs.Sound.{desk-judged}
use Rattle.reservations.proofs.desk.Desk.arrive.Goals as goal

pub invariant_of-self : goal.invariant_of-self
invariant_of-self c =
    let value = c.number-number.ensures.value in
    let low : 1 ≤ c.args.i = omega (arith, c.number-number.ensures.low) in
    let high : c.args.i ≤ 8 = omega (arith, c.number-number.ensures.high) in
    desk-judged c.known_stay_known.ensures c.self.inside.state c.args.i c.bytes.result.now c.args.sent.now c.judge-verdict.new.state
    (low, high) c.self.invariant c.judge-verdict.ensures.desk c.keys_fit.ensures

pub returns-clause-kept : goal.returns-clause-kept
returns-clause-kept c =
    let value = c.number-number.ensures.value in
    let low : 1 ≤ c.args.i = omega (arith, c.number-number.ensures.low) in
    let high : c.args.i ≤ 8 = omega (arith, c.number-number.ensures.high) in
    desk-judged c.known_stay_known.ensures c.self.inside.state c.args.i c.bytes.result.now c.args.sent.now c.judge-verdict.new.state
    (low, high) c.self.invariant c.judge-verdict.ensures.desk c.keys_fit.ensures
