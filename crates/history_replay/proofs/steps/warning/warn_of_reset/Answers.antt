use Rattle.std.proofs.Common.{◌∙◌, ◌<◌, ◌≤◌, ap, ℕ, Bool, true, rules}
use Rattle.sense_data.specs.Attentions.{attention}
use Rattle.history_replay.proofs.Raising.{raised_more, told}
use Rattle.history_replay.proofs.steps.warning.warn_of_reset.Goals as goal

pub loop-number-preserved : goal.loop-number-preserved
loop-number-preserved c =
    let test : ℕ → Bool = λ (k : ℕ). true in
    let now = c.loop-number.waiting in
    let number = c.loop-number.number in
    let low : 1 ≤ number = search rules in
    let high : number < 9 = search rules in
    raised_more test (attention 0x29 0x03) c.args.waiting.now now c.raise_if.new.waiting number low high
    (c.raise_if.ensures ∙ ap (λ (k : ℕ). told test (attention 0x29 0x03) now k) c.initiator-other.ensures) c.loop-number.invariant
