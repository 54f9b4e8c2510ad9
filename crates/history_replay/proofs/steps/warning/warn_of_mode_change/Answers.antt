use Rattle.std.proofs.Common.{◌∙◌, ◌<◌, ◌≤◌, ap, ℕ, Bool, cond, rules}
use Rattle.sense_data.specs.Attentions.{attention, raised}
use Rattle.history_replay.specs.Warning.{is_another}
use Rattle.history_replay.proofs.Raising.{raised_more, told}
use Rattle.history_replay.proofs.steps.warning.warn_of_mode_change.Goals as goal

pub loop-number-preserved : goal.loop-number-preserved
loop-number-preserved c =
    let test : ℕ → Bool = is_another c.args.i in
    let now = c.loop-number.waiting in
    let number = c.loop-number.number in
    let low : 1 ≤ number = search rules in
    let high : number < 9 = search rules in
    let i = c.initiator-other.result in
    raised_more test (attention 0x2A 0x01) c.args.waiting.now now c.raise_if.new.waiting number low high
    (c.raise_if.ensures ∙ ap (λ (b : Bool). cond b (raised now i (attention 0x2A 0x01)) now) c.is_another.ensures ∙ ap (λ (k : ℕ). told test (attention 0x2A 0x01) now k) c.initiator-other.ensures) c.loop-number.invariant
