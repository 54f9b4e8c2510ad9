use Rattle.std.proofs.Common.{◌∙◌, ◌<◌, ◌≤◌, ap, ℕ, Bool, cond, rules}
use Rattle.sense_data.specs.Attentions.{attention, raised}
use Rattle.history_replay.specs.Warning.{is_cleared}
use Rattle.history_replay.proofs.Raising.{raised_more, told}
use Rattle.history_replay.proofs.steps.warning.warn_of_clear.Goals as goal

pub loop-number-preserved : goal.loop-number-preserved
loop-number-preserved c =
    let test = is_cleared c.args.i c.args.set.now in
    let now = c.loop-number.waiting in
    let number = c.loop-number.number in
    let low : 1 ≤ number = search rules in
    let high : number < 9 = search rules in
    let i = c.initiator-other.result in
    raised_more test (attention 0x2F 0x00) c.args.waiting.now now c.raise_if.new.waiting number low high
    (c.raise_if.ensures ∙ ap (λ (b : Bool). cond b (raised now i (attention 0x2F 0x00)) now) c.is_cleared.ensures ∙ ap (λ (k : ℕ). told test (attention 0x2F 0x00) now k) c.initiator-other.ensures)
    c.loop-number.invariant
