use Rattle.std.proofs.Common.{◌<◌, arith}
use Rattle.history_replay.proofs.Passes.{last_pass}
use Rattle.history_replay.proofs.effects.one_more.Goals as goal

pub returns-then-scanned-capacity-clause-passes : goal.returns-then-scanned-capacity-clause-passes
returns-then-scanned-capacity-clause-passes c =
    let some : 0 < c.args.capacity = omega arith in
    last_pass c.args.capacity c.args.scanned some (omega arith)
