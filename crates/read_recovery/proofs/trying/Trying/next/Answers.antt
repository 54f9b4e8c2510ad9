-- all stages failed
use Rattle.std.proofs.Common.{◌∙◌, sym, ap, arith}
use Rattle.read_recovery.specs.Stages.{next_stage}
use Rattle.read_recovery.proofs.Table.{none_is_left}
use Rattle.read_recovery.proofs.trying.Trying.next.Goals as goal

pub returns-then-self-2 : goal.returns-then-self-2
returns-then-self-2 c =
    sym (ap next_stage (sym c.self.view_is) ∙ none_is_left c.self.inside.retry c.self.inside.failed c.self.inside.found (omega arith))
