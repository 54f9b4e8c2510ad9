-- one stage more, up to all
use Rattle.std.proofs.Common.{List, [], ◌∷◌, ◌++◌, ◌∙◌, sym, ap}
use Rattle.disk_base.specs.declared.stage.Stage.{Stage}
use Rattle.read_recovery.proofs.Table.{take-one, take-whole}
use Rattle.read_recovery.proofs.stage.stages.Goals as goal

pub loop-number-preserved : goal.loop-number-preserved
loop-number-preserved c =
    c.push.ensures.items ∙ ap (λ (t : List Stage). t ++ c.stage_of.result ∷ []) c.loop-number.invariant
    ∙ sym (take-one c.args.retry c.loop-number.number c.stage_of.result c.stage_of.ensures)

pub returns : goal.returns
returns c = c.loop-number.invariant ∙ take-whole c.args.retry c.loop-number.number c.loop-number-test.false
