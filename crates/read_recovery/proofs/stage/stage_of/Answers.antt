-- each arm is a row of the table
use Rattle.std.proofs.Common.{◌∙◌, sym, ap, arith}
use Rattle.std.specs.Prelude.{Some}
use Rattle.read_recovery.proofs.Table.{plain_stage, ahead_stage, behind_stage, full_stage, erased_stage}
use Rattle.read_recovery.proofs.stage.stage_of.Goals as goal

pub returns-then-number-retry : goal.returns-then-number-retry
returns-then-number-retry c = plain_stage c.args.retry c.args.number c.if-number-retry.true ∙ ap (λ s. Some s) (sym c.reread_at.ensures)

pub returns-in-1 : goal.returns-in-1
returns-in-1 c = ahead_stage c.args.retry c.args.number (omega arith) ∙ ap (λ s. Some s) (sym c.reread_at-in-1.ensures)

pub returns-in-2 : goal.returns-in-2
returns-in-2 c = behind_stage c.args.retry c.args.number (omega arith) ∙ ap (λ s. Some s) (sym c.reread_at-in-2.ensures)

pub returns-in-3 : goal.returns-in-3
returns-in-3 c = full_stage c.args.retry c.args.number (omega arith) ∙ ap (λ s. Some s) (sym c.reread_at-in-3.ensures)

pub returns-in_default : goal.returns-in_default
returns-in_default c = erased_stage c.args.retry c.args.number (omega arith) ∙ ap (λ s. Some s) (sym c.reread_at-in_default.ensures)
