-- the drive of a script carried its lines out
use Rattle.std.proofs.Common.{◌∙◌, sym, subst, List}
use Rattle.script_text.specs.declared.script.Line.{Line}
use Rattle.script_runner.specs.Leading.{CarriesOut}
use Rattle.script_runner.proofs.Running.{good_run, few_run}
use Rattle.script_runner.proofs.carrying.run_script.Goals as goal

pub returns-clause-good : goal.returns-clause-good
returns-clause-good c =
    let good = good_run c.args.order.x c.args.script c.in_ok-drive.drive c.carry_out.new.drive c.into_parts-turns.result.0 c.into_parts-turns.result.1 c.in_ok-drive.ensures
    (subst (λ (lines : List Line). CarriesOut c.in_ok-drive.drive c.args.order.x lines c.carry_out.new.drive) c.as_slice.ensures c.in_ok-carry_out.ensures)
    c.is_good.ensures.good c.into_parts-turns.ensures.turns c.into_parts-turns.ensures.ops in
    (good.0, c.factory_count-factory_count.ensures ∙ sym good.1)

pub returns-clause-few : goal.returns-clause-few
returns-clause-few c =
    few_run c.args.order.x c.args.script c.in_ok-drive.drive c.carry_out.new.drive c.into_parts-turns.result.0 c.in_ok-drive.ensures
    (subst (λ (lines : List Line). CarriesOut c.in_ok-drive.drive c.args.order.x lines c.carry_out.new.drive) c.as_slice.ensures c.in_ok-carry_out.ensures)
    c.into_parts-turns.ensures.turns
