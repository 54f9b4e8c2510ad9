-- a script that was read can be carried out, and its run is bounded
use Rattle.script_runner.proofs.Scripts.{can_be_carried_out, bounded_run}
use Rattle.script_runner.proofs.serve.run_bytes.Goals as goal

pub run_script-requires : goal.run_script-requires
run_script-requires c = can_be_carried_out c.args.bytes.now c.in-Ok.script c.in-Ok.ensures

pub returns-in-Ok-run_script-clause-few : goal.returns-in-Ok-run_script-clause-few
returns-in-Ok-run_script-clause-few c =
    bounded_run c.args.bytes.now c.in-Ok.script c.in-Ok-run_script.run' c.in-Ok.ensures c.in-Ok-run_script.ensures.script c.in-Ok-run_script.ensures.few
