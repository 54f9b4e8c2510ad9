use Rattle.history_replay.proofs.Asking.{control_read, few_read}
use Rattle.history_replay.proofs.steps.request.read.Goals as goal

pub returns-clause-control : goal.returns-clause-control
returns-clause-control c =
    control_read c.read.result c.args.cdb.now c.args.sent.now c.args.capacity c.byte-control.ensures.fits c.read.ensures.outcome

pub returns-clause-few : goal.returns-clause-few
returns-clause-few c = λ small. few_read c.read.result c.args.capacity c.read.ensures.range small
