-- the run is by the order that the words ask for
use Rattle.script_runner.specs.Words.{texts_of, order_asked}
use Rattle.script_runner.proofs.Served.{reads_run}
use Rattle.script_runner.proofs.serve.serve_alone.Goals as goal

pub returns-in-All-clause-source : goal.returns-in-All-clause-source
returns-in-All-clause-source g c =
    reads_run _ _ (order_asked (texts_of c.args.words.now)) c.in-Ok.x c.in-Read.bytes c.as_slice.result.now c.in-Ok-run_bytes.run' (cc (c.order_asked.ensures, c.in-Ok.is))
    c.in-Read.ensures.read c.in-Read.ensures.ended c.in-Read.ensures.short (cc c.as_slice.ensures) c.in-Ok-run_bytes.ensures.ran

pub returns-clause-source : goal.returns-clause-source
returns-clause-source g c =
    reads_run _ _ (order_asked (texts_of c.args.words.now)) c.in-Ok.x c.in-Read.bytes c.as_slice.result.now c.in-Ok-run_bytes.run' (cc (c.order_asked.ensures, c.in-Ok.is))
    c.in-Read.ensures.read c.in-Read.ensures.ended c.in-Read.ensures.short (cc c.as_slice.ensures) c.in-Ok-run_bytes.ensures.ran
