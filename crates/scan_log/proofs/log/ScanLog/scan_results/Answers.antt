-- the findings from the pointer on
use Rattle.scan_log.proofs.Parameters.{contents-behind}
use Rattle.scan_log.proofs.log.ScanLog.scan_results.Goals as goal

pub returns-else-pointer-eq0 : goal.returns-else-pointer-eq0
returns-else-pointer-eq0 c =
    rw (contents-behind c.args.state.now c.args.self.now c.args.pointer c.if-pointer-eq0.false) c.results_behind-else-pointer-eq0.ensures
