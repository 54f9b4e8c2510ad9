-- the finding at the place fits, and its parameter is the next
use Rattle.std.proofs.Common.{sym}
use Rattle.scan_log.proofs.Kept.{all_fit-at}
use Rattle.scan_log.proofs.Parameters.{parameters-step}
use Rattle.scan_log.proofs.log.ScanLog.add_findings.Goals as goal

pub parameter-requires : goal.parameter-requires
parameter-requires c =
    all_fit-at c.self.inside.findings.items c.loop-place.place c.unwrap-finding.result.now c.self.invariant.1
    (sym (rw c.unwrap-finding.ensures at c.get.ensures))

pub loop-place-preserved : goal.loop-place-preserved
loop-place-preserved c =
    rw c.in_ok-extend_from_slice.ensures.items
    (parameters-step c.loop-place.page.items c.parameter.result _ c.args.self.now c.loop-place.place c.unwrap-finding.result.now
    (rw (← c.self.view_is) (sym (rw c.unwrap-finding.ensures at c.get.ensures))) c.parameter.ensures c.loop-place.invariant)
