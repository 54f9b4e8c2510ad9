-- the page in its parts
use Rattle.std.proofs.Common.{refl}
use Rattle.scan_log.proofs.Parameters.{page-whole}
use Rattle.scan_log.proofs.log.ScanLog.results_behind.Goals as goal

pub returns : goal.returns
returns c =
    rw (c.in_ok-add_findings.ensures, c.in_ok-extend_from_slice-2.ensures.items, c.in_ok-extend_from_slice.ensures.items, c.in_ok-page.ensures.items, c.heading.ensures)
    (page-whole c.args.front.now c.args.self.now c.args.first _ c.requires.first (rw (c.len.ensures.len, c.self.view_is) refl))
