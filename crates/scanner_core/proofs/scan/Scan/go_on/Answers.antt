-- at the last block a pass ends
use Rattle.scanner_core.specs.Scan.{Scan, scan_of}
use Rattle.scanner_core.proofs.Passes.{next_pass}
use Rattle.scanner_core.proofs.scan.Scan.go_on.Goals as goal

pub returns-then-self-clause-counted : goal.returns-then-self-clause-counted
returns-then-self-clause-counted c = λ n is.
    let old : Scan = scan_of c.self.inside.capacity c.self.inside.cursor c.self.inside.passes c.self.inside.step in
    next_pass old n _ _ c.if-self.true c.saturating_add-self-inside.ensures (rw (← c.self.view_is) at is)
