use Rattle.std.proofs.Common.{◌≡◌, ◌+◌, ◌++◌, map, drop}
use Rattle.scan_log.specs.Pages.{parameters_from, finding_content}
use Rattle.scan_log.proofs.log.ScanLog.add_findings.Given as goal

-- what is written, with the parameters still to come, is all that there will be
abbrev pub invariant-loop-place : goal.invariant-loop-place
invariant-loop-place l =
    l.page.items ++ parameters_from (l.place + 1) (map finding_content (drop l.place l.self))
    ≡ l.initial.page.items ++ parameters_from (l.first + 1) (map finding_content (drop l.first l.self))
