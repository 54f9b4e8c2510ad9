-- the findings kept fit as they did, and so does the new one
use Rattle.std.proofs.Common.{◌-◌, length, [], ◌∷◌, ◌++◌}
use Rattle.scan_log.proofs.Kept.{all_fit-drop, all_fit-push}
use Rattle.scan_log.proofs.log.ScanLog.add.Goals as goal

pub invariant_of-self : goal.invariant_of-self
invariant_of-self c =
    let findings = c.self.inside.findings.items ++ c.args.f ∷ [] in
    let one_more = all_fit-push c.self.inside.findings.items c.args.f c.self.invariant.1 c.requires.status c.requires.key in
    rw c.push_back.ensures.items (c.self.invariant.0, all_fit-drop (length findings - c.self.inside.findings.capacity) findings one_more)
