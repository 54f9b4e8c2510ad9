use Rattle.drive_core.specs.Taking.{search_for}
use Rattle.drive_core.proofs.Sought.{never_off}
use Rattle.drive_core.proofs.taking.seek.Goals as goal

pub unreachable-requires : goal.unreachable-requires
unreachable-requires c = never_off c.args.store.now (search_for c.args.sought.now) c.seek.result c.seek.new.self c.seek.ensures c.in-Off.is
