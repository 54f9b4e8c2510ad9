use Rattle.std.proofs.Common.{◌∙◌}
use Rattle.drive_core.proofs.Claimed.{started-refused}
use Rattle.drive_core.proofs.able.work_refused.Goals as goal

pub returns-then-member : goal.returns-then-member
returns-then-member c s fits claims all =
    c.held_back.ensures ∙ started-refused s c.args.member.now c.args.claim.now c.args.holders.now fits.flightless c.if-member.true claims all
