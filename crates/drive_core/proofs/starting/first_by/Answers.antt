use Rattle.std.proofs.Common.{refl}
use Rattle.cdb_reader.specs.Request.{outcome_of}
use Rattle.history_replay.specs.Known.{state_of}
use Rattle.drive_core.proofs.ModeTurns.{plan_changes}
use Rattle.drive_core.proofs.starting.first_by.Goals as goal

pub changed-requires : goal.changed-requires
changed-requires c = (
  c.args.member.now.task.initiator,
  plan_changes c.args.known.now.capacity c.args.member.now.task.initiator (state_of c.args.known.now) c.first_byte-code.result
      (outcome_of c.read-asks.result) (outcome_of c.read-asks.result) c.args.accepted.now.sent c.in_ok-plan.plan
      c.in_ok-plan.ensures c.in-Changing-default.is-0 refl,
)
