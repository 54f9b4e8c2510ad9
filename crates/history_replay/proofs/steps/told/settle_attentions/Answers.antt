use Rattle.disk_base.specs.declared.command.DataOut.TheVariants.{Nothing}
use Rattle.cdb_reader.specs.Request.{outcome_of}
use Rattle.history_replay.specs.Known.{duty_of}
use Rattle.history_replay.specs.Warning.{waiting_state}
use Rattle.history_replay.proofs.KnownWaiting.{known_when}
use Rattle.history_replay.proofs.steps.told.settle_attentions.Goals as goal

pub returns-clause-known : goal.returns-clause-known
returns-clause-known c =
    known_when c.args.label.now
    (waiting_state c.args.waiting.now c.args.set.now (duty_of c.args.code (outcome_of c.args.asks.now) Nothing))
    c.args.entry.now c.settle.new.waiting c.settle.ensures c.requires.known
