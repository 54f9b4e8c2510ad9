use Rattle.std.proofs.Common.{sym, subst}
use Rattle.sense_data.specs.Attentions.{Waiting}
use Rattle.history_replay.specs.Warning.{KnownWait}
use Rattle.history_replay.proofs.KnownWaiting.{known_at_start}
use Rattle.history_replay.proofs.monitor.attentions_at_start.Goals as goal

pub returns-clause-known : goal.returns-clause-known
returns-clause-known c = subst (λ (w : Waiting). KnownWait w) (sym c.power_on.ensures) known_at_start
