use Rattle.std.proofs.Common.{take, None}
use Rattle.sector_store.specs.Recovering.{IsReadBy}
use Rattle.sector_store.proofs.reading.read_sector.Given as goal

-- the stages so far found nothing
abbrev pub invariant-loop-stage : goal.invariant-loop-stage
invariant-loop-stage l = IsReadBy l.fn.platter l.p (take l.stage-index l.stages) None l.platter
