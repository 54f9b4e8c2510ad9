use Rattle.std.proofs.Common.{◌≡◌, ◌∙◌, length, take, arith, sym}
use Rattle.sector_store.proofs.TriesInOrder.{take_less, room_between, read_found, read_missed}
use Rattle.sector_store.proofs.reading.read_sector.Goals as goal

pub try_sector-requires-clause-room : goal.try_sector-requires-clause-room
try_sector-requires-clause-room c =
    room_between c.args.platter.now c.loop-stage.platter c.args.p (take c.loop-stage.stage-index c.args.stages.now) (length c.args.stages.now) c.loop-stage.invariant
    (take_less c.args.stages.now c.loop-stage.stage-index (omega (arith, c.loop-stage-test.true))) c.requires.room

pub returns-then-is_some : goal.returns-then-is_some
returns-then-is_some c =
    read_found c.args.platter.now c.loop-stage.platter c.try_sector.new.self c.args.p c.args.stages.now c.loop-stage.stage-index _ c.try_sector.result c.flatten-found.result
    (omega (arith, c.loop-stage-test.true)) c.loop-stage.invariant c.try_sector.ensures c.flatten-found.ensures (sym c.is_some.ensures ∙ c.if-is_some.true)

pub loop-stage-preserved : goal.loop-stage-preserved
loop-stage-preserved c =
    read_missed c.args.platter.now c.loop-stage.platter c.try_sector.new.self c.args.p c.args.stages.now c.loop-stage.stage-index _ c.try_sector.result c.flatten-found.result
    (omega (arith, c.loop-stage-test.true)) c.requires.on c.loop-stage.invariant c.try_sector.ensures c.flatten-found.ensures (sym c.is_some.ensures ∙ c.if-is_some.false)
