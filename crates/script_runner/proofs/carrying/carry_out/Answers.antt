-- the lines, one after another
use Rattle.std.proofs.Common.{◌+◌, drop}
use Rattle.std.proofs.lemmas.Result.{on_ok_weaker}
use Rattle.drive_scene.specs.Able.{turns_at_most}
use Rattle.script_runner.specs.Wanted.{wanted_of}
use Rattle.script_runner.specs.Phasing.{Carried}
use Rattle.script_runner.proofs.Lines.{script_begins, script_on, script_done, room_for, room_at_end, from_place, at_end}
use Rattle.script_runner.proofs.carrying.carry_out.Goals as goal

pub loop-line-init : goal.loop-line-init
loop-line-init c = script_begins c.args.drive.now c.args.order.x c.args.lines.now (wanted_of c.in_ok-queued.queued) c.requires.fresh c.in_ok-queued.ensures

pub take_line-requires-clause-room : goal.take_line-requires-clause-room
take_line-requires-clause-room c =
    let lines = c.args.lines.now in
    let wanted = wanted_of c.loop-line.queued in
    let so_far = from_place c.args.drive.now c.loop-line.drive c.args.order.x c.loop-line.so_far.x lines c.loop-line.line-index c.line-item.result wanted c.loop-line-test.true c.line-item.is c.loop-line.invariant in
    room_for c.args.drive.now c.loop-line.drive c.args.order.x c.loop-line.so_far.x lines (drop (c.loop-line.line-index + 1) lines) c.line-item.result wanted turns_at_most so_far c.requires.room

pub loop-line-preserved : goal.loop-line-preserved
loop-line-preserved c =
    let lines = c.args.lines.now in
    let wanted = wanted_of c.loop-line.queued in
    let so_far = from_place c.args.drive.now c.loop-line.drive c.args.order.x c.loop-line.so_far.x lines c.loop-line.line-index c.line-item.result wanted c.loop-line-test.true c.line-item.is c.loop-line.invariant in
    script_on c.args.drive.now c.loop-line.drive c.take_line.new.drive c.args.order.x c.loop-line.so_far.x c.take_line.new.order.x lines (drop (c.loop-line.line-index + 1) lines) c.line-item.result wanted (wanted_of c.take_line.new.queued) so_far c.in_ok-take_line.ensures

pub carry_phase-requires-clause-room : goal.carry_phase-requires-clause-room
carry_phase-requires-clause-room c =
    let wanted = wanted_of c.loop-line.queued in
    let so_far = at_end c.args.drive.now c.loop-line.drive c.args.order.x c.loop-line.so_far.x c.args.lines.now c.loop-line.line-index wanted c.loop-line-test.false c.loop-line.invariant in
    room_at_end c.args.drive.now c.loop-line.drive c.args.order.x c.loop-line.so_far.x c.args.lines.now wanted turns_at_most so_far c.requires.room

pub returns : goal.returns
returns c =
    let wanted = wanted_of c.loop-line.queued in
    let so_far = at_end c.args.drive.now c.loop-line.drive c.args.order.x c.loop-line.so_far.x c.args.lines.now c.loop-line.line-index wanted c.loop-line-test.false c.loop-line.invariant in
    on_ok_weaker c.carry_phase.result (λ (carried : Carried c.loop-line.drive c.loop-line.so_far.x wanted c.carry_phase.new.drive c.carry_phase.new.order.x). script_done c.args.drive.now c.loop-line.drive c.carry_phase.new.drive c.args.order.x c.loop-line.so_far.x c.carry_phase.new.order.x c.args.lines.now wanted so_far carried) c.carry_phase.ensures.carried
