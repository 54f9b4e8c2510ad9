-- what each kind of line does
use Rattle.std.proofs.Common.{◌≡◌, ◌+◌, sym, subst, arith, refl}
use Rattle.std.specs.Prelude.{OnOk}
use Rattle.std.proofs.lemmas.Result.{on_ok_weaker}
use Rattle.drive_scene.specs.declared.event.Arrival.TheVariants as arrival
use Rattle.script_text.specs.declared.script.Line.{Line}
use Rattle.drive_core.specs.Served.{IsServedArrival}
use Rattle.script_runner.specs.Arrivals.{Added, arriving}
use Rattle.script_runner.specs.Wanted.{IsNothing, wanted_of}
use Rattle.script_runner.specs.Phasing.{Carried, Happens}
use Rattle.script_runner.specs.Leading.{TakesLine}
use Rattle.script_runner.specs.Script.{IsServedLine}
use Rattle.script_runner.proofs.Lines.{phase_of_rest, line_of, line_sent, line_destage, line_go, line_world, on_ok_both}
use Rattle.script_runner.proofs.carrying.take_line.Goals as goal

pub carry_phase-requires-clause-room : goal.carry_phase-requires-clause-room
carry_phase-requires-clause-room c =
    let turns = phase_of_rest c.args.drive.now (wanted_of c.args.queued.now) c.requires.at_rest.idle in
    let room = rw c.in-Go.is at c.requires.room in
    omega arith

pub returns-in_ok-copy-in-Command : goal.returns-in_ok-copy-in-Command
returns-in_ok-copy-in-Command c =
    let old = c.args.queued.now in
    let it = arrival.Command (arriving c.in-Command.initiator c.in-Command.tag c.in-Command.attribute c.copy.result c.in_ok-copy-in-Command.field-0) in
    let is : line_of it ≡ c.args.line.now = cc (c.copy.ensures, c.in_ok-copy-in-Command.ensures, c.in-Command.is) in
    let served : IsServedArrival it = subst (IsServedLine c.args.drive.now.made.size) (sym is) c.requires.served in
    subst (λ (line : Line). OnOk c.put.result (TakesLine c.args.drive.now c.args.order.now.x (wanted_of old) line c.args.drive.now c.args.order.now.x (wanted_of (record old { queues = c.put.new.self })))) is
    (on_ok_weaker c.put.result (λ (added : Added old.queues c.put.new.self c.in-Command.initiator it).
    line_sent c.args.drive.now c.args.order.now.x old c.put.new.self c.in-Command.initiator it c.requires.at_rest (record { sender = refl; served = served }) added) c.put.ensures.ok)

pub returns-in-Function : goal.returns-in-Function
returns-in-Function c =
    let old = c.args.queued.now in
    let it = arrival.Function c.in-Function.initiator c.in-Function.what in
    subst (λ (line : Line). OnOk c.put-in-Function.result (TakesLine c.args.drive.now c.args.order.now.x (wanted_of old) line c.args.drive.now c.args.order.now.x (wanted_of (record old { queues = c.put-in-Function.new.self })))) (sym c.in-Function.is)
    (on_ok_weaker c.put-in-Function.result (λ (added : Added old.queues c.put-in-Function.new.self c.in-Function.initiator it).
    line_sent c.args.drive.now c.args.order.now.x old c.put-in-Function.new.self c.in-Function.initiator it c.requires.at_rest (record { sender = refl; served = tt }) added) c.put-in-Function.ensures.ok)

pub returns-in-Destage : goal.returns-in-Destage
returns-in-Destage c =
    let old = c.args.queued.now in
    subst (λ (line : Line). TakesLine c.args.drive.now c.args.order.now.x (wanted_of old) line c.args.drive.now c.args.order.now.x (wanted_of (record old { destages = old.destages + c.in-Destage.count }))) (sym c.in-Destage.is)
    (line_destage c.args.drive.now c.args.order.now.x old c.in-Destage.count c.requires.at_rest)

pub returns-in-Go : goal.returns-in-Go
returns-in-Go c =
    let wanted = wanted_of c.args.queued.now in
    let left = wanted_of c.carry_phase.new.queued in
    rw c.in-Go.is (on_ok_both c.carry_phase.result c.carry_phase.ensures.carried c.carry_phase.ensures.emptied
    (λ (carried : Carried c.args.drive.now c.args.order.now.x wanted c.carry_phase.new.drive c.carry_phase.new.order.x) (emptied : IsNothing left). line_go c.args.drive.now c.carry_phase.new.drive c.args.order.now.x c.carry_phase.new.order.x wanted left c.requires.at_rest carried emptied))

pub returns-in-World : goal.returns-in-World
returns-in-World c =
    subst (λ (line : Line). OnOk c.happen.result (TakesLine c.args.drive.now c.args.order.now.x (wanted_of c.args.queued.now) line c.happen.new.drive c.args.order.now.x (wanted_of c.args.queued.now))) (sym c.in-World.is)
    (on_ok_weaker c.happen.result (λ (h : Happens c.args.drive.now c.in-World.world c.happen.new.drive). line_world c.args.drive.now c.happen.new.drive c.args.order.now.x (wanted_of c.args.queued.now) c.in-World.world c.requires.at_rest h) c.happen.ensures)
