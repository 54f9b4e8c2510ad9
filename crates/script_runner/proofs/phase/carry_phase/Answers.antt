-- the turns of a phase, one after another, and that it ends
use Rattle.std.proofs.Common.{◌≡◌, ◌∙◌, ap, sym, None, Some}
use Rattle.drive_scene.specs.declared.answer.Waiting.{Waiting}
use Rattle.drive_scene.specs.Able.{pick_of}
use Rattle.script_runner.specs.Wanted.{wanted_of}
use Rattle.script_runner.specs.Order.{drawn, number_of}
use Rattle.script_runner.specs.Phase.{waiting_of}
use Rattle.script_runner.proofs.Phases.{phase_on, phase_done}
use Rattle.script_runner.proofs.phase.carry_phase.Goals as goal

pub take_turn-requires-clause-picked : goal.take_turn-requires-clause-picked
take_turn-requires-clause-picked c =
    (c.number.result, sym (c.pick.ensures.value ∙ ap (λ (w : Waiting). pick_of c.loop-pick.drive w c.number.result) c.waiting.ensures.value) ∙ c.in-Some.is)

pub loop-pick-preserved : goal.loop-pick-preserved
loop-pick-preserved c =
    let now = c.loop-pick.drive in
    let left = wanted_of c.loop-pick.queued in
    let so_far = c.loop-pick.order.x in
    let is : pick_of now (waiting_of left) (number_of (drawn so_far)) ≡ Some c.in-Some.pick =
    sym (c.pick.ensures.value ∙ ap (λ (w : Waiting). pick_of now w c.number.result) c.waiting.ensures.value ∙ ap (pick_of now (waiting_of left)) c.number.ensures) ∙ c.in-Some.is in
    phase_on c.args.drive.now now c.take_turn.new.drive c.args.order.now.x so_far c.advance.new.self.x (wanted_of c.args.queued.now) left (wanted_of c.take_turn.new.queued) c.in-Some.pick
    c.loop-pick.invariant is c.in_ok-take_turn.ensures c.advance.ensures

pub returns-clause-carried : goal.returns-clause-carried
returns-clause-carried c =
    let now = c.loop-pick.drive in
    let left = wanted_of c.loop-pick.queued in
    let is : pick_of now (waiting_of left) c.number.result ≡ None = sym (c.pick.ensures.value ∙ ap (λ (w : Waiting). pick_of now w c.number.result) c.waiting.ensures.value) ∙ c.in_default.is in
    (phase_done c.args.drive.now now c.args.order.now.x c.loop-pick.order.x (wanted_of c.args.queued.now) c.loop-pick.queued c.number.result c.loop-pick.invariant c.waiting.ensures.eight
    c.is_good.ensures.powered c.requires.room is c.somebody_is_able.ensures).0

pub returns-clause-emptied : goal.returns-clause-emptied
returns-clause-emptied c =
    let now = c.loop-pick.drive in
    let left = wanted_of c.loop-pick.queued in
    let is : pick_of now (waiting_of left) c.number.result ≡ None = sym (c.pick.ensures.value ∙ ap (λ (w : Waiting). pick_of now w c.number.result) c.waiting.ensures.value) ∙ c.in_default.is in
    (phase_done c.args.drive.now now c.args.order.now.x c.loop-pick.order.x (wanted_of c.args.queued.now) c.loop-pick.queued c.number.result c.loop-pick.invariant c.waiting.ensures.eight
    c.is_good.ensures.powered c.requires.room is c.somebody_is_able.ensures).1
