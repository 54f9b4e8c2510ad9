use Rattle.std.proofs.Common.{◌∙◌, ℕ, false, refl, sym, subst}
use Rattle.drive_scene.specs.declared.answer.TurnAnswer.TheVariants.{Done}
use Rattle.drive_core.specs.declared.server.Server.{Server}
use Rattle.drive_scene.specs.Run.{Run, run_of, scene_of}
use Rattle.drive_core.specs.Kept.{Kept}
use Rattle.drive_scene.specs.Able.{refusal}
use Rattle.drive_scene.specs.Turning.{AddsTurn, coming_after}
use Rattle.drive_core.proofs.DriveTurns.{kept-same, IsReserved, reserved, turn_of, made_turn, adds-turn, kept-after, given_turn}
use Rattle.drive_core.proofs.drive.Drive.turn.Goals as goal

pub invariant_of-self : goal.invariant_of-self
invariant_of-self c =
    kept-same c.self.inside.made c.self.inside.server c.reserve.new.server c.self.inside.turns.items c.reserve.new.turns.items c.self.inside.coming c.reserve.ensures.turns
    c.reserve.ensures.same c.self.invariant

pub make_turn-requires-clause-may : goal.make_turn-requires-clause-may
make_turn-requires-clause-may c =
    let ready : IsReserved c.self.inside.made c.args.self.now c.args.event c.reserve.new.server c.reserve.new.turns.items c.self.inside.coming =
    reserved c.self.inside.made c.self.inside.server c.reserve.new.server c.self.inside.turns.items c.reserve.new.turns.items c.self.inside.coming c.args.self.now c.args.event
    c.refusal.result c.self.invariant c.self.view_is c.reserve.ensures.turns c.reserve.ensures.same c.requires c.refusal.ensures c.in_default.is in
    (scene_of (run_of c.self.inside.made c.reserve.new.server.store c.reserve.new.turns.items c.self.inside.coming), ready.may)

pub invariant_of-self-in_err-made : goal.invariant_of-self-in_err-made
invariant_of-self-in_err-made c =
    let kept : Kept (run_of c.self.inside.made c.reserve.new.server.store c.reserve.new.turns.items c.self.inside.coming) c.reserve.new.server =
    kept-same c.self.inside.made c.self.inside.server c.reserve.new.server c.self.inside.turns.items c.reserve.new.turns.items c.self.inside.coming c.reserve.ensures.turns
    c.reserve.ensures.same c.self.invariant in
    subst (λ (d : Server). Kept (run_of c.self.inside.made d.store c.reserve.new.turns.items c.self.inside.coming) d) (sym c.in_err-made.ensures.err) kept

pub invariant_of-self-2 : goal.invariant_of-self-2
invariant_of-self-2 c =
    let ready : IsReserved c.self.inside.made c.args.self.now c.args.event c.reserve.new.server c.reserve.new.turns.items c.self.inside.coming =
    reserved c.self.inside.made c.self.inside.server c.reserve.new.server c.self.inside.turns.items c.reserve.new.turns.items c.self.inside.coming c.args.self.now c.args.event
    c.refusal.result c.self.invariant c.self.view_is c.reserve.ensures.turns c.reserve.ensures.same c.requires c.refusal.ensures c.in_default.is in
    kept-after c.self.inside.made c.reserve.new.server c.make_turn.new.server c.reserve.new.turns.items c.push_reserved.new.self.items c.self.inside.coming c.coming_after-coming.result
    c.args.event (turn_of c.in_ok-made.made c.ops_done-from.result c.ops_done.result c.sealed.result) c.in_ok-made.made
    (made_turn c.self.inside.made c.args.self.now c.args.event c.reserve.new.server c.make_turn.new.server c.reserve.new.turns.items c.self.inside.coming c.in_ok-made.made
    c.make_turn.new.entries.items c.sealed.result ready c.in_ok-made.ensures.moves c.sealed.ensures) ready.kept refl
    c.ops_done-from.ensures c.ops_done.ensures c.push_reserved.ensures.items

pub returns-clause-turn : goal.returns-clause-turn
returns-clause-turn c =
    let ready : IsReserved c.self.inside.made c.args.self.now c.args.event c.reserve.new.server c.reserve.new.turns.items c.self.inside.coming =
    reserved c.self.inside.made c.self.inside.server c.reserve.new.server c.self.inside.turns.items c.reserve.new.turns.items c.self.inside.coming c.args.self.now c.args.event
    c.refusal.result c.self.invariant c.self.view_is c.reserve.ensures.turns c.reserve.ensures.same c.requires c.refusal.ensures c.in_default.is in
    let adds : AddsTurn (run_of c.self.inside.made c.reserve.new.server.store c.reserve.new.turns.items c.self.inside.coming) c.args.event
    (Done c.len.result c.in_ok-made.made.ended false)
    (run_of c.self.inside.made c.make_turn.new.server.store c.push_reserved.new.self.items (coming_after c.self.inside.coming c.args.event)) =
    adds-turn c.self.inside.made c.reserve.new.server c.make_turn.new.server c.reserve.new.turns.items c.push_reserved.new.self.items c.self.inside.coming c.len.result c.args.event
    (turn_of c.in_ok-made.made c.ops_done-from.result c.ops_done.result c.sealed.result) c.in_ok-made.made
    (made_turn c.self.inside.made c.args.self.now c.args.event c.reserve.new.server c.make_turn.new.server c.reserve.new.turns.items c.self.inside.coming c.in_ok-made.made
    c.make_turn.new.entries.items c.sealed.result ready c.in_ok-made.ensures.moves c.sealed.ensures) ready.kept refl c.push_reserved.ensures.items
    (c.len.ensures ∙ c.push_reserved.new.self.ok.0) in
    given_turn c.args.event (refusal c.args.self.now c.args.event) c.args.self.now (Done c.len.result c.in_ok-made.made.ended false)
    (run_of c.self.inside.made c.make_turn.new.server.store c.push_reserved.new.self.items c.coming_after-coming.result) ready.free
    (subst (λ (n : ℕ). AddsTurn c.args.self.now c.args.event (Done c.len.result c.in_ok-made.made.ended false)
    (run_of c.self.inside.made c.make_turn.new.server.store c.push_reserved.new.self.items n)) (sym c.coming_after-coming.ensures)
    (subst (λ (r : Run). AddsTurn r c.args.event (Done c.len.result c.in_ok-made.made.ended false)
    (run_of c.self.inside.made c.make_turn.new.server.store c.push_reserved.new.self.items (coming_after c.self.inside.coming c.args.event))) ready.same adds))
