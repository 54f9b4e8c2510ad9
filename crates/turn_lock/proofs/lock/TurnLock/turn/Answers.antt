use Rattle.std.proofs.Common.{◌∙◌, ap, subst, sym}
use Rattle.std.proofs.lemmas.Result.{IfOk-weaker, on_err_weaker}
use Rattle.turn_lock.specs.Pass.{IsPass, Turn}
use Rattle.turn_lock.proofs.Passes.{after}
use Rattle.turn_lock.proofs.lock.TurnLock.turn.Given.{Over}
use Rattle.turn_lock.proofs.lock.TurnLock.turn.Goals as goal

-- what the call did to the pass
done : (g : Over) (c : goal.After-finish g) → IsPass c.finish.new.seat.me c.finish.new.share.parts c.finish.new.share.amount × Turn (g.T.Turned.turns c.take_turn-home.result.value) c.pass.inside.seat.me.0 c.finish.new.seat.me.0
done g c =
    let f = c.finish.ensures in
    let t = c.take_turn-home.ensures in
    after c.pass.inside.seat.me _ c.finish.new.seat.me _ _ _ _ c.finish.new.share.parts c.finish.new.share.amount c.pass.invariant t.seat f.seat f.list t.home.seen f.same.2 f.share

pub invariant_of-pass : goal.invariant_of-pass
invariant_of-pass g c = (done g c).0

pub returns-clause-answered : goal.returns-clause-answered
returns-clause-answered g c =
    let t = c.take_turn-home.ensures in
    let before = g.T.Turned.turns c.take_turn-home.result.value in
    let new = c.finish.new.seat.me.0 in
    let is = ap (λ k. k.view) c.pass.view_is in
    let turn = subst (λ v. Turn before v new) is (done g c).1 in
    let kept = t.home.kept _ (ap (λ v. v.kept) is ∙ c.requires.belongs.1.0) in
    IfOk-weaker c.finish.result _ _ (λ a told. (before, turn, subst (λ k. g.T.Turned.tells k before c.args.event a new.seen) kept told)) c.finish.ensures.tells

pub returns-clause-none : goal.returns-clause-none
returns-clause-none g c =
    let new = c.finish.new.seat.me.0 in
    let is = ap (λ k. k.view) c.pass.view_is in
    let turn = subst (λ v. Turn (g.T.Turned.turns c.take_turn-home.result.value) v new) is (done g c).1 in
    on_err_weaker c.finish.result (λ same. subst (λ b. Turn b c.args.pass.now.view new) (sym same) turn) c.finish.ensures.none
