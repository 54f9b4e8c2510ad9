use Rattle.std.proofs.Common.{◌≡◌, ◌∙◌, ap, ◌+◌, length, subst, sym}
use Rattle.turn_lock.specs.Pass.{Turn, Rests, InSeen}
use Rattle.turn_lock.proofs.Passes.{after, on_err_of}
use Rattle.turn_lock.proofs.lock.TurnLock.try_turn.Goals as goal

pub invariant_of-pass : goal.invariant_of-pass
invariant_of-pass g c =
    let f = c.finish.ensures in
    let t = c.in-Some.ensures.some in
    (after c.pass.inside.seat.me _ c.finish.new.seat.me _ _ _ _ c.finish.new.share.parts c.finish.new.share.amount c.pass.invariant t.0 f.seat f.list t.1.seen f.same.2 f.share).0

pub invariant_of-pass-in-Some : goal.invariant_of-pass-in-Some
invariant_of-pass-in-Some g c =
    let f = c.finish.ensures in
    let t = c.in-Some.ensures.some in
    (after c.pass.inside.seat.me _ c.finish.new.seat.me _ _ _ _ c.finish.new.share.parts c.finish.new.share.amount c.pass.invariant t.0 f.seat f.list t.1.seen f.same.2 f.share).0

pub invariant_of-pass-in-None : goal.invariant_of-pass-in-None
invariant_of-pass-in-None g c =
    let i = c.pass.invariant in
    let e = c.in-None.ensures.none in
    record {
      empty = ap (λ m. m.1) e ∙ i.empty;
      rests = subst (λ m. Rests m.0) (sym e) i.rests;
      in_seen = subst (λ m. InSeen m.0) (sym e) i.in_seen;
      part = i.part;
      counted = subst (λ m. c.pass.inside.share.amount ≡ length m.0.mine + length m.0.met) (sym e) i.counted;
    }

pub returns-in_ok-answer-in-Some-clause-answered : goal.returns-in_ok-answer-in-Some-clause-answered
returns-in_ok-answer-in-Some-clause-answered g c =
    let f = c.finish.ensures in
    let t = c.in-Some.ensures.some in
    let before = g.T.Turned.turns c.in-Some.home.value in
    let new = c.finish.new.seat.me.0 in
    let is = ap (λ k. k.view) c.pass.view_is in
    let did = after c.pass.inside.seat.me _ c.finish.new.seat.me _ _ _ _ c.finish.new.share.parts c.finish.new.share.amount c.pass.invariant t.0 f.seat f.list t.1.seen f.same.2 f.share in
    let kept = t.1.kept _ (ap (λ v. v.kept) is ∙ c.requires.belongs.1.0) in
    (before, subst (λ v. Turn before v new) is did.1, subst (λ k. g.T.Turned.tells k before c.args.event c.in_ok-answer-in-Some.answer new.seen) kept c.in_ok-answer-in-Some.ensures.tells)

pub returns-in_err-answer-in-Some-clause-none : goal.returns-in_err-answer-in-Some-clause-none
returns-in_err-answer-in-Some-clause-none g c =
    let f = c.finish.ensures in
    let t = c.in-Some.ensures.some in
    let before = g.T.Turned.turns c.in-Some.home.value in
    let new = c.finish.new.seat.me.0 in
    let is = ap (λ k. k.view) c.pass.view_is in
    let did = after c.pass.inside.seat.me _ c.finish.new.seat.me _ _ _ _ c.finish.new.share.parts c.finish.new.share.amount c.pass.invariant t.0 f.seat f.list t.1.seen f.same.2 f.share in
    on_err_of c.from_residual.result (subst (λ b. Turn b c.args.pass.now.view new) (sym c.in_err-answer-in-Some.ensures.none) (subst (λ v. Turn before v new) is did.1))
