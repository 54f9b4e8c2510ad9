use Rattle.std.proofs.Common.{◌∙◌, ◌++◌, ap, arith, sym}
use Rattle.turn_lock.specs.Lists.{times}
use Rattle.turn_lock.proofs.Passes.{closes}
use Rattle.turn_lock.proofs.lock.TurnLock.close.Goals as goal

pub returns-clause-list : goal.returns-clause-list
returns-clause-list g c =
    let v = c.pass.inside.seat.me.0 in
    let i = c.pass.invariant in
    let is = ap (λ k. k.view) c.pass.view_is in
    let whole = c.audit.ensures.whole (ap (λ k. k.parts) c.pass.view_is ∙ c.requires.all) in
    (closes _ v _ _ _ (ap (λ v. v.kept) is ∙ c.requires.belongs.1.0, ap (λ v. v.first) is ∙ c.requires.belongs.1.1) c.take_turn-home.ensures.home i.rests i.in_seen (sym i.counted ∙ whole)).0 ∙ ap (λ v. v.seen) is

pub returns-clause-path : goal.returns-clause-path
returns-clause-path g c n low high =
    let is = ap (λ k. k.view) c.pass.view_is in
    let first = ap (λ v. v.first) is ∙ c.requires.belongs.1.1 in
    c.take_turn-home.ensures.home.path _ (ap (λ v. v.kept) is ∙ c.requires.belongs.1.0) n (omega (arith, first, low)) high

pub returns-clause-numbers : goal.returns-clause-numbers
returns-clause-numbers g c x =
    let v = c.pass.inside.seat.me.0 in
    let i = c.pass.invariant in
    let is = ap (λ k. k.view) c.pass.view_is in
    let whole = c.audit.ensures.whole (ap (λ k. k.parts) c.pass.view_is ∙ c.requires.all) in
    let all = (closes _ v _ _ _ (ap (λ v. v.kept) is ∙ c.requires.belongs.1.0, ap (λ v. v.first) is ∙ c.requires.belongs.1.1) c.take_turn-home.ensures.home i.rests i.in_seen (sym i.counted ∙ whole)).1 in
    ap (λ v. times x (v.mine ++ v.met)) (sym is) ∙ all x
