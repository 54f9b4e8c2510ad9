use Rattle.std.proofs.Common.{refl, ◌≡◌, ◌*◌, ◌-◌, Bool, length, arith, ap, subst, length-take, length-drop}
use Rattle.rll_code.proofs.Encoding.{Encoded, waiting, encoded_more, encoded_all}
use Rattle.rll_code.proofs.encoder.encode.Goals as goal

pub loop-i-preserved : goal.loop-i-preserved
loop-i-preserved c =
    let waits : c.waiting.result ≡ waiting c.loop-i.state = c.waiting.ensures in
    let at : 16 * c.loop-i.i - 2 * c.waiting.result ≡ 16 * c.loop-i.i - 2 * waiting c.loop-i.state = ap (λ w. 16 * c.loop-i.i - 2 * w) waits in
    encoded_more _ _ _ c.loop-i.state c.loop-i.i c.advance-step.result.word _ _ _ 22 c.loop-i.invariant c.loop-i-test.true c.advance-step.ensures c.put.ensures refl at (omega arith)

pub returns : goal.returns
returns c =
    let waits : c.waiting-2.result ≡ waiting c.loop-i.state = c.waiting-2.ensures in
    let at : 16 * length c.args.bytes.now - 2 * c.waiting-2.result ≡ 16 * length c.args.bytes.now - 2 * waiting c.loop-i.state = ap (λ w. 16 * length c.args.bytes.now - 2 * w) waits in
    let all : c.loop-i.i ≡ length c.args.bytes.now = omega arith in
    let invariant = subst (λ i. Encoded c.args.bytes.now c.loop-i.out c.loop-i.state i) all c.loop-i.invariant in
    let placed = invariant.placed in
    encoded_all c.args.bytes.now c.loop-i.out c.put_end.new.places c.loop-i.state c.finish.result _ _ _ invariant c.finish.ensures c.put_end.ensures
    (omega (arith, length-take {A = Bool}, length-drop {A = Bool})) at
    (omega (arith, length-take {A = Bool}, length-drop {A = Bool}))
    (omega (arith, length-take {A = Bool}, length-drop {A = Bool}))
