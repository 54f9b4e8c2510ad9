use Rattle.std.proofs.Common.{◌≡◌, ◌+◌, ◌*◌, ◌-◌, take, drop, refl, ap, ◌∙◌, arith}
use Rattle.rll_code.proofs.Decoding.{kept-bound, sixteen, sixteen_read, decoded_none, decoded_more, decoded_all}
use Rattle.rll_code.proofs.decoder.decode.Goals as goal

pub loop-i-init : goal.loop-i-init
loop-i-init c =
    rw (c.from-bits.ensures, c.from-marks.ensures) (decoded_none c.args.chan.now c.args.out.now c.args.flags.now _ c.settle-start.result.bits c.settle-start.result.flags c.settle-start.result.state (omega arith) c.packed.ensures c.settle-start.ensures)

pub joined-read-requires : goal.joined-read-requires
joined-read-requires c = (kept-bound c.loop-i.invariant.kept _ _ _ c.loop-i.invariant.keeps).0

pub joined-marked-requires : goal.joined-marked-requires
joined-marked-requires c = (kept-bound c.loop-i.invariant.kept _ _ _ c.loop-i.invariant.keeps).1

pub overflow_cast-out : goal.overflow_cast-out
overflow_cast-out c =
    let read = sixteen_read _ _ _ _ _ _ _ _ _ _ _ _ _ _ c.loop-i.invariant.keeps c.settle-first.ensures c.settle-second.ensures c.joined-read.ensures c.joined-marked.ensures in
    omega (arith, read.0.0)

pub loop-i-preserved : goal.loop-i-preserved
loop-i-preserved c =
    let read = sixteen_read _ _ _ _ _ _ _ _ _ _ _ _ _ _ c.loop-i.invariant.keeps c.settle-first.ensures c.settle-second.ensures c.joined-read.ensures c.joined-marked.ensures in
    let at = 16 * c.loop-i.i + 6 in
    let first : at + 8 - at ≡ 8 = omega arith in
    let second : at + 16 - (at + 8) ≡ 8 = omega arith in
    decoded_more _ _ _ _ _ _ _ _ _ _ _ _ _ _ refl c.loop-i.invariant read.1
    (sixteen c.args.chan.now at _ _
    (c.packed-in-loop-i.ensures ∙ ap (λ n. take n (drop at c.args.chan.now)) first)
    (c.packed-in-loop-i-2.ensures ∙ ap (λ n. take n (drop (at + 8) c.args.chan.now)) second))
    (omega arith) (omega arith)

pub returns-clause-bytes : goal.returns-clause-bytes
returns-clause-bytes c = (decoded_all _ _ _ _ _ _ _ c.loop-i.invariant (omega arith) (omega arith) (omega arith)).0

pub returns-clause-flagged : goal.returns-clause-flagged
returns-clause-flagged c = (decoded_all _ _ _ _ _ _ _ c.loop-i.invariant (omega arith) (omega arith) (omega arith)).1
