use Rattle.std.proofs.Common.{◌≡◌, ◌+◌, true, false, ◌∙◌, arith}
use Rattle.rs_sector.proofs.Repairing.{counted_none, counted_step, counted_all}
use Rattle.rs_sector.proofs.decode.count.Goals as goal
use Rattle.rs_sector.proofs.decode.count.Goals.{then-marked, else-marked}

pub loop-marked-init : goal.loop-marked-init
loop-marked-init c = (counted_none c.args.marks.now, omega arith)

pub loop-marked-preserved : goal.loop-marked-preserved
loop-marked-preserved c =
    elim c.if-marked.branch [
      | then-marked w ↦ (w.count-is ∙ counted_step c.args.marks.now c.loop-marked.marked-index c.loop-marked.count true w.if-marked.true c.loop-marked.invariant.0, omega arith)
      | else-marked w ↦ (
        let e : c.if-marked.count ≡ c.loop-marked.count + 0 = omega arith in e ∙ counted_step c.args.marks.now c.loop-marked.marked-index c.loop-marked.count false w.if-marked.false c.loop-marked.invariant.0,
        omega arith,
      )
    ]

pub returns : goal.returns
returns c =
    let all : c.loop-marked.marked-index ≡ 148 = omega (arith, c.told-marks) in
    counted_all c.args.marks.now c.loop-marked.marked-index c.loop-marked.count all c.loop-marked.invariant.0
