use Rattle.std.proofs.Common.{◌≡◌, ◌<◌, ◌+◌, arith, sym, subst, ◌∙◌, ◌-◌}
use Rattle.rs_sector.specs.Code.{point}
use Rattle.rs_sector.specs.Lanes.{Eliminates}
use Rattle.rs_sector.proofs.Powers.{power-lt, power-one}
use Rattle.rs_sector.proofs.Errors.{LeavesSums, leaves_none, leaves_marked, leaves_unmarked, leaves_all}
use Rattle.rs_sector.proofs.locate.without_erased.Goals as goal
use Rattle.rs_sector.proofs.locate.without_erased.Goals.{then-is_erased, else-is_erased}

pub loop-k-init : goal.loop-k-init
loop-k-init c = leaves_none c.args.sums.now c.args.erased.now

pub loop-k-preserved : goal.loop-k-preserved
loop-k-preserved c =
    elim c.if-is_erased.branch [
      | then-is_erased w ↦
          let within : c.loop-k.k < 148 = omega (arith, c.told-erased) in
          let at_point = w.point_powers.ensures c.loop-k.k 1 within (omega arith) ∙ power-one (point c.loop-k.k) (power-lt 2 (147 - c.loop-k.k)) in
          subst (λ r. LeavesSums c.args.sums.now c.args.erased.now r (c.loop-k.k + 1)) (sym w.rest-is)
          (leaves_marked c.args.sums.now c.args.erased.now c.loop-k.rest w.eliminate.new.sums c.loop-k.k w.if-is_erased.true (subst (Eliminates c.loop-k.rest w.eliminate.new.sums) at_point w.eliminate.ensures) c.loop-k.invariant)
      | else-is_erased w ↦
          subst (λ r. LeavesSums c.args.sums.now c.args.erased.now r (c.loop-k.k + 1)) (sym w.rest-is) (leaves_unmarked c.args.sums.now c.args.erased.now c.loop-k.rest c.loop-k.k w.if-is_erased.false c.loop-k.invariant)
    ]

pub returns : goal.returns
returns c =
    let all : c.loop-k.k ≡ 148 = omega (arith, c.told-erased) in
    leaves_all c.args.sums.now c.args.erased.now c.loop-k.rest c.loop-k.k all c.loop-k.invariant
