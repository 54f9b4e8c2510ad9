use Rattle.std.proofs.Common.{◌≡◌, ◌+◌, true, false, ◌∙◌, arith}
use Rattle.rs_sector.proofs.Reach.{outside_none_counted, outside_step, outside_all, test_erased, test_same, test_differs}
use Rattle.rs_sector.proofs.decoders.wrong_places.Goals as goal
use Rattle.rs_sector.proofs.decoders.wrong_places.Goals.{then-not-is_erased+then-a-k, else-not-is_erased, else-not-is_erased-via-then-not-is_erased+else-a-k, else-not-is_erased-via-else-not-is_erased}

pub loop-k-init : goal.loop-k-init
loop-k-init c = (outside_none_counted c.args.erased.now c.args.a.now c.args.b.now, omega arith)

pub loop-k-preserved : goal.loop-k-preserved
loop-k-preserved c =
    let a = c.args.a.now in
    let b = c.args.b.now in
    let erased = c.args.erased.now in
    let k = c.loop-k.k in
    elim c.if-not-is_erased.branch [
      | then-not-is_erased+then-a-k w ↦ (w.count-is ∙ outside_step erased a b k c.loop-k.count true (test_differs a b erased k w.if-not-is_erased.true w.if-a-k.true) c.loop-k.invariant.0, omega arith)
      | else-not-is_erased w ↦
          let same : c.if-not-is_erased.count ≡ c.loop-k.count + 0 = omega arith in (
            same ∙ outside_step erased a b k c.loop-k.count false
                (elim w.else-not-is_erased.branch [
                  | else-not-is_erased-via-then-not-is_erased+else-a-k v ↦ test_same a b erased k v.if-a-k.false
                  | else-not-is_erased-via-else-not-is_erased v ↦ test_erased a b erased k v.if-not-is_erased.false
                ])
                c.loop-k.invariant.0,
            omega arith,
          )
    ]

pub returns-clause-counted : goal.returns-clause-counted
returns-clause-counted c =
    let all : c.loop-k.k ≡ 148 = omega (arith, c.told-erased) in
    outside_all c.args.erased.now c.args.a.now c.args.b.now c.loop-k.k c.loop-k.count all c.loop-k.invariant.0
