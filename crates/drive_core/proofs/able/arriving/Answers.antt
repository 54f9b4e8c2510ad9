use Rattle.std.proofs.Common.{◌≡◌, arith, ◌∷◌, [], ◌++◌, length, length-append, ap}
use Rattle.drive_scene.proofs.Walking.{arrives-one, arrives-none}
use Rattle.drive_core.proofs.able.arriving.Goals as goal
use Rattle.drive_core.proofs.able.arriving.Goals.{in-Some, in_default}

pub loop-number-preserved : goal.loop-number-preserved
loop-number-preserved c = elim c.match-comes.branch [
  | in-Some w ↦
      let more : c.match-comes.arriving.items ≡ c.loop-number.arriving.items ++ w.in-Some.initiator ∷ [] = cc in
      record {
        low = omega arith;
        found = arrives-one c.args.waiting.now c.loop-number.number w.in-Some.initiator c.comes.result c.loop-number.arriving.items c.match-comes.arriving.items
            c.loop-number.invariant.low c.loop-number-test.true c.loop-number.invariant.found c.comes.ensures w.in-Some.is more;
        few = omega (arith, ap length more, length-append c.loop-number.arriving.items (w.in-Some.initiator ∷ []), c.loop-number.invariant.few);
      }
  | in_default w ↦
      let same : c.match-comes.arriving.items ≡ c.loop-number.arriving.items = cc in
      record {
        low = omega arith;
        found = arrives-none c.args.waiting.now c.loop-number.number c.comes.result c.loop-number.arriving.items c.match-comes.arriving.items
            c.loop-number.invariant.low c.loop-number-test.true c.loop-number.invariant.found c.comes.ensures w.in_default.is same;
        few = omega (arith, ap length same, c.loop-number.invariant.few);
      }
]
