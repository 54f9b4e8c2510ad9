-- A sector that is in one of the lists is passed.
use Rattle.std.proofs.Common.{◌≡◌, ◌∙◌, refl, false}
use Rattle.geometry_map.specs.DefectMap.{is_open}
use Rattle.geometry_map.proofs.SpareLemmas.{find-passed}
use Rattle.geometry_map.proofs.slips.first_open.Goals as goal
use Rattle.geometry_map.proofs.slips.first_open.Goals.{else-not-is_listed-via-then-not-is_listed+then-not-is_in_a_pair+else-not-is_listed-2, else-not-is_listed-via-then-not-is_listed+else-not-is_in_a_pair, else-not-is_listed-via-else-not-is_listed}

pub loop-p-preserved : goal.loop-p-preserved
loop-p-preserved c =
    let closed : is_open c.args.primary.now c.args.pairs.now c.args.taken.now c.loop-p.p ≡ false =
    elim c.else-not-is_listed.branch [
      | else-not-is_listed-via-then-not-is_listed+then-not-is_in_a_pair+else-not-is_listed-2 w ↦
          rw (← c.is_listed.ensures, w.if-not-is_listed.true, ← w.is_in_a_pair.ensures, w.if-not-is_in_a_pair.true, ← w.is_listed-then-not-is_in_a_pair.ensures, w.if-not-is_listed-2.false) refl
      | else-not-is_listed-via-then-not-is_listed+else-not-is_in_a_pair w ↦
          rw (← c.is_listed.ensures, w.if-not-is_listed.true, ← w.is_in_a_pair.ensures, w.if-not-is_in_a_pair.false) refl
      | else-not-is_listed-via-else-not-is_listed w ↦ rw (← c.is_listed.ensures, w.if-not-is_listed.false) refl
    ] in
    c.loop-p.invariant ∙ find-passed (is_open c.args.primary.now c.args.pairs.now c.args.taken.now) c.loop-p.p c.args.to c.loop-p-test.true closed
