-- The i-th of sectors that ascend from 16 is 16 + i at least, and each adds its gap.
use Rattle.std.proofs.Common.{◌≡◌, ◌∙◌, ◌++◌, ◌∷◌, ◌-◌, [], ◌<◌, List, ℕ, ap, sym, arith, lit<, length, length-take, take, get_or}
use Rattle.geometry_map.specs.declared.limits.TheConstants.{PRIMARY_MAX}
use Rattle.geometry_map.proofs.GapLemmas.{AscendsWithin-at, gaps_of-more, length-gaps_of}
use Rattle.geometry_map.proofs.placer.gaps.Goals as goal

pub overflow_sub-defect : goal.overflow_sub-defect
overflow_sub-defect c = omega (arith, AscendsWithin-at c.loop-i.i 16 c.args.total c.args.primary.now (record { 0 = 0 }) c.requires.ascending c.loop-i-test.true)

pub overflow_sub-defect-in-loop-i : goal.overflow_sub-defect-in-loop-i
overflow_sub-defect-in-loop-i c = omega (arith, AscendsWithin-at c.loop-i.i 16 c.args.total c.args.primary.now (record { 0 = 0 }) c.requires.ascending c.loop-i-test.true)

pub push-requires : goal.push-requires
push-requires c =
    let room : length c.loop-i.gaps.items < PRIMARY_MAX = omega (arith, ap length c.loop-i.invariant, length-gaps_of 0 (take c.loop-i.i c.args.primary.now), length-take c.loop-i.i c.args.primary.now, c.requires.few, c.loop-i-test.true) in
    (lit< tt, room)

pub loop-i-preserved : goal.loop-i-preserved
loop-i-preserved c =
    let push : c.push.new.self.items ≡ c.loop-i.gaps.items ++ ((get_or c.args.primary.now c.loop-i.i (record { 0 = 0 })).0 - 16 - c.loop-i.i) ∷ [] = c.push.ensures.items in
    push
    ∙ ap (λ (gaps : List ℕ). gaps ++ ((get_or c.args.primary.now c.loop-i.i (record { 0 = 0 })).0 - 16 - c.loop-i.i) ∷ []) c.loop-i.invariant
    ∙ sym (gaps_of-more c.args.primary.now c.loop-i.i (record { 0 = 0 }) c.loop-i-test.true)
