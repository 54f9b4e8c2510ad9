-- A route that ends at the pair's old is written anew, and each other one is what the pair makes of it.
use Rattle.std.proofs.Common.{◌<◌, arith, length, get_or, set, sym, ap, ◌∙◌}
use Rattle.std.proofs.lemmas.List.{get_or_default}
use Rattle.std.proofs.lemmas.List.Edits.{map_over_more}
use Rattle.geometry_map.specs.declared.pair.Pair.{Pair}
use Rattle.geometry_map.specs.Placer.{followed}
use Rattle.geometry_map.proofs.RouteLemmas.{followed-at, followed-off}
use Rattle.geometry_map.proofs.placer.lead_on.Goals.{then-route-pair, else-route-pair}
use Rattle.geometry_map.proofs.placer.lead_on.Goals as goal

pub loop-route-preserved : goal.loop-route-preserved
loop-route-preserved c =
    let xs = c.args.remap.now in
    let ys = c.loop-route.remap in
    let i = c.loop-route.route-index in
    let blank : Pair = record { old = record { 0 = 0 }; new = record { 0 = 0 } } in
    let x : Pair = get_or ys i blank in
    let within : c.loop-route.route-index < length c.loop-route.remap = omega (arith, c.loop-route.auto.remap, c.loop-route-test.true) in
    let step = map_over_more (followed c.args.pair.now) xs ys i x c.loop-route-test.true c.loop-route.invariant (get_or_default ys i blank x within) in
    elim c.if-route-pair.branch [
      | then-route-pair w ↦ w.remap-is ∙ ap (set ys i) (sym (followed-at c.args.pair.now x w.if-route-pair.true)) ∙ step
      | else-route-pair w ↦ w.remap-is ∙ ap (set ys i) (sym (followed-off c.args.pair.now x w.if-route-pair.false)) ∙ step
    ]
