-- Each pair is taken by the map with those before it.
use Rattle.std.proofs.Common.{◌∙◌, List, subst, take}
use Rattle.std.proofs.lemmas.List.{take_all}
use Rattle.geometry_map.specs.declared.pair.Pair.{Pair}
use Rattle.geometry_map.specs.DefectMap.{with_pairs}
use Rattle.geometry_map.specs.Placer.{IsPlacerOf}
use Rattle.geometry_map.proofs.PlacerLemmas.{placer-none, placer-more, fits-more}
use Rattle.geometry_map.proofs.placer.Placer.with_pairs.Goals as goal

pub loop-pair-init : goal.loop-pair-init
loop-pair-init c m is fits =
    placer-none c.copy-placer.result m (record { valid = is.valid; gaps = c.copy-placer.ensures.gaps ∙ is.gaps; remap = c.copy-placer.ensures.remap ∙ is.remap; blocks = c.copy-placer.ensures.blocks ∙ is.blocks })

pub loop-pair-preserved : goal.loop-pair-preserved
loop-pair-preserved c m is fits =
    let blank : Pair = record { old = record { 0 = 0 }; new = record { 0 = 0 } } in
    let pairs = c.args.pairs.now in
    let i = c.loop-pair.pair-index in
    placer-more c.follow.new.self m pairs i blank c.loop-pair-test.true
    (c.follow.ensures (with_pairs m (take i pairs)) (c.loop-pair.invariant m is fits) (fits-more m pairs i blank c.loop-pair-test.true fits))

pub returns : goal.returns
returns c m is fits =
    let P : List Pair → Type 0 = λ l. IsPlacerOf c.loop-pair.placer (with_pairs m l) in
    subst P (take_all c.loop-pair.pair-index c.args.pairs.now c.loop-pair-test.false) (c.loop-pair.invariant m is fits)
