-- The placer of the map without its pairs, and then its pairs.
use Rattle.std.proofs.Common.{◌≡◌, ◌∙◌, ap, sym, subst, rules, List, []}
use Rattle.geometry_map.specs.declared.pair.Pair.{Pair}
use Rattle.geometry_map.specs.declared.placer.Placer.{Placer}
use Rattle.geometry_map.specs.Size.{capacity_of}
use Rattle.geometry_map.specs.DefectMap.{IsGrownList}
use Rattle.geometry_map.specs.Placer.{gaps_of, IsPlacerOf}
use Rattle.geometry_map.proofs.PlacerLemmas.{unmoved, unmoved-valid, unmoved-remap}
use Rattle.geometry_map.proofs.placer.Placer.of.Goals as goal

pub returns : goal.returns
returns c =
    let m = c.args.map.now in
    let first : Placer = record { gaps = c.gaps.result; remap = c.new.result; blocks = c.blocks-2.result } in
    let none : c.new.result.items ≡ [] = search rules in
    let is : IsPlacerOf first (unmoved c.args.map.now) = record {
      valid = unmoved-valid m c.lists_are_valid.ensures;
      gaps = c.gaps.ensures ∙ ap gaps_of c.primary.ensures;
      remap = none ∙ sym (unmoved-remap m c.lists_are_valid.ensures);
      blocks = c.blocks-2.ensures.value ∙ ap capacity_of c.size-2.ensures;
    } in
    let Made : List Pair → Type 0 = λ l. IsGrownList c.args.map.now.size c.args.map.now.primary l → IsPlacerOf c.with_pairs.result (record m { grown = l }) in
    subst Made c.grown.ensures (c.with_pairs.ensures (unmoved m) is) c.lists_are_valid.ensures.grown
