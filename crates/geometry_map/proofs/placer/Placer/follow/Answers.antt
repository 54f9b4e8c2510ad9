-- The routes go on where one ends at the pair's old; a block that starts there begins one; else all stay.
use Rattle.std.proofs.Common.{◌≡◌, ◌∙◌, List, ap, sym, true, false, length, map, ◌==◌}
use Rattle.std.specs.List.{list_any}
use Rattle.std.proofs.lemmas.List.{length-map}
use Rattle.geometry_map.specs.declared.pair.Pair.{Pair}
use Rattle.geometry_map.specs.Placer.{remap_of, followed, IsStart}
use Rattle.geometry_map.proofs.OwnSpares.{true_false}
use Rattle.geometry_map.proofs.RouteLemmas.{one_more-valid, ends-elsewhere, no-start-elsewhere, remap-followed, remap-kept}
use Rattle.geometry_map.proofs.PlacerLemmas.{refilled}
use Rattle.geometry_map.proofs.placer.Placer.follow.Goals as goal

pub returns-then-ends_at : goal.returns-then-ends_at
returns-then-ends_at c m is fits =
    let pair = c.args.pair.now in
    let routes : List Pair = c.args.self.now.remap.items in
    let Ends = λ (l : List Pair). list_any (λ (x : Pair). x.new.0 == pair.old.0) l in
    let same : c.deref.result.now ≡ remap_of m = c.deref.ensures.0 ∙ is.remap in
    let ended : list_any (λ (x : Pair). x.new.0 == pair.old.0) (remap_of m) ≡ true = ap Ends (sym same) ∙ sym c.ends_at.ensures ∙ c.if-ends_at.true in
    let led : c.lead_on.new.remap ≡ map (followed pair) c.args.self.now.remap.items = c.lead_on.ensures ∙ ap (map (followed pair)) c.as_mut_slice.ensures.value in
    let long : length c.lead_on.new.remap ≡ length c.args.self.now.remap.items = ap length led ∙ length-map c.args.self.now.remap.items (followed pair) in
    record {
      valid = one_more-valid m pair is.valid fits;
      gaps = is.gaps;
      remap = refilled c.args.self.now.remap.items c.lead_on.new.remap long ∙ led ∙ ap (map (followed pair)) is.remap
          ∙ sym (remap-followed m pair is.valid fits (ends-elsewhere m pair.old.0 is.valid ended));
      blocks = is.blocks;
    }

pub returns-then-starts_a_block : goal.returns-then-starts_a_block
returns-then-starts_a_block c m is fits =
    let pair = c.args.pair.now in
    let Ends = λ (l : List Pair). list_any (λ (x : Pair). x.new.0 == pair.old.0) l in
    let none : list_any (λ (x : Pair). x.new.0 == pair.old.0) c.args.self.now.remap.items ≡ false = ap Ends (sym c.deref.ensures.0) ∙ sym c.ends_at.ensures ∙ c.if-ends_at.false in
    let starts : IsStart m pair.old = (c.starts_a_block.ensures m is).0 c.if-starts_a_block.true in
    record {
      valid = one_more-valid m pair is.valid fits;
      gaps = is.gaps;
      remap = c.begin_route.ensures m is.valid is.remap starts none fits;
      blocks = is.blocks;
    }

pub returns-else-starts_a_block : goal.returns-else-starts_a_block
returns-else-starts_a_block c m is fits =
    let pair = c.args.pair.now in
    let Ends = λ (l : List Pair). list_any (λ (x : Pair). x.new.0 == pair.old.0) l in
    let none : list_any (λ (x : Pair). x.new.0 == pair.old.0) (remap_of m) ≡ false = ap Ends (sym is.remap ∙ sym c.deref.ensures.0) ∙ sym c.ends_at.ensures ∙ c.if-ends_at.false in
    let nowhere : IsStart m pair.old → ⊥ = λ starts. true_false (sym ((c.starts_a_block.ensures m is).1 starts) ∙ c.if-starts_a_block.false) in
    record {
      valid = one_more-valid m pair is.valid fits;
      gaps = is.gaps;
      remap = is.remap ∙ sym (remap-kept m pair is.valid fits (no-start-elsewhere m pair.old nowhere) none);
      blocks = is.blocks;
    }
