-- An earlier pair with the same spare refutes the claim; without one the claim grows by a pair.
use Rattle.std.proofs.Common.{sym, subst, ◌∙◌, List, refl}
use Rattle.std.specs.Prelude.{AllPairs}
use Rattle.std.proofs.lemmas.List.{take_all}
use Rattle.geometry_map.specs.declared.pair.Pair.{Pair}
use Rattle.geometry_map.specs.DefectMap.{HaveOwnSpares}
use Rattle.geometry_map.proofs.OwnSpares.{own_spares-fail, own_spares-more}
use Rattle.geometry_map.proofs.lists.have_own_spares.Goals as goal

pub returns-then-has_spare : goal.returns-then-has_spare
returns-then-has_spare c =
    ((λ f. absurd (cc)), λ own. absurd (own_spares-fail _ _ _ c.loop-i-test.true (sym c.has_spare.ensures ∙ c.if-has_spare.true) own))

pub loop-i-preserved : goal.loop-i-preserved
loop-i-preserved c = own_spares-more _ _ _ c.loop-i-test.true (sym c.has_spare.ensures ∙ c.if-has_spare.false) c.loop-i.invariant

pub returns : goal.returns
returns c =
    let P : List Pair → Type 0 = AllPairs HaveOwnSpares in
    ((λ t. subst P (take_all c.loop-i.i c.args.pairs.now c.loop-i-test.false) c.loop-i.invariant), λ own. refl)
