-- Each recovery takes the last map that was committed, or the one whose commit was cut off.
use Rattle.std.proofs.Common.{◌≡◌, ℕ, ◌+◌, ◌-◌, ◌%◌, ◌≤◌, Bool, true, false, List, [], ◌∷◌, ◌++◌, Option, Some, None, refl, sym, ◌∙◌, ap, subst, arith, ◌⊎◌, inl, inr}
use Rattle.std.specs.Prelude.{◌==◌, if◌then◌else◌}
use Rattle.platter_model.specs.State.{State}
use Rattle.platter_model.specs.TrueLog.{strays}
use Rattle.geometry_map.specs.DefectMap.{DefectMap, sector}
use Rattle.read_recovery.specs.Stages.{stages_of}
use Rattle.map_generations.specs.Recovery.{Reads}
use Rattle.map_generations.specs.SafeMaps.{MayBeTaken, AreReadFrom, AreOneMap, IsKept, KeptPair, kept_for, with_map, alone}
use Rattle.map_generations.specs.SafetyLaws.{RecoveryTakesKeptMaps}
use Rattle.sector_store.specs.Maps.{meant_on, records_of}
use Rattle.sector_store.specs.Shapes.{recovery_records}
use Rattle.sector_store.specs.State.{Contained, IsStore, kept_of, kept_with}
use Rattle.sector_store.specs.Histories.{Happening, Committed, CommitCut, Taken, TakenCut, FoundCorrupt, Otherwise, TakesAnew, Happens, Happen, LastMaps, last_after, IsLastOrBroken, TakesLast, EachTakesLast, RecoveriesTakeLastMaps}
use Rattle.sector_store.proofs.WritesInOrder.{keeps-writes}
use Rattle.sector_store.proofs.Recovering.{silent, read_truly}

-- strays don't become fewer
same_strays : (a b : ℕ) → a ≡ b → b ≤ a
same_strays a b is = omega (arith, is)

on_strays : (a b c : ℕ) → a ≤ b → b ≤ c → a ≤ c
on_strays a b c low high = omega (arith, low, high)

anew_grows : (s middle : Contained) (m : DefectMap) → TakesAnew s m middle → strays s.platter.ops ≤ strays middle.platter.ops
anew_grows s middle m takes = (silent s.platter middle.platter 16 (stages_of 5) takes.reads takes.read.read).strays_grow

happens_grow : (s after : Contained) (happening : Happening) → Happens s happening after → strays s.platter.ops ≤ strays after.platter.ops
happens_grow s after (Committed next) happens =
    same_strays _ _ (ap (λ (x : Contained). strays x.platter.ops) happens.1.is ∙ (keeps-writes s.platter (records_of next)).strays_same)
happens_grow s after (CommitCut next) happens =
    same_strays _ _ (ap (λ (x : Contained). strays x.platter.ops) happens.1.is ∙ (keeps-writes s.platter (records_of next)).strays_same)
happens_grow s after (Taken m) happens =
    on_strays _ _ _ (anew_grows s happens.0 m happens.2)
    (same_strays _ _ (ap (λ (x : Contained). strays x.platter.ops) happens.3.is ∙ (keeps-writes happens.0.platter (recovery_records m)).strays_same))
happens_grow s after (TakenCut m) happens =
    on_strays _ _ _ (anew_grows s happens.0 m happens.1)
    (same_strays _ _ (ap (λ (x : Contained). strays x.platter.ops) happens.2.is ∙ (keeps-writes happens.0.platter (recovery_records m)).strays_same))
happens_grow s after (FoundCorrupt slot) happens =
    on_strays _ _ _ (silent s.platter happens.middle.platter 16 (stages_of 5) happens.reads happens.read.read).strays_grow
    (same_strays _ _ (ap (λ (x : Contained). strays x.platter.ops) happens.told.1))
happens_grow s after Otherwise happens = happens.2.strays_grow

pub happen_grow : (s after : Contained) (history : List Happening) → Happen s history after → strays s.platter.ops ≤ strays after.platter.ops
happen_grow s after [] happen = same_strays _ _ (ap (λ (x : Contained). strays x.platter.ops) happen)
happen_grow s after (happening ∷ rest) (middle, here, store, later) =
    on_strays _ _ _ (happens_grow s middle happening here) (happen_grow middle after rest later)

-- what is kept is one of both maps
by_number : (even : Bool) (m : DefectMap) (number : Bool) (map : DefectMap)
    → (if number then (let pair : KeptPair = if even then record { even = Some m; odd = None } else record { even = None; odd = Some m } in pair).even
    else (let pair : KeptPair = if even then record { even = Some m; odd = None } else record { even = None; odd = Some m } in pair).odd) ≡ Some map → map ≡ m
by_number true m true map is = cc
by_number true m false map is = let never : ⊥ = cc in absurd never
by_number false m true map is = let never : ⊥ = cc in absurd never
by_number false m false map is = cc

kept_is : (m : DefectMap) (next : Option DefectMap) (number : ℕ) (map : DefectMap) → kept_for (kept_with m next) number ≡ Some map
    → (map ≡ m) ⊎ (next ≡ Some map)
kept_is m None number map is = inl (by_number (m.number % 2 == 0) m (number % 2 == 0) map is)
kept_is m (Some next) number map is = by (m.number % 2 == 0) (next.number % 2 == 0) (number % 2 == 0) is
  where
    first : Bool → KeptPair
    first b = if b then record { even = Some m; odd = None } else record { even = None; odd = Some m }

    by : (a b c : Bool) → (if c then (if b then (let one : KeptPair = record { even = Some next; odd = (first a).odd } in one) else (let other : KeptPair = record { even = (first a).even; odd = Some next } in other)).even
        else (if b then (let one : KeptPair = record { even = Some next; odd = (first a).odd } in one) else (let other : KeptPair = record { even = (first a).even; odd = Some next } in other)).odd) ≡ Some map
        → (map ≡ m) ⊎ (Some next ≡ Some map)
    by true true true is = inr is
    by true true false is = let never : ⊥ = cc in absurd never
    by true false true is = inl cc
    by true false false is = inr is
    by false true true is = inr is
    by false true false is = inl cc
    by false false true is = let never : ⊥ = cc in absurd never
    by false false false is = inr is

-- a map but for its number and its slot
pub record IsButNumbered (m last : DefectMap) : Type 0 where
  pub same : (let as_last : DefectMap = record m { number = last.number; slot = last.slot } in as_last) ≡ last

one_but_numbered : (m map last : DefectMap) → IsButNumbered map last → AreOneMap m map → AreOneMap m last
one_but_numbered m map last is one =
    subst (λ (n : DefectMap). AreOneMap m n) is.same
    (record { alike = record { measures = one.alike.measures; primary = one.alike.primary; grown = one.alike.grown }; state = one.state })

-- a recovery takes one of both
takes_one : RecoveryTakesKeptMaps → (s middle : Contained) (m : DefectMap) (maps : LastMaps) → IsStore s → IsButNumbered s.map maps.last → s.next ≡ maps.broken_off
    → strays middle.platter.ops ≡ 0 → TakesAnew s m middle → IsLastOrBroken maps m
takes_one law s middle m maps store last_is next_is none takes =
    by (kept_is s.map s.next m.number kept.map kept.for_number)
  where
    begun : strays s.platter.ops ≡ 0
    begun = let grows = anew_grows s middle m takes in omega (arith, grows, none)

    from_before : (p : ℕ) → (takes.reads p ≡ meant_on middle.platter.ops p) ⊎ (takes.reads p ≡ None)
        → (takes.reads p ≡ meant_on s.platter.ops p) ⊎ (takes.reads p ≡ None)
    from_before p (inl same) = inl (same ∙ (silent s.platter middle.platter 16 (stages_of 5) takes.reads takes.read.read).means (sector p))
    from_before p (inr nothing) = inr nothing

    may : MayBeTaken middle.map.size (meant_on s.platter.ops) m
    may = record {
      reads = takes.reads;
      read = λ p low. from_before p (read_truly s.platter middle.platter (stages_of 5) takes.reads takes.read.read none p low);
      taken = takes.taken;
    }

    kept : IsKept (kept_of s) m
    kept = law middle.map.size (meant_on s.platter.ops) (kept_of s) m (store.safe begun) may

    by : (kept.map ≡ s.map) ⊎ (s.next ≡ Some kept.map) → IsLastOrBroken maps m
    by (inl is) = inl (one_but_numbered m s.map maps.last last_is (subst (λ (n : DefectMap). AreOneMap m n) is kept.one))
    by (inr is) = inr (kept.map, sym next_is ∙ is, kept.one)

-- what the store keeps, by what happened
pub record AreLast (s : Contained) (maps : LastMaps) : Type 0 where
  pub last : IsButNumbered s.map maps.last
  pub broken_off : s.next ≡ maps.broken_off

itself : (m : DefectMap) → IsButNumbered m m
itself m = record { same = refl }

are_last : (s after : Contained) (happening : Happening) (maps : LastMaps) → AreLast s maps → Happens s happening after → AreLast after (last_after maps happening)
are_last s after (Committed next) maps are happens = record {
  last = subst (λ (n : DefectMap). IsButNumbered n next) (sym (ap (λ (x : Contained). x.map) happens.1.is)) (itself next);
  broken_off = happens.1.ready.none;
}
are_last s after (CommitCut next) maps are happens = record {
  last = subst (λ (n : DefectMap). IsButNumbered n maps.last) (sym (ap (λ (x : Contained). x.map) happens.1.is)) are.last;
  broken_off = ap (λ (x : Contained). x.next) happens.1.is;
}
are_last s after (Taken m) maps are happens = record {
  last = subst (λ (n : DefectMap). IsButNumbered n m) (sym (ap (λ (x : Contained). x.map) happens.3.is)) (record { same = refl });
  broken_off = happens.3.ready.none;
}
are_last s after (TakenCut m) maps are happens = record {
  last = subst (λ (n : DefectMap). IsButNumbered n maps.last)
      (sym (ap (λ (x : Contained). x.map) happens.2.is ∙ ap (λ (x : Contained). x.map) happens.1.read.is)) are.last;
  broken_off = ap (λ (x : Contained). x.next) happens.2.is ∙ (ap (λ (x : Contained). x.next) happens.1.read.is ∙ are.broken_off);
}
are_last s after (FoundCorrupt slot) maps are happens = record {
  last = subst (λ (n : DefectMap). IsButNumbered n maps.last)
      (sym (ap (λ (x : Contained). x.map) happens.told.1 ∙ ap (λ (x : Contained). x.map) happens.read.is)) are.last;
  broken_off = ap (λ (x : Contained). x.next) happens.told.1 ∙ (ap (λ (x : Contained). x.next) happens.read.is ∙ are.broken_off);
}
are_last s after Otherwise maps are happens = record {
  last = subst (λ (n : DefectMap). IsButNumbered n maps.last) (sym happens.0) are.last;
  broken_off = happens.1 ∙ are.broken_off;
}

takes_last : RecoveryTakesKeptMaps → (s after : Contained) (happening : Happening) (maps : LastMaps) → IsStore s → AreLast s maps → Happens s happening after
    → strays after.platter.ops ≡ 0 → TakesLast maps happening
takes_last law s after (Committed next) maps store are happens none = tt
takes_last law s after (CommitCut next) maps store are happens none = tt
takes_last law s after (Taken m) maps store are happens none =
    let same : strays happens.0.platter.ops ≡ 0 =
    sym (keeps-writes happens.0.platter (recovery_records m)).strays_same ∙ (sym (ap (λ (x : Contained). strays x.platter.ops) happens.3.is) ∙ none) in
    takes_one law s happens.0 m maps store are.last are.broken_off same happens.2
takes_last law s after (TakenCut m) maps store are happens none =
    let same : strays happens.0.platter.ops ≡ 0 =
    sym (keeps-writes happens.0.platter (recovery_records m)).strays_same ∙ (sym (ap (λ (x : Contained). strays x.platter.ops) happens.2.is) ∙ none) in
    takes_one law s happens.0 m maps store are.last are.broken_off same happens.1
takes_last law s after (FoundCorrupt slot) maps store are happens none = tt
takes_last law s after Otherwise maps store are happens none = tt

each_takes_last : RecoveryTakesKeptMaps → (s after : Contained) (history : List Happening) (maps : LastMaps) → IsStore s → AreLast s maps
    → Happen s history after → strays after.platter.ops ≡ 0 → EachTakesLast maps history
each_takes_last law s after [] maps store are happen none = tt
each_takes_last law s after (happening ∷ rest) maps store are (middle, here, middle_store, later) none =
    let grows = happen_grow middle after rest later in
    let none_yet : strays middle.platter.ops ≡ 0 = omega (arith, grows, none) in (
      takes_last law s middle happening maps store are here none_yet,
      each_takes_last law middle after rest (last_after maps happening) middle_store (are_last s middle happening maps are here) later none,
    )

pub recoveries_take_last_maps : RecoveryTakesKeptMaps → RecoveriesTakeLastMaps
recoveries_take_last_maps law s after history store happen none =
    each_takes_last law s after history (record { last = s.map; broken_off = s.next }) store (record { last = itself s.map; broken_off = refl }) happen none
