-- What the two halvings of a placer find.
use Rattle.std.proofs.Common.{◌≡◌, ℕ, ◌+◌, ◌<◌, ◌≤◌, suc, true, false, List, [], ◌∷◌, ◌++◌, length, get_or, refl, sym, ◌∙◌, ap, subst, inl, inr, arith, append-nil, length-append}
use Rattle.std.specs.Prelude.{nat_le, filter}
use Rattle.std.specs.List.Sorted.{IsPartitionPoint, IsPartitionedBy, IsNonDecreasingBy}
use Rattle.std.specs.Ordering.{nat_cmp, ordering_index}
use Rattle.std.specs.declared.cmp.Ordering.TheVariants.{Less, Equal, Greater}
use Rattle.std.proofs.lemmas.Bool.Decides.{leb_tells, eqb_tells}
use Rattle.std.proofs.lemmas.List.FromFn.{filter_of_map_range_with_len_more}
use Rattle.geometry_map.specs.declared.limits.TheConstants.{PAIRS_MAX}
use Rattle.geometry_map.specs.declared.pair.Pair.{Pair}
use Rattle.geometry_map.specs.declared.placer.Placer.{Placer}
use Rattle.geometry_map.specs.Size.{total_of, capacity_of}
use Rattle.geometry_map.specs.Slips.{slipped}
use Rattle.geometry_map.specs.DefectMap.{DefectMap, sector, place_of, IsValidMap}
use Rattle.geometry_map.specs.Placer.{gaps_of, route_of, is_moved, remap_of, IsPlacerOf}
use Rattle.geometry_map.proofs.GapLemmas.{AscendsWithin-from, gaps-partitioned, SplitsAt, slipped-counted}
use Rattle.geometry_map.proofs.Places.{start-slipped}
use Rattle.geometry_map.proofs.RemapLemmas.{start_of, routes, Rises-searchable, remap-rises, remap-routes, route-leads, start-stays, moved-few}

-- the gaps can be halved at any block
pub gaps-halved : (placer : Placer) (m : DefectMap) (b : ℕ) → IsPlacerOf placer m → IsPartitionedBy (λ g. nat_le g b) placer.gaps.items
gaps-halved placer m b is =
    let P : List ℕ → Type 0 = IsPartitionedBy (λ g. nat_le g b) in
    subst P (sym is.gaps) (gaps-partitioned (total_of m.size) b m.primary is.valid.primary.ascending)

-- where they are split a block's start is read
pub start-counted : (placer : Placer) (m : DefectMap) (b k : ℕ) → IsPlacerOf placer m → b < capacity_of m.size → k ≤ length placer.gaps.items → SplitsAt b placer.gaps.items k
    → 16 + b + k ≡ start_of m b
start-counted placer m b k is below most splits =
    let P : List ℕ → Type 0 = λ gaps. SplitsAt b gaps k in
    let splits' : SplitsAt b (gaps_of m.primary) k = subst P is.gaps splits in
    let most' : k ≤ length (gaps_of m.primary) = omega (arith, ap length is.gaps) in
    let counted : slipped (16 + b + 0) m.primary ≡ 16 + b + 0 + k = slipped-counted 0 b k (total_of m.size) m.primary (AscendsWithin-from (16 + 0) 16 (total_of m.size) m.primary (omega arith) is.valid.primary.ascending) most' splits' in
    let e : 16 + b ≡ 16 + b + 0 = omega arith in
    let same : slipped (16 + b) m.primary ≡ slipped (16 + b + 0) m.primary = ap (λ p. slipped p m.primary) e in
    omega (arith, start-slipped m (record { 0 = b }) is.valid below)

-- the remap can be halved at any sector
pub remap-halved : (placer : Placer) (m : DefectMap) (s : ℕ) → IsPlacerOf placer m → IsNonDecreasingBy (λ x. ordering_index (nat_cmp x.old.0 s)) placer.remap.items
remap-halved placer m s is =
    let P : List Pair → Type 0 = IsNonDecreasingBy (λ x. ordering_index (nat_cmp x.old.0 s)) in
    subst P (sym is.remap) (Rises-searchable 0 s (remap_of m) (remap-rises m is.valid))

-- two numbers that compare equal are equal
pub nat_cmp-Equal : (x y : ℕ) → nat_cmp x y ≡ Equal → x ≡ y
nat_cmp-Equal x y e =
    elim (leb_tells (suc x) y) [
      | inl w ↦ absurd (let no : Less ≡ Equal = rw w.0 at e in cc)
      | inr w ↦ elim (eqb_tells x y) [ inl v ↦ v.1 | inr v ↦ absurd (let no : Greater ≡ Equal = rw (w.0, v.0) at e in cc) ]
    ]

-- what is found there leads to the block's place
pub place-found : (placer : Placer) (m : DefectMap) (b i s : ℕ) (d : Pair) → IsPlacerOf placer m → b < capacity_of m.size → s ≡ start_of m b
    → i < length placer.remap.items → nat_cmp (get_or placer.remap.items i d).old.0 s ≡ Equal
    → (get_or placer.remap.items i d).new ≡ place_of m (record { 0 = b })
place-found placer m b i s d is below start within equal =
    let read : get_or placer.remap.items i d ≡ get_or (remap_of m) i d = ap (λ (l : List Pair). get_or l i d) is.remap in
    let old : (get_or (remap_of m) i d).old.0 ≡ start_of m b = ap (λ (x : Pair). x.old.0) (sym read) ∙ nat_cmp-Equal (get_or placer.remap.items i d).old.0 s equal ∙ start in
    ap (λ (x : Pair). x.new) read ∙ route-leads m b (get_or (remap_of m) i d) is.valid below (remap-routes m i d (omega (arith, ap length is.remap))) old

-- where none is found the block is where it starts
pub place-missing : (placer : Placer) (m : DefectMap) (b i s : ℕ) → IsPlacerOf placer m → b < capacity_of m.size → s ≡ start_of m b
    → IsPartitionPoint (λ x. nat_cmp x.old.0 s ≡ Less) (λ x. nat_cmp x.old.0 s ≡ Greater) placer.remap.items i
    → sector s ≡ place_of m (record { 0 = b })
place-missing placer m b i s is below start splits =
    let P : List Pair → ℕ → Type 0 = λ l p. IsPartitionPoint (λ x. nat_cmp x.old.0 p ≡ Less) (λ x. nat_cmp x.old.0 p ≡ Greater) l i in
    let Q : List Pair → Type 0 = λ l. P l (start_of m b) in
    let splits' : P (remap_of m) (start_of m b) = subst Q is.remap (let R : ℕ → Type 0 = P placer.remap.items in subst R start splits) in
    ap sector start ∙ start-stays m b i below splits'

-- a block that is elsewhere adds its route
pub remap-more : (m : DefectMap) (b : ℕ) → is_moved (route_of m b) ≡ true → filter is_moved (routes m 0 (b + 1)) ≡ filter is_moved (routes m 0 b) ++ route_of m b ∷ []
remap-more m b elsewhere =
    filter_of_map_range_with_len_more is_moved (route_of m) 0 b b (omega arith) ∙ rw elsewhere refl

-- another one adds none
pub remap-same : (m : DefectMap) (b : ℕ) → is_moved (route_of m b) ≡ false → filter is_moved (routes m 0 (b + 1)) ≡ filter is_moved (routes m 0 b)
remap-same m b here =
    filter_of_map_range_with_len_more is_moved (route_of m) 0 b b (omega arith) ∙ rw here (append-nil (filter is_moved (routes m 0 b)))

-- there is room for it
pub remap-room : (m : DefectMap) (b : ℕ) → IsValidMap m → b < capacity_of m.size → is_moved (route_of m b) ≡ true → length (filter is_moved (routes m 0 b)) < PAIRS_MAX
remap-room m b valid below elsewhere =
    omega (arith, moved-few m (b + 1) valid (omega arith), ap length (remap-more m b elsewhere), length-append (filter is_moved (routes m 0 b)) (route_of m b ∷ []), valid.grown.few)
