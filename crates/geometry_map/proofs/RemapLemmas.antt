-- The routes of the blocks that are elsewhere: ascending, no more than there are pairs, and each found by its start.
use Rattle.std.proofs.Common.{◌≡◌, ℕ, ◌+◌, ◌<◌, ◌≤◌, zero, suc, Bool, true, false, not, ◌||◌, List, [], ◌∷◌, length, get_or, refl, sym, ◌∙◌, ap, subst, inl, inr, arith}
use Rattle.std.specs.Prelude.{◌==◌, filter, map, All}
use Rattle.std.specs.List.{list_any, range_with_len}
use Rattle.std.specs.List.Sorted.{IsPartitionPoint, IsNonDecreasingBy, IsSortedBy, IsStrictlyIncreasing}
use Rattle.std.specs.Ordering.{nat_cmp, is_lt, ordering_index}
use Rattle.std.specs.declared.cmp.Ordering.TheVariants.{Less, Equal, Greater}
use Rattle.std.proofs.lemmas.Cmp.{nat_cmp_total, tied_itself}
use Rattle.std.proofs.lemmas.List.Elements.{All-filter, All-map}
use Rattle.std.proofs.lemmas.List.Folds.{Any-from_list_any}
use Rattle.std.proofs.lemmas.List.FromFn.{get_or-range_with_len, length-range_with_len}
use Rattle.std.proofs.lemmas.List.Sorted.{searchable_from_sorted}
use Rattle.std.proofs.lemmas.Bool.Decides.{leb_tells, eqb_tells}
use Rattle.disk_base.specs.declared.address.Psn.{Psn}
use Rattle.geometry_map.specs.declared.pair.Pair.{Pair}
use Rattle.geometry_map.specs.Size.{capacity_of}
use Rattle.geometry_map.specs.DefectMap.{DefectMap, sector, through, place_of, slip_place, IsValidMap}
use Rattle.geometry_map.specs.Placer.{route_of, is_moved, remap_of, RoutesAscend}
use Rattle.geometry_map.proofs.SlipLemmas.{slipped-rises}
use Rattle.geometry_map.proofs.SpareLemmas.{answer_of}
use Rattle.geometry_map.proofs.OwnSpares.{eqb_true, eqb_same, true_false}
use Rattle.geometry_map.proofs.Places.{start-slipped}

-- the number of the sector where block b starts
abbrev pub start_of : DefectMap → ℕ → ℕ
start_of m b = (route_of m b).old.0

-- later blocks start later
pub start-rises : (m : DefectMap) (a b : ℕ) → IsValidMap m → a < b → b < capacity_of m.size → start_of m a < start_of m b
start-rises m a b valid less below =
    omega (arith, start-slipped m (record { 0 = a }) valid (omega arith), start-slipped m (record { 0 = b }) valid below, slipped-rises (16 + a) (16 + b) m.primary (omega arith))

-- pairs from `low` on, strictly ascending by old
abbrev pub Rises : ℕ → List Pair → Type 0
Rises low [] = Unit {0}
Rises low (x ∷ xs) = (low ≤ x.old.0) × Rises (x.old.0 + 1) xs

-- a lower bound may be given up for a lower one
pub Rises-from : (low more : ℕ) (xs : List Pair) → low ≤ more → Rises more xs → Rises low xs
Rises-from low more [] less up = tt
Rises-from low more (x ∷ xs) less up = (omega arith, up.1)

-- what is kept of them ascends
pub Rises-filter : (p : Pair → Bool) (low : ℕ) (xs : List Pair) → Rises low xs → Rises low (filter p xs)
Rises-filter p low [] up = tt
Rises-filter p low (x ∷ xs) up =
    let rest : Rises (x.old.0 + 1) (filter p xs) = Rises-filter p (x.old.0 + 1) xs up.1 in
    elim (answer_of (p x)) [ inl w ↦ rw w (up.0, rest) | inr w ↦ rw w (Rises-from low (x.old.0 + 1) (filter p xs) (omega arith) rest) ]

-- the routes of n blocks from a on
abbrev pub routes : DefectMap → ℕ → ℕ → List Pair
routes m a n = map (route_of m) (range_with_len a n)

pub routes-rise : (n a low : ℕ) (m : DefectMap) → IsValidMap m → a + n ≤ capacity_of m.size → (0 < n → low ≤ start_of m a) → Rises low (routes m a n)
routes-rise zero a low m valid within from = tt
routes-rise (suc n) a low m valid within from =
    (from (omega arith), routes-rise n (a + 1) (start_of m a + 1) m valid (omega arith) (λ some. let up : start_of m a < start_of m (a + 1) = start-rises m a (a + 1) valid (omega arith) (omega arith) in omega arith))

-- neighbours ascend
pub Rises-adjacent : (k low : ℕ) (xs : List Pair) (d : Pair) → Rises low xs → k + 1 < length xs → (get_or xs k d).old.0 < (get_or xs (k + 1) d).old.0
Rises-adjacent k low [] d up within = absurd (omega arith)
Rises-adjacent k low (x ∷ []) d up within = absurd (omega arith)
Rises-adjacent zero low (x ∷ y ∷ ys) d up within = omega arith
Rises-adjacent (suc k) low (x ∷ y ∷ ys) d up within =
    let Less : ℕ → Type 0 = λ j. (get_or (y ∷ ys) k d).old.0 < (get_or (x ∷ y ∷ ys) j d).old.0 in
    let e : suc (k + 1) ≡ suc k + 1 = omega arith in
    let less : (get_or (y ∷ ys) k d).old.0 < (get_or (y ∷ ys) (k + 1) d).old.0 = Rises-adjacent k (x.old.0 + 1) (y ∷ ys) d up.1 (omega arith) in
    subst Less e less

-- a larger number is not less
not_less : (x y : ℕ) → x ≤ y → is_lt (nat_cmp y x) ≡ false
not_less x y up =
    elim (leb_tells (suc y) x) [ inl w ↦ absurd (omega arith) | inr w ↦ elim (eqb_tells y x) [ inl v ↦ rw (w.0, v.0) refl | inr v ↦ rw (w.0, v.0) refl ] ]

-- so they can be halved at any old
pub Rises-searchable : (low s : ℕ) (xs : List Pair) → Rises low xs → IsNonDecreasingBy (λ x. ordering_index (nat_cmp x.old.0 s)) xs
Rises-searchable low s xs up =
    let key : Pair → ℕ = λ x. x.old.0 in
    let sorted : IsSortedBy (λ (x y : Pair). is_lt (nat_cmp x.old.0 y.old.0)) xs = λ k d from within. not_less (get_or xs k d).old.0 (get_or xs (k + 1) d).old.0 (let less : (get_or xs k d).old.0 < (get_or xs (k + 1) d).old.0 = Rises-adjacent k low xs d up within in omega arith) in
    searchable_from_sorted nat_cmp_total key xs s sorted

-- none of them is at a number below
none_below : (v low : ℕ) (xs : List Pair) → Rises low xs → v < low → length (filter (λ x. x.old.0 == v) xs) ≡ 0
none_below v low [] up less = refl
none_below v low (x ∷ xs) up less =
    elim (eqb_tells x.old.0 v) [ inl w ↦ absurd (omega arith) | inr w ↦ rw w.0 (none_below v (x.old.0 + 1) xs up.1 (omega arith)) ]

-- and one at most at any
once : (v low : ℕ) (xs : List Pair) → Rises low xs → length (filter (λ x. x.old.0 == v) xs) ≤ 1
once v low [] up = omega arith
once v low (x ∷ xs) up =
    elim (eqb_tells x.old.0 v) [
      | inl w ↦ rw w.0 (let none : length (filter (λ y. y.old.0 == v) xs) ≡ 0 = none_below v (x.old.0 + 1) xs up.1 (omega arith) in omega arith)
      | inr w ↦ rw w.0 (once v (x.old.0 + 1) xs up.1)
    ]

-- whether a sector is old of one of the pairs
abbrev touches : List Pair → ℕ → Bool
touches pairs p = list_any (λ pair. pair.old.0 == p) pairs

-- two tests together keep no more than each keeps for itself
either : (p q : Pair → Bool) (xs : List Pair) → length (filter (λ x. p x || q x) xs) ≤ length (filter p xs) + length (filter q xs)
either p q [] = omega arith
either p q (x ∷ xs) =
    let rest : length (filter (λ y. p y || q y) xs) ≤ length (filter p xs) + length (filter q xs) = either p q xs in
    elim (answer_of (p x)) [
      | inl w ↦ elim (answer_of (q x)) [ inl v ↦ rw (w, v) (omega arith) | inr v ↦ rw (w, v) (omega arith) ]
      | inr w ↦ elim (answer_of (q x)) [ inl v ↦ rw (w, v) (omega arith) | inr v ↦ rw (w, v) (omega arith) ]
    ]

-- a number is what another is, either way round
same_test : (x y : ℕ) → (x == y) ≡ (y == x)
same_test x y = elim (eqb_tells x y) [ inl w ↦ w.0 ∙ sym (eqb_same y x (sym w.1)) | inr w ↦ elim (eqb_tells y x) [ inl v ↦ absurd (w.1 (sym v.1)) | inr v ↦ w.0 ∙ sym v.0 ] ]

none_kept : (xs : List Pair) → length (filter (λ x. false) xs) ≡ 0
none_kept [] = refl
none_kept (x ∷ xs) = none_kept xs

-- as many of them as there are pairs may be touched
touched-few : (pairs : List Pair) (low : ℕ) (xs : List Pair) → Rises low xs → length (filter (λ x. touches pairs x.old.0) xs) ≤ length pairs
touched-few [] low xs up = omega (arith, none_kept xs)
touched-few (pair ∷ pairs) low xs up =
    let swapped : (λ (x : Pair). pair.old.0 == x.old.0) ≡ (λ (x : Pair). x.old.0 == pair.old.0) = λ i x. same_test pair.old.0 x.old.0 i in
    let one : length (filter (λ x. x.old.0 == pair.old.0) xs) ≤ 1 = once pair.old.0 low xs up in
    let one' : length (filter (λ x. pair.old.0 == x.old.0) xs) ≤ 1 = (let P : (Pair → Bool) → Type 0 = λ p. length (filter p xs) ≤ 1 in subst P (sym swapped) one) in
    let rest : length (filter (λ x. touches pairs x.old.0) xs) ≤ length pairs = touched-few pairs low xs up in
    omega (arith, either (λ x. pair.old.0 == x.old.0) (λ x. touches pairs x.old.0) xs)

-- what no pair touches stays
through-still : (pairs : List Pair) (at : Psn) → touches pairs at.0 ≡ false → through pairs at ≡ at
through-still [] at none = refl
through-still (pair ∷ pairs) at none =
    elim (eqb_tells pair.old.0 at.0) [
      | inl w ↦ absurd (true_false (rw w.0 at none))
      | inr w ↦ (
          let off : (at.0 == pair.old.0) ≡ false = same_test at.0 pair.old.0 ∙ w.0 in
          rw off (through-still pairs at (rw w.0 at none)))
    ]

-- the blocks that are elsewhere start at sectors that a pair touches
moved-touched : (m : DefectMap) (b : ℕ) → is_moved (route_of m b) ≡ true → touches m.grown (start_of m b) ≡ true
moved-touched m b elsewhere =
    elim (answer_of (touches m.grown (start_of m b))) [
      | inl w ↦ w
      | inr w ↦ (
          let stays : place_of m (record { 0 = b }) ≡ slip_place m.size m.primary (record { 0 = b }) = through-still m.grown (slip_place m.size m.primary (record { 0 = b })) w in
          let same : start_of m b ≡ (route_of m b).new.0 = ap (λ (p : Psn). p.0) (sym stays) in
          absurd (true_false (sym elsewhere ∙ ap not (eqb_same (start_of m b) (route_of m b).new.0 same))))
    ]

moved-fewer : (n a : ℕ) (m : DefectMap) → length (filter is_moved (routes m a n)) ≤ length (filter (λ x. touches m.grown x.old.0) (routes m a n))
moved-fewer zero a m = omega arith
moved-fewer (suc n) a m =
    let rest : length (filter is_moved (routes m (a + 1) n)) ≤ length (filter (λ x. touches m.grown x.old.0) (routes m (a + 1) n)) = moved-fewer n (a + 1) m in
    elim (answer_of (is_moved (route_of m a))) [
      | inl w ↦ rw (w, moved-touched m a w) (omega arith)
      | inr w ↦ elim (answer_of (touches m.grown (start_of m a))) [ inl v ↦ rw (w, v) (omega arith) | inr v ↦ rw (w, v) rest ]
    ]

-- no more blocks are elsewhere than there are pairs
pub moved-few : (m : DefectMap) (n : ℕ) → IsValidMap m → n ≤ capacity_of m.size → length (filter is_moved (routes m 0 n)) ≤ length m.grown
moved-few m n valid within =
    let few : length (filter (λ x. touches m.grown x.old.0) (routes m 0 n)) ≤ length m.grown = touched-few m.grown 0 (routes m 0 n) (routes-rise n 0 0 m valid (omega arith) (λ some. omega arith)) in
    omega (arith, moved-fewer n 0 m)

-- the route of a block that is elsewhere is found by its start
pub route-found : (n a b : ℕ) (m : DefectMap) → a ≤ b → b < a + n → is_moved (route_of m b) ≡ true
    → list_any (λ x. x.old.0 == start_of m b) (filter is_moved (routes m a n)) ≡ true
route-found zero a b m from to elsewhere = absurd (omega arith)
route-found (suc n) a b m from to elsewhere =
    elim (eqb_tells a b) [
      | inl w ↦ (
          let here : is_moved (route_of m a) ≡ true = (let P : ℕ → Type 0 = λ c. is_moved (route_of m c) ≡ true in subst P (sym w.1) elsewhere) in
          let same : (start_of m a == start_of m b) ≡ true = eqb_same (start_of m a) (start_of m b) (ap (start_of m) w.1) in
          rw (here, same) refl)
      | inr w ↦ (
          let later : list_any (λ x. x.old.0 == start_of m b) (filter is_moved (routes m (a + 1) n)) ≡ true = route-found n (a + 1) b m (omega (arith, w.1)) (omega arith) elsewhere in
          elim (answer_of (is_moved (route_of m a))) [
            | inl v ↦ elim (answer_of (start_of m a == start_of m b)) [ inl u ↦ rw (v, u) refl | inr u ↦ rw (v, u) later ]
            | inr v ↦ rw v later
          ])
    ]

-- each is the route of a block
abbrev pub IsRouteOf : DefectMap → Pair → Type 0
IsRouteOf m x = (b : ℕ) × (b < capacity_of m.size) × (x ≡ route_of m b)

pub remap-routes : (m : DefectMap) → All (IsRouteOf m) (remap_of m)
remap-routes m =
    let each : All (λ b. IsRouteOf m (route_of m b)) (range_with_len 0 (capacity_of m.size)) =
    λ k d within.
    let in' : k < capacity_of m.size = omega (arith, length-range_with_len 0 (capacity_of m.size)) in
    let is : get_or (range_with_len 0 (capacity_of m.size)) k d ≡ 0 + k = get_or-range_with_len 0 (capacity_of m.size) k d in' in
    (get_or (range_with_len 0 (capacity_of m.size)) k d, omega arith, refl) in
    All-filter is_moved (IsRouteOf m) (routes m 0 (capacity_of m.size)) (All-map (IsRouteOf m) (route_of m) (range_with_len 0 (capacity_of m.size)) each)

pub remap-rises : (m : DefectMap) → IsValidMap m → Rises 0 (remap_of m)
remap-rises m valid = Rises-filter is_moved 0 (routes m 0 (capacity_of m.size)) (routes-rise (capacity_of m.size) 0 0 m valid (omega arith) (λ some. omega arith))

-- a route with a block's start leads to its place
pub route-leads : (m : DefectMap) (b : ℕ) (x : Pair) → IsValidMap m → b < capacity_of m.size → IsRouteOf m x → x.old.0 ≡ start_of m b → x.new ≡ place_of m (record { 0 = b })
route-leads m b x valid below is same =
    let other : start_of m is.0 ≡ start_of m b = ap (λ (y : Pair). y.old.0) (sym is.2) ∙ same in
    let block : is.0 ≡ b = elim (eqb_tells is.0 b) [
      | inl w ↦ w.1
      | inr w ↦ elim (leb_tells is.0 b) [
        | inl v ↦ absurd (let up : start_of m is.0 < start_of m b = start-rises m is.0 b valid (omega (arith, w.1)) below in omega arith)
        | inr v ↦ absurd (let up : start_of m b < start_of m is.0 = start-rises m b is.0 valid v.1 is.1 in omega arith)
      ]
    ] in
    ap (λ (y : Pair). y.new) is.2 ∙ ap (λ (c : ℕ). place_of m (record { 0 = c })) block

pub not_moved : (x y : ℕ) → not (x == y) ≡ false → x ≡ y
not_moved x y e = elim (eqb_tells x y) [ inl w ↦ w.1 | inr w ↦ absurd (true_false (ap not (sym w.0) ∙ e)) ]

-- where no route has a block's start, that is its place
pub start-stays : (m : DefectMap) (b i : ℕ) → b < capacity_of m.size → IsPartitionPoint (λ x. nat_cmp x.old.0 (start_of m b) ≡ Less) (λ x. nat_cmp x.old.0 (start_of m b) ≡ Greater) (remap_of m) i
    → sector (start_of m b) ≡ place_of m (record { 0 = b })
start-stays m b i below splits =
    elim (answer_of (is_moved (route_of m b))) [
      | inl w ↦ (
          let some = Any-from_list_any (λ (x : Pair). x.old.0 == start_of m b) (remap_of m) (route-found (capacity_of m.size) 0 b m (omega arith) (omega arith) w) in
          let at : some.1.old.0 ≡ start_of m b = eqb_true some.1.old.0 (start_of m b) some.4 in
          let read : (get_or (remap_of m) some.0 some.1).old.0 ≡ start_of m b = ap (λ (x : Pair). x.old.0) some.3 ∙ at in
          let equal : nat_cmp (get_or (remap_of m) some.0 some.1).old.0 (start_of m b) ≡ Equal = ap (λ (p : ℕ). nat_cmp p (start_of m b)) read ∙ tied_itself nat_cmp_total (start_of m b) in
          elim (leb_tells (suc some.0) i) [
            | inl v ↦ absurd (let less = splits.0 some.0 some.1 (omega arith) v.1 in let no : Less ≡ Equal = sym less ∙ equal in cc)
            | inr v ↦ absurd (let more = splits.1 some.0 some.1 (omega (arith, v.1)) some.2 in let no : Greater ≡ Equal = sym more ∙ equal in cc)
          ])
      | inr w ↦ (
          let same : start_of m b ≡ (place_of m (record { 0 = b })).0 = not_moved (start_of m b) (route_of m b).new.0 w in
          ap sector same)
    ]

-- their starts strictly increase
starts-increase : (low : ℕ) (xs : List Pair) → Rises low xs → IsStrictlyIncreasing (map (λ x. x.old.0) xs)
starts-increase low [] up k within = absurd (omega arith)
starts-increase low (x ∷ []) up k within = absurd (omega arith)
starts-increase low (x ∷ y ∷ ys) up zero within = omega arith
starts-increase low (x ∷ y ∷ ys) up (suc k) within =
    let Less : ℕ → Type 0 = λ j. get_or (map (λ z. z.old.0) (y ∷ ys)) k 0 < get_or (x.old.0 ∷ map (λ z. z.old.0) (y ∷ ys)) j 0 in
    let e : suc (k + 1) ≡ suc k + 1 = omega arith in
    subst Less e (starts-increase (x.old.0 + 1) (y ∷ ys) up.1 k (omega arith))

pub routes_ascend : RoutesAscend
routes_ascend m valid = starts-increase 0 (remap_of m) (remap-rises m valid)
