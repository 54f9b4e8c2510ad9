-- What one more pair does to the routes of a map.
use Rattle.std.proofs.Common.{◌≡◌, ◌≢◌, ℕ, ◌+◌, ◌<◌, ◌≤◌, zero, suc, true, false, not, List, [], ◌∷◌, ◌++◌, length, get_or, refl, sym, ◌∙◌, ap, ap₂, subst, inl, inr, arith, length-append}
use Rattle.std.specs.Prelude.{◌==◌, filter, map, insert}
use Rattle.std.specs.List.{list_any}
use Rattle.std.specs.List.Sorted.{IsPartitionPoint}
use Rattle.std.specs.Ordering.{nat_cmp}
use Rattle.std.specs.declared.cmp.Ordering.TheVariants.{Less, Equal, Greater}
use Rattle.std.proofs.lemmas.List.{get_or_at}
use Rattle.std.proofs.lemmas.List.Elements.{filter_passes}
use Rattle.std.proofs.lemmas.List.Folds.{Any-from_list_any}
use Rattle.std.proofs.lemmas.List.Sums.{fold-append}
use Rattle.std.proofs.lemmas.Bool.Decides.{leb_tells, eqb_tells}
use Rattle.disk_base.specs.declared.address.Psn.{Psn}
use Rattle.disk_base.specs.declared.address.Lba.{Lba}
use Rattle.geometry_map.specs.declared.limits.TheConstants.{PAIRS_MAX}
use Rattle.geometry_map.specs.declared.pair.Pair.{Pair}
use Rattle.geometry_map.specs.Size.{capacity_of}
use Rattle.geometry_map.specs.DefectMap.{DefectMap, sector, moved, place_of, slip_place, with_pairs, IsPair, IsGrownList, IsValidMap}
use Rattle.geometry_map.specs.Placer.{route_of, is_moved, remap_of, followed, IsStart}
use Rattle.geometry_map.proofs.SpareLemmas.{answer_of, is_spare_of}
use Rattle.geometry_map.proofs.PairLemmas.{moved-at, moved-off}
use Rattle.geometry_map.proofs.OwnSpares.{eqb_true, eqb_same, true_false}
use Rattle.geometry_map.proofs.Places.{start-below_spare, blocks_have_own_sectors}
use Rattle.geometry_map.proofs.ChainLemmas.{one_sector}
use Rattle.geometry_map.proofs.RemapLemmas.{start_of, routes, Rises, Rises-filter, routes-rise, start-rises, start-stays, not_moved, moved-few, remap-routes, route-leads}
use Rattle.geometry_map.proofs.Halving.{nat_cmp-Equal}

-- a map with one more pair
abbrev pub one_more : DefectMap → Pair → DefectMap
one_more m pair = with_pairs m (pair ∷ [])

-- block b by its number
abbrev pub block : ℕ → Lba
block b = record { 0 = b }

-- the route from a sector to another
abbrev pub route : Psn → Psn → Pair
route old new = record { old = old; new = new }

-- the pair takes a block on from where it was
pub route-followed : (m : DefectMap) (pair : Pair) (b : ℕ) → route_of (one_more m pair) b ≡ followed pair (route_of m b)
route-followed m pair b =
    ap (route (slip_place m.size m.primary (block b))) (fold-append moved (slip_place m.size m.primary (block b)) m.grown (pair ∷ []))

-- the pair is one that a list may have
pub last-is_pair : (m : DefectMap) (pair : Pair) → IsGrownList m.size m.primary (m.grown ++ pair ∷ []) → IsPair m.size m.primary pair
last-is_pair m pair fits =
    let P : Pair → Type 0 = IsPair m.size m.primary in
    let last : get_or (m.grown ++ pair ∷ []) (length m.grown) pair ≡ pair = get_or_at m.grown pair [] pair (length m.grown) refl in
    subst P last (fits.pairs (length m.grown) pair (omega (arith, length-append m.grown (pair ∷ []))))

pub one_more-valid : (m : DefectMap) (pair : Pair) → IsValidMap m → IsGrownList m.size m.primary (m.grown ++ pair ∷ []) → IsValidMap (one_more m pair)
one_more-valid m pair valid fits = record { primary = valid.primary; grown = fits }

-- a block that is at a spare is elsewhere than it starts
spare-elsewhere : (m : DefectMap) (b : ℕ) (p : Psn) → IsValidMap m → b < capacity_of m.size → is_spare_of m.size m.primary p.0 ≡ true → is_moved (route (slip_place m.size m.primary (block b)) p) ≡ true
spare-elsewhere m b p valid below spare =
    let up : (slip_place m.size m.primary (block b)).0 < p.0 = start-below_spare m (block b) p.0 valid below spare in
    elim (eqb_tells (slip_place m.size m.primary (block b)).0 p.0) [ inl w ↦ absurd (omega arith) | inr w ↦ ap not w.0 ]

-- where the block at the pair's old was elsewhere before, the pair moves no block from its start
abbrev pub IsElsewhere : DefectMap → ℕ → Type 0
IsElsewhere m p = (b : ℕ) → b < capacity_of m.size → (place_of m (block b)).0 ≡ p → is_moved (route_of m b) ≡ true

keeps-moved : (m : DefectMap) (pair : Pair) (b : ℕ) → IsValidMap m → is_spare_of m.size m.primary pair.new.0 ≡ true → IsElsewhere m pair.old.0 → b < capacity_of m.size
    → is_moved (followed pair (route_of m b)) ≡ is_moved (route_of m b)
keeps-moved m pair b valid spare elsewhere below =
    let start : Psn = slip_place m.size m.primary (block b) in
    elim (eqb_tells (place_of m (block b)).0 pair.old.0) [
      | inl w ↦ ap (λ (p : Psn). is_moved (route start p)) (moved-at (place_of m (block b)) pair w.0) ∙ spare-elsewhere m b pair.new valid below spare ∙ sym (elsewhere b below w.1)
      | inr w ↦ ap (λ (p : Psn). is_moved (route start p)) (moved-off (place_of m (block b)) pair w.0)
    ]

routes-followed : (n a : ℕ) (m : DefectMap) (pair : Pair) → ((b : ℕ) → a ≤ b → b < a + n → is_moved (followed pair (route_of m b)) ≡ is_moved (route_of m b))
    → filter is_moved (routes (one_more m pair) a n) ≡ map (followed pair) (filter is_moved (routes m a n))
routes-followed zero a m pair same = refl
routes-followed (suc n) a m pair same =
    let rest : filter is_moved (routes (one_more m pair) (a + 1) n) ≡ map (followed pair) (filter is_moved (routes m (a + 1) n)) = routes-followed n (a + 1) m pair (λ b from to. same b (omega arith) (omega arith)) in
    let here : is_moved (route_of (one_more m pair) a) ≡ is_moved (route_of m a) = ap is_moved (route-followed m pair a) ∙ same a (omega arith) (omega arith) in
    elim (answer_of (is_moved (route_of m a))) [
      | inl w ↦ (let now : is_moved (route_of (one_more m pair) a) ≡ true = here ∙ w in rw (now, w) (ap₂ (λ (x : Pair) (xs : List Pair). x ∷ xs) (route-followed m pair a) rest))
      | inr w ↦ (let now : is_moved (route_of (one_more m pair) a) ≡ false = here ∙ w in rw (now, w) rest)
    ]

-- then the routes are those that were, gone on
pub remap-followed : (m : DefectMap) (pair : Pair) → IsValidMap m → IsGrownList m.size m.primary (m.grown ++ pair ∷ []) → IsElsewhere m pair.old.0
    → remap_of (one_more m pair) ≡ map (followed pair) (remap_of m)
remap-followed m pair valid fits elsewhere =
    routes-followed (capacity_of m.size) 0 m pair (λ b from to. keeps-moved m pair b valid (last-is_pair m pair fits).new elsewhere (omega arith))

-- it is so where a route ends there
pub ends-elsewhere : (m : DefectMap) (p : ℕ) → IsValidMap m → list_any (λ x. x.new.0 == p) (remap_of m) ≡ true → IsElsewhere m p
ends-elsewhere m p valid found b below at =
    let some = Any-from_list_any (λ (x : Pair). x.new.0 == p) (remap_of m) found in
    let is = remap-routes m some.0 some.1 some.2 in
    let passes : is_moved (get_or (remap_of m) some.0 some.1) ≡ true = filter_passes is_moved (routes m 0 (capacity_of m.size)) some.0 some.1 some.2 in
    let end : (get_or (remap_of m) some.0 some.1).new.0 ≡ p = ap (λ (x : Pair). x.new.0) some.3 ∙ eqb_true some.1.new.0 p some.4 in
    let place : (place_of m (block is.0)).0 ≡ p = ap (λ (x : Pair). x.new.0) (sym is.2) ∙ end in
    let one : block is.0 ≡ block b = blocks_have_own_sectors m valid (block is.0) (block b) is.1 below (one_sector (place_of m (block is.0)) (place_of m (block b)) (place ∙ sym at)) in
    ap is_moved (ap (λ (l : Lba). route_of m l.0) (sym one) ∙ sym is.2) ∙ passes

-- and where no block starts there
pub no-start-elsewhere : (m : DefectMap) (p : Psn) → (IsStart m p → ⊥) → IsElsewhere m p.0
no-start-elsewhere m p none b below at =
    elim (answer_of (is_moved (route_of m b))) [
      | inl w ↦ w
      | inr w ↦ absurd (none (block b, below, one_sector (slip_place m.size m.primary (block b)) p (not_moved (start_of m b) (route_of m b).new.0 w ∙ at)))
    ]

-- and where a route begins there
pub begins-elsewhere : (m : DefectMap) (p i : ℕ) (d : Pair) → IsValidMap m → i < length (remap_of m) → nat_cmp (get_or (remap_of m) i d).old.0 p ≡ Equal → IsElsewhere m p
begins-elsewhere m p i d valid within equal b below at =
    elim (answer_of (is_moved (route_of m b))) [
      | inl w ↦ w
      | inr w ↦ (
          let start : start_of m b ≡ p = not_moved (start_of m b) (route_of m b).new.0 w ∙ at in
          let old : (get_or (remap_of m) i d).old.0 ≡ p = nat_cmp-Equal (get_or (remap_of m) i d).old.0 p equal in
          let leads : (get_or (remap_of m) i d).new ≡ place_of m (block b) = route-leads m b (get_or (remap_of m) i d) valid below (remap-routes m i d within) (old ∙ sym start) in
          let new : (get_or (remap_of m) i d).new.0 ≡ p = ap (λ (q : Psn). q.0) leads ∙ at in
          let passes : is_moved (get_or (remap_of m) i d) ≡ true = filter_passes is_moved (routes m 0 (capacity_of m.size)) i d within in
          absurd (true_false (sym passes ∙ ap not (eqb_same (get_or (remap_of m) i d).old.0 (get_or (remap_of m) i d).new.0 (old ∙ sym new)))))
    ]

-- a route that ends at the pair's old goes on to its new
pub followed-at : (pair x : Pair) → x.new.0 ≡ pair.old.0 → followed pair x ≡ record x { new = pair.new }
followed-at pair x at = ap (route x.old) (moved-at x.new pair (eqb_same x.new.0 pair.old.0 at))

-- and each other one stays
pub followed-off : (pair x : Pair) → x.new.0 ≢ pair.old.0 → followed pair x ≡ x
followed-off pair x off =
    elim (eqb_tells x.new.0 pair.old.0) [ inl w ↦ absurd (off w.1) | inr w ↦ ap (route x.old) (moved-off x.new pair w.0) ]

-- where no route ends at the pair's old, none goes on
pub none-followed : (pair : Pair) (xs : List Pair) → list_any (λ x. x.new.0 == pair.old.0) xs ≡ false → map (followed pair) xs ≡ xs
none-followed pair [] none = refl
none-followed pair (x ∷ xs) none =
    elim (eqb_tells x.new.0 pair.old.0) [
      | inl w ↦ absurd (true_false (rw w.0 at none))
      | inr w ↦ ap₂ (λ (p : Psn) (l : List Pair). route x.old p ∷ l) (moved-off x.new pair w.0) (none-followed pair xs (rw w.0 at none))
    ]

-- so that all routes are as they were
pub remap-kept : (m : DefectMap) (pair : Pair) → IsValidMap m → IsGrownList m.size m.primary (m.grown ++ pair ∷ []) → IsElsewhere m pair.old.0
    → list_any (λ x. x.new.0 == pair.old.0) (remap_of m) ≡ false → remap_of (one_more m pair) ≡ remap_of m
remap-kept m pair valid fits elsewhere none = remap-followed m pair valid fits elsewhere ∙ none-followed pair (remap_of m) none

nat_cmp-Less : (x y : ℕ) → nat_cmp x y ≡ Less → x < y
nat_cmp-Less x y e =
    elim (leb_tells (suc x) y) [
      | inl w ↦ w.1
      | inr w ↦ elim (eqb_tells x y) [
        | inl v ↦ absurd (let no : Equal ≡ Less = rw (w.0, v.0) at e in cc)
        | inr v ↦ absurd (let no : Greater ≡ Less = rw (w.0, v.0) at e in cc)
      ]
    ]

nat_cmp-Greater : (x y : ℕ) → nat_cmp x y ≡ Greater → y < x
nat_cmp-Greater x y e =
    elim (leb_tells (suc x) y) [
      | inl w ↦ absurd (let no : Less ≡ Greater = rw w.0 at e in cc)
      | inr w ↦ elim (eqb_tells x y) [
        | inl v ↦ absurd (let no : Equal ≡ Greater = rw (w.0, v.0) at e in cc)
        | inr v ↦ omega (arith, w.1, v.1)
      ]
    ]

-- the routes before place i begin below a sector, and the others above it
abbrev pub SplitsRoutes : ℕ → List Pair → ℕ → Type 0
SplitsRoutes p xs i = IsPartitionPoint (λ x. nat_cmp x.old.0 p ≡ Less) (λ x. nat_cmp x.old.0 p ≡ Greater) xs i

-- routes that all begin above it are split at 0
splits-above : (p low i : ℕ) (xs : List Pair) → Rises low xs → p < low → i ≤ length xs → SplitsRoutes p xs i → i ≡ 0
splits-above p low i [] up less most splits = omega arith
splits-above p low zero (x ∷ xs) up less most splits = refl
splits-above p low (suc i) (x ∷ xs) up less most splits =
    absurd (let below : x.old.0 < p = nat_cmp-Less x.old.0 p (splits.0 0 x (omega arith) (omega arith)) in omega arith)

-- block b is where it starts, at the pair's old, so that the pair is its route, and all other routes are as they were
pub record Begins (m : DefectMap) (pair : Pair) (b : ℕ) : Type 0 where
  pub start : start_of m b ≡ pair.old.0
  pub here : is_moved (route_of m b) ≡ false
  pub route : route_of (one_more m pair) b ≡ pair
  pub elsewhere : is_moved pair ≡ true
  pub others : (c : ℕ) → c < capacity_of m.size → c ≢ b → route_of (one_more m pair) c ≡ route_of m c

routes-kept : (n a : ℕ) (m : DefectMap) (pair : Pair) → ((c : ℕ) → a ≤ c → c < a + n → route_of (one_more m pair) c ≡ route_of m c) → routes (one_more m pair) a n ≡ routes m a n
routes-kept zero a m pair same = refl
routes-kept (suc n) a m pair same =
    ap₂ (λ (x : Pair) (xs : List Pair). x ∷ xs) (same a (omega arith) (omega arith)) (routes-kept n (a + 1) m pair (λ c from to. same c (omega arith) (omega arith)))

-- the pair goes among the routes of a range of blocks where they are split at its old
abbrev pub TakesIn : DefectMap → Pair → ℕ → ℕ → List Pair → Type 0
TakesIn m pair a n xs = (i : ℕ) → i ≤ length xs → SplitsRoutes pair.old.0 xs i → filter is_moved (routes (one_more m pair) a n) ≡ insert xs i pair

-- it stands first, where the range begins with its block
takes-first : (n a : ℕ) (m : DefectMap) (pair : Pair) → IsValidMap m → a + suc n ≤ capacity_of m.size → Begins m pair a → TakesIn m pair a (suc n) (filter is_moved (routes m (a + 1) n))
takes-first n a m pair valid within is i most splits =
    let R : List Pair = filter is_moved (routes m (a + 1) n) in
    let up : Rises (start_of m a + 1) (routes m (a + 1) n) = routes-rise n (a + 1) (start_of m a + 1) m valid (omega arith) (λ some. let rises : start_of m a < start_of m (a + 1) = start-rises m a (a + 1) valid (omega arith) (omega arith) in omega arith) in
    let up' : Rises (start_of m a + 1) (filter is_moved (routes m (a + 1) n)) = Rises-filter is_moved (start_of m a + 1) (routes m (a + 1) n) up in
    let first : i ≡ 0 = splits-above pair.old.0 (start_of m a + 1) i R up' (omega (arith, is.start)) most splits in
    let kept : routes (one_more m pair) (a + 1) n ≡ routes m (a + 1) n = routes-kept n (a + 1) m pair (λ c from to. is.others c (omega arith) (omega arith)) in
    let now : is_moved (route_of (one_more m pair) a) ≡ true = ap is_moved is.route ∙ is.elsewhere in
    let taken : filter is_moved (routes (one_more m pair) a (suc n)) ≡ pair ∷ R = rw now (ap₂ (λ (x : Pair) (xs : List Pair). x ∷ filter is_moved xs) is.route kept) in
    taken ∙ ap (λ (k : ℕ). insert R k pair) (sym first)

-- behind a route of an earlier block it goes among the rest
takes-later : (n a b : ℕ) (m : DefectMap) (pair : Pair) → IsValidMap m → a + suc n ≤ capacity_of m.size → Begins m pair b → a ≢ b → a ≤ b → b < a + suc n
    → is_moved (route_of (one_more m pair) a) ≡ true → route_of (one_more m pair) a ≡ route_of m a
    → TakesIn m pair (a + 1) n (filter is_moved (routes m (a + 1) n)) → TakesIn m pair a (suc n) (route_of m a ∷ filter is_moved (routes m (a + 1) n))
takes-later n a b m pair valid within is other from to now same rest zero most splits =
    let above : pair.old.0 < start_of m a = nat_cmp-Greater (start_of m a) pair.old.0 (splits.1 0 (route_of m a) (omega arith) (omega arith)) in
    absurd (let rises : start_of m a < start_of m b = start-rises m a b valid (omega (arith, other)) (omega arith) in omega (arith, is.start))
takes-later n a b m pair valid within is other from to now same rest (suc i) most splits =
    let splits' : SplitsRoutes pair.old.0 (filter is_moved (routes m (a + 1) n)) i = ((λ j d low before. splits.0 (suc j) d (omega arith) (omega arith)), (λ j d low before. splits.1 (suc j) d (omega arith) (omega arith))) in
    rw now (ap₂ (λ (x : Pair) (xs : List Pair). x ∷ xs) same (rest i (omega arith) splits'))

takes-in : (n a b : ℕ) (m : DefectMap) (pair : Pair) → IsValidMap m → a + n ≤ capacity_of m.size → Begins m pair b → a ≤ b → b < a + n → TakesIn m pair a n (filter is_moved (routes m a n))
takes-in zero a b m pair valid within is from to = absurd (omega arith)
takes-in (suc n) a b m pair valid within is from to =
    let P : List Pair → Type 0 = TakesIn m pair a (suc n) in
    let R : List Pair = filter is_moved (routes m (a + 1) n) in
    elim (eqb_tells a b) [
      | inl w ↦ (
          let B : ℕ → Type 0 = Begins m pair in
          let is' : Begins m pair a = subst B (sym w.1) is in
          let none : filter is_moved (routes m (a + 1) n) ≡ filter is_moved (routes m a (suc n)) = (let here : is_moved (route_of m a) ≡ false = is'.here in rw here refl) in
          subst P none (takes-first n a m pair valid within is'))
      | inr w ↦ (
          let rest : TakesIn m pair (a + 1) n (filter is_moved (routes m (a + 1) n)) = takes-in n (a + 1) b m pair valid (omega arith) is (omega (arith, w.1)) (omega arith) in
          let same : route_of (one_more m pair) a ≡ route_of m a = is.others a (omega arith) w.1 in
          elim (answer_of (is_moved (route_of m a))) [
            | inl v ↦ (
                let now : is_moved (route_of (one_more m pair) a) ≡ true = ap is_moved same ∙ v in
                let one : route_of m a ∷ filter is_moved (routes m (a + 1) n) ≡ filter is_moved (routes m a (suc n)) = rw v refl in
                subst P one (takes-later n a b m pair valid within is w.1 from to now same rest))
            | inr v ↦ (
                let now : is_moved (route_of (one_more m pair) a) ≡ false = ap is_moved same ∙ v in
                let none : filter is_moved (routes m (a + 1) n) ≡ filter is_moved (routes m a (suc n)) = rw v refl in
                subst P none (λ i most splits. rw now (rest i most splits)))
          ])
    ]

-- a block that is where it starts begins a route by a pair from there
pub begins : (m : DefectMap) (pair : Pair) (b : ℕ) → IsValidMap m → IsGrownList m.size m.primary (m.grown ++ pair ∷ []) → b < capacity_of m.size
    → slip_place m.size m.primary (block b) ≡ pair.old → place_of m (block b) ≡ slip_place m.size m.primary (block b) → Begins m pair b
begins m pair b valid fits below start stays =
    let at : place_of m (block b) ≡ pair.old = stays ∙ start in
    let number : (place_of m (block b)).0 ≡ pair.old.0 = ap (λ (p : Psn). p.0) at in
    let on : moved (place_of m (block b)) pair ≡ pair.new = moved-at (place_of m (block b)) pair (eqb_same (place_of m (block b)).0 pair.old.0 number) in
    let led : route_of (one_more m pair) b ≡ pair = route-followed m pair b ∙ ap₂ route start on in
    let spare : is_moved (route (slip_place m.size m.primary (block b)) pair.new) ≡ true = spare-elsewhere m b pair.new valid below (last-is_pair m pair fits).new in
    record {
      start = ap (λ (p : Psn). p.0) start;
      here = ap not (eqb_same (start_of m b) (route_of m b).new.0 (ap (λ (p : Psn). p.0) (sym stays)));
      route = led;
      elsewhere = ap (λ (p : Psn). is_moved (route p pair.new)) (sym start) ∙ spare;
      others = λ c within other.
          route-followed m pair c
          ∙ (let off : ((place_of m (block c)).0 == pair.old.0) ≡ false = elim (eqb_tells (place_of m (block c)).0 pair.old.0) [
            | inl w ↦ absurd (let one : block c ≡ block b = blocks_have_own_sectors m valid (block c) (block b) within below (one_sector (place_of m (block c)) (place_of m (block b)) (w.1 ∙ sym number)) in other (ap (λ (l : Lba). l.0) one))
            | inr w ↦ w.0
          ] in
          ap (route (slip_place m.size m.primary (block c))) (moved-off (place_of m (block c)) pair off));
    }

-- where a block starts at the pair's old and no route begins there, the pair goes among the routes
pub remap-begun : (m : DefectMap) (pair : Pair) (i : ℕ) → IsValidMap m → IsGrownList m.size m.primary (m.grown ++ pair ∷ []) → IsStart m pair.old
    → i ≤ length (remap_of m) → SplitsRoutes pair.old.0 (remap_of m) i → remap_of (one_more m pair) ≡ insert (remap_of m) i pair
remap-begun m pair i valid fits is most splits =
    let start : start_of m is.0.0 ≡ pair.old.0 = ap (λ (p : Psn). p.0) is.2 in
    let S : ℕ → Type 0 = λ p. SplitsRoutes p (remap_of m) i in
    let stays : sector (start_of m is.0.0) ≡ place_of m is.0 = start-stays m is.0.0 i is.1 (subst S (sym start) splits) in
    let begun : Begins m pair is.0.0 = begins m pair is.0.0 valid fits is.1 is.2 (sym stays) in
    takes-in (capacity_of m.size) 0 is.0.0 m pair valid (omega arith) begun (omega arith) (omega (arith, is.1)) i most splits

-- there is room for one more route
pub remap-has_room : (m : DefectMap) (pair : Pair) → IsValidMap m → IsGrownList m.size m.primary (m.grown ++ pair ∷ []) → length (remap_of m) < PAIRS_MAX
remap-has_room m pair valid fits = omega (arith, moved-few m (capacity_of m.size) valid (omega arith), fits.few, length-append m.grown (pair ∷ []))
