-- The laws of places and spares.
use Rattle.std.proofs.Common.{◌≡◌, ◌≢◌, ℕ, ◌+◌, ◌-◌, ◌<◌, ◌≤◌, suc, Bool, true, false, not, ◌&&◌, List, [], ◌∷◌, ◌++◌, length, refl, sym, ◌∙◌, ap, subst, inl, inr, arith, length-append}
use Rattle.std.specs.Prelude.{◌==◌, nat_lt, find, All, Option, Some, None}
use Rattle.std.specs.List.{list_any, range_with_len}
use Rattle.std.specs.Option.{option_map}
use Rattle.std.proofs.lemmas.Bool.Decides.{leb_tells, eqb_tells}
use Rattle.std.proofs.lemmas.List.Elements.{All-push, All-nil, All-cons, All-tail, All-head, All-weaker}
use Rattle.std.proofs.lemmas.List.Quantifiers.{all_pairs_push}
use Rattle.disk_base.specs.declared.address.Psn.{Psn}
use Rattle.disk_base.specs.declared.address.Lba.{Lba}
use Rattle.geometry_map.specs.declared.limits.TheConstants.{PAIRS_MAX}
use Rattle.geometry_map.specs.declared.size.Size.{Size}
use Rattle.geometry_map.specs.declared.pair.Pair.{Pair}
use Rattle.geometry_map.specs.Size.{total_of, capacity_of}
use Rattle.geometry_map.specs.Slips.{slipped}
use Rattle.geometry_map.specs.DefectMap.{DefectMap, sector, is_listed, is_in_a_pair, moved, through, place_of, slip_place, spares, next_spare_of, is_free, is_open, IsPrimaryList, IsPair, IsGrownList, IsValidMap, HaveOwnSpares}
use Rattle.geometry_map.specs.Chains.{IsNextSpare}
use Rattle.geometry_map.specs.Laws.{BlocksHaveOwnSectors, BlocksLieOnUserSectors, GivenSparesAreFree, GivenSparesMakePairs, GivenSparesAreNext, FreeSparesAreNoPlaces}
use Rattle.geometry_map.proofs.SlipLemmas.{slipped-low, slipped-rises}
use Rattle.geometry_map.proofs.SpareLemmas.{answer_of, slip_place-slipped, slipped-within, first_of, left_of, is_sound, is_spare_of, spare-kept, spares-kept, find-kept}
use Rattle.geometry_map.proofs.PairLemmas.{IsNewOfNone, through-apart, through-distinct, IsNewOfNone-from_All, HaveDifferentSpares-from_AllPairs}

-- where block b starts, as a sector
pub start-slipped : (m : DefectMap) (b : Lba) → IsValidMap m → b.0 < capacity_of m.size → (slip_place m.size m.primary b).0 ≡ slipped (16 + b.0) m.primary
start-slipped m b valid below = slip_place-slipped m.size m.primary b.0 valid.primary below

-- a spare is past every block's start
pub start-below_spare : (m : DefectMap) (b : Lba) (p : ℕ) → IsValidMap m → b.0 < capacity_of m.size → is_spare_of m.size m.primary p ≡ true → (slip_place m.size m.primary b).0 < p
start-below_spare m b p valid below spare =
    let is = spare-kept m.size m.primary p valid.primary spare in
    omega (arith, start-slipped m b valid below, slipped-rises (16 + b.0) (16 + capacity_of m.size) m.primary (omega arith), is.from)

-- a block's start is new of no pair
start-new_of_none : (m : DefectMap) (b : Lba) → IsValidMap m → b.0 < capacity_of m.size → IsNewOfNone (slip_place m.size m.primary b).0 m.grown
start-new_of_none m b valid below =
    let apart : (pair : Pair) → IsPair m.size m.primary pair → (slip_place m.size m.primary b).0 ≢ pair.new.0 =
    λ pair is same. let up : (slip_place m.size m.primary b).0 < pair.new.0 = start-below_spare m b pair.new.0 valid below is.new in omega arith in
    IsNewOfNone-from_All (slip_place m.size m.primary b).0 m.grown
    (All-weaker (IsPair m.size m.primary) (λ pair. (slip_place m.size m.primary b).0 ≢ pair.new.0) apart m.grown valid.grown.pairs)

-- different blocks start at different sectors, and pairs keep them apart
places-apart : (m : DefectMap) (a b : Lba) → IsValidMap m → a.0 < b.0 → b.0 < capacity_of m.size → (place_of m a).0 ≢ (place_of m b).0
places-apart m a b valid less below =
    let below' : a.0 < capacity_of m.size = omega arith in
    let apart : (slip_place m.size m.primary a).0 ≢ (slip_place m.size m.primary b).0 = omega (arith, start-slipped m a valid below', start-slipped m b valid below, slipped-rises (16 + a.0) (16 + b.0) m.primary (omega arith)) in
    through-distinct m.grown (slip_place m.size m.primary a) (slip_place m.size m.primary b) apart
    (start-new_of_none m a valid below') (start-new_of_none m b valid below)
    (HaveDifferentSpares-from_AllPairs m.grown valid.grown.own_spares)

pub blocks_have_own_sectors : BlocksHaveOwnSectors
blocks_have_own_sectors m valid a b in_a in_b same =
    let number : (place_of m a).0 ≡ (place_of m b).0 = ap (λ (p : Psn). p.0) same in
    let block : ℕ → Lba = λ n. record { 0 = n } in
    elim (eqb_tells a.0 b.0) [
      | inl w ↦ ap block w.1
      | inr w ↦ elim (leb_tells a.0 b.0) [
        | inl v ↦ absurd (places-apart m a b valid (omega (arith, w.1)) in_b number)
        | inr v ↦ absurd (places-apart m b a valid v.1 in_a (sym number))
      ]
    ]

-- pairs of user sectors keep a sector among them
through-within : (size : Size) (primary : List Psn) (pairs : List Pair) (at : Psn) → IsPrimaryList size primary → All (IsPair size primary) pairs
    → 16 ≤ at.0 → at.0 < total_of size → (16 ≤ (through pairs at).0) × ((through pairs at).0 < total_of size)
through-within size primary [] at listed all from to = (from, to)
through-within size primary (pair ∷ pairs) at listed all from to =
    let P : Pair → Type 0 = IsPair size primary in
    let is : IsPair size primary pair = All-head P pair pairs all in
    let rest : All P pairs = All-tail P pair pairs all in
    let new = spare-kept size primary pair.new.0 listed is.new in
    let low : 16 + capacity_of size ≤ first_of size primary = slipped-low (16 + capacity_of size) primary in
    let Q : Psn → Type 0 = λ v. (16 ≤ (through pairs v).0) × ((through pairs v).0 < total_of size) in
    elim (answer_of (at.0 == pair.old.0)) [
      | inl w ↦ (let e : pair.new ≡ moved at pair = rw w refl in subst Q e (through-within size primary pairs pair.new listed rest (omega (arith, new.from)) (omega (arith, new.from, new.to))))
      | inr w ↦ (let e : at ≡ moved at pair = rw w refl in subst Q e (through-within size primary pairs at listed rest from to))
    ]

pub blocks_lie_on_user_sectors : BlocksLieOnUserSectors
blocks_lie_on_user_sectors m valid b below =
    through-within m.size m.primary m.grown (slip_place m.size m.primary b) valid.primary valid.grown.pairs
    (omega (arith, start-slipped m b valid below, slipped-low (16 + b.0) m.primary))
    (omega (arith, start-slipped m b valid below, slipped-within m.size m.primary b.0 valid.primary below))

-- what is found passes the test, and is in the list
find-passes : (test : ℕ → Bool) (xs : List ℕ) (x : ℕ) → find test xs ≡ Some x → (test x ≡ true) × (list_any (λ q. q == x) xs ≡ true)
find-passes test [] x found = absurd (cc)
find-passes test (y ∷ ys) x found =
    elim (answer_of (test y)) [
      | inl w ↦ (
          let here : Some y ≡ Some x = rw w at found in
          let same : y ≡ x = cc in
          let itself : (x == x) ≡ true = elim (eqb_tells x x) [ inl v ↦ v.0 | inr v ↦ absurd (v.1 refl) ] in
          (rw (← same) w, rw (same, itself) refl))
      | inr w ↦ (
          let later = find-passes test ys x (rw w at found) in
          (later.0, elim (eqb_tells y x) [ inl v ↦ rw v.0 refl | inr v ↦ rw v.0 later.1 ]))
    ]

-- both of a conjunction
both_of : (p q : Bool) → (p && q) ≡ true → (p ≡ true) × (q ≡ true)
both_of true q e = (refl, e)
both_of false q e = absurd (cc)

not_true : (b : Bool) → not b ≡ true → b ≡ false
not_true true e = absurd (cc)
not_true false e = refl

IsNextSpare-found : (m : DefectMap) (taken : List Psn) (p : Psn) (r : Option ℕ) → find (is_free m.grown taken) (spares m.size m.primary) ≡ r → option_map sector r ≡ Some p
    → length m.grown + length taken < PAIRS_MAX → IsNextSpare m taken p
IsNextSpare-found m taken p None found given room = absurd (cc)
IsNextSpare-found m taken p (Some x) found given room =
    let same : sector x ≡ p = cc in
    let passes = find-passes (is_free m.grown taken) (spares m.size m.primary) x found in
    let free = both_of (not (is_in_a_pair x m.grown)) (not (is_listed x taken)) passes.0 in
    let P : Psn → Type 0 = λ q. IsNextSpare m taken q in
    subst P same (record {
      free = record { spare = passes.1; in_no_pair = not_true (is_in_a_pair x m.grown) free.0 };
      not_taken = not_true (is_listed x taken) free.1;
      few = room;
    })

pub given_spares_are_next : GivenSparesAreNext
given_spares_are_next m taken p given =
    elim (leb_tells (suc (length m.grown + length taken)) PAIRS_MAX) [
      | inl w ↦ IsNextSpare-found m taken p (find (is_free m.grown taken) (spares m.size m.primary)) refl (rw w.0 at given) w.1
      | inr w ↦ absurd (let none : None ≡ Some p = rw w.0 at given in cc)
    ]

-- what is in no pair is new of none
pub in_no_pair-new_of_none : (p : ℕ) (pairs : List Pair) → is_in_a_pair p pairs ≡ false → IsNewOfNone p pairs
in_no_pair-new_of_none p [] none = tt
in_no_pair-new_of_none p (pair ∷ pairs) none =
    elim (eqb_tells pair.old.0 p) [
      | inl w ↦ absurd (let no : true ≡ false = rw w.0 at none in cc)
      | inr w ↦ elim (eqb_tells pair.new.0 p) [
        | inl v ↦ absurd (let no : true ≡ false = rw (w.0, v.0) at none in cc)
        | inr v ↦ ((λ same. v.1 (sym same)), in_no_pair-new_of_none p pairs (rw (w.0, v.0) at none))
      ]
    ]

pub free_spares_are_no_places : FreeSparesAreNoPlaces
free_spares_are_no_places m valid p free b below same =
    let number : (place_of m b).0 ≡ p.0 = ap (λ (q : Psn). q.0) same in
    let up : (slip_place m.size m.primary b).0 < p.0 = start-below_spare m b p.0 valid below free.spare in
    through-apart m.grown (slip_place m.size m.primary b) p.0 (omega arith) (in_no_pair-new_of_none p.0 m.grown free.in_no_pair) number

pub given_spares_are_free : GivenSparesAreFree
given_spares_are_free m valid taken p given = free_spares_are_no_places m valid p (given_spares_are_next m taken p given).free

-- a grown list takes one more pair, whose spare is its own
pub IsGrownList-push : (size : Size) (primary : List Psn) (pairs : List Pair) (pair : Pair) → IsGrownList size primary pairs → IsPair size primary pair
    → All (λ p. HaveOwnSpares p pair) pairs → length pairs < PAIRS_MAX → IsGrownList size primary (pairs ++ pair ∷ [])
IsGrownList-push size primary pairs pair list is own room = record {
  pairs = All-push (IsPair size primary) pairs pair list.pairs is;
  own_spares = all_pairs_push HaveOwnSpares pairs pair list.own_spares own;
  few = omega (arith, length-append pairs (pair ∷ []));
}

-- the next spare is the first open sector past the places of all blocks
pub next_spare-open : (m : DefectMap) (taken : List Psn) → IsValidMap m → length m.grown + length taken < PAIRS_MAX
    → next_spare_of m taken ≡ option_map sector (find (is_open m.primary m.grown taken) (range_with_len (first_of m.size m.primary) (left_of m.size m.primary)))
next_spare-open m taken valid room =
    let fits : nat_lt (length m.grown + length taken) PAIRS_MAX ≡ true = elim (leb_tells (suc (length m.grown + length taken)) PAIRS_MAX) [ inl w ↦ w.0 | inr w ↦ absurd (omega arith) ] in
    rw (fits, spares-kept m.size m.primary valid.primary)
    (ap (option_map sector) (find-kept (left_of m.size m.primary) (first_of m.size m.primary) (is_sound m.primary) (is_free m.grown taken)))

-- the same where what it is made of goes by other names
pub next_spare-by : (m : DefectMap) (taken primary : List Psn) (grown : List Pair) (first total : ℕ) → IsValidMap m → length m.grown + length taken < PAIRS_MAX
    → primary ≡ m.primary → grown ≡ m.grown → first ≡ first_of m.size m.primary → total ≡ total_of m.size
    → option_map sector (find (is_open primary grown taken) (range_with_len first (total - first))) ≡ next_spare_of m taken
next_spare-by m taken primary grown first total valid room p g f t =
    let Found : List Psn → List Pair → List ℕ → Option Psn = λ ps pairs among. option_map sector (find (is_open ps pairs taken) among) in
    let among : range_with_len first (total - first) ≡ range_with_len (first_of m.size m.primary) (left_of m.size m.primary) = cc in
    let same : Found primary grown (range_with_len first (total - first)) ≡ Found m.primary m.grown (range_with_len (first_of m.size m.primary) (left_of m.size m.primary)) =
    ap (λ (ps : List Psn). Found ps grown (range_with_len first (total - first))) p
    ∙ ap (λ (pairs : List Pair). Found m.primary pairs (range_with_len first (total - first))) g
    ∙ ap (Found m.primary m.grown) among in
    same ∙ sym (next_spare-open m taken valid room)

-- a pair whose spare is new of none of the others
pub new_of_none-own : (pair : Pair) (pairs : List Pair) → IsNewOfNone pair.new.0 pairs → All (λ p. HaveOwnSpares p pair) pairs
new_of_none-own pair [] none = All-nil (λ p. HaveOwnSpares p pair)
new_of_none-own pair (p ∷ pairs) none = All-cons (λ q. HaveOwnSpares q pair) p pairs (λ same. none.0 (sym same)) (new_of_none-own pair pairs none.1)

pub given_spares_make_pairs : GivenSparesMakePairs
given_spares_make_pairs m valid taken old p from to given =
    let is = given_spares_are_next m taken p given in
    let pair : Pair = record { old = old; new = p } in
    IsGrownList-push m.size m.primary m.grown pair valid.grown
    (record { old_from = from; old_to = to; new = is.free.spare })
    (new_of_none-own pair m.grown (in_no_pair-new_of_none p.0 m.grown is.free.in_no_pair))
    (omega (arith, is.few))
