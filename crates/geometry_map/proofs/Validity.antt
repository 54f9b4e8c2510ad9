-- The test of a valid map tells the valid maps.
use Rattle.std.proofs.Common.{◌≡◌, ℕ, ◌+◌, ◌≤◌, zero, suc, Bool, true, not, ◌&&◌, List, [], ◌∷◌, length, get_or, refl, sym, ◌∙◌, ap, inl, inr, arith}
use Rattle.std.specs.Prelude.{◌==◌, nat_le, nat_lt, All, AllPairs}
use Rattle.std.specs.Bool.{Decides}
use Rattle.std.specs.List.{list_any, list_all}
use Rattle.std.proofs.lemmas.Bool.Decides.{leb_tells, Decides-and, Decides-by_and, Decides-like, Decides-ltb}
use Rattle.std.proofs.lemmas.List.Folds.{Any-from_list_any, list_any_at}
use Rattle.disk_base.specs.declared.address.Psn.{Psn}
use Rattle.geometry_map.specs.declared.limits.TheConstants.{PRIMARY_MAX, PAIRS_MAX}
use Rattle.geometry_map.specs.declared.size.Size.{Size}
use Rattle.geometry_map.specs.declared.pair.Pair.{Pair}
use Rattle.geometry_map.specs.Size.{total_of}
use Rattle.geometry_map.specs.DefectMap.{spares, AscendsWithin, IsPair, IsPrimaryList, IsGrownList, HaveOwnSpares}
use Rattle.geometry_map.specs.ValidMap.{ascends_within, is_pair, have_own_spares, is_primary_list, is_grown_list, is_valid_map, TestTellsValidMaps}
use Rattle.geometry_map.proofs.OwnSpares.{true_false, eqb_true, eqb_same, AllPairs-cons}
use Rattle.geometry_map.proofs.SpareLemmas.{answer_of}

Decides-leb : (a b : ℕ) → Decides (nat_le a b) (a ≤ b)
Decides-leb a b = elim (leb_tells a b) [ inl w ↦ ((λ t. w.1), (λ t. w.0)) | inr w ↦ ((λ t. absurd (true_false (sym t ∙ w.0))), (λ t. absurd (omega (arith, t, w.1)))) ]

Decides-ascends : (low high : ℕ) (ps : List Psn) → Decides (ascends_within low high ps) (AscendsWithin low high ps)
Decides-ascends low high [] = ((λ t. tt), (λ t. refl))
Decides-ascends low high (p ∷ ps) =
    Decides-like (ascends_within low high (p ∷ ps)) (λ t. (t.0, t.1.0, t.1.1)) (λ t. (t.0, (t.1, t.2)))
    (Decides-and (nat_le low p.0) (nat_lt p.0 high && ascends_within (p.0 + 1) high ps) (Decides-leb low p.0)
    (Decides-and (nat_lt p.0 high) (ascends_within (p.0 + 1) high ps) (Decides-ltb p.0 high) (Decides-ascends (p.0 + 1) high ps)))

Decides-true : (b : Bool) → Decides b (b ≡ true)
Decides-true b = ((λ t. t), (λ t. t))

Decides-is_pair : (size : Size) (primary : List Psn) (pair : Pair) → Decides (is_pair size primary pair) (IsPair size primary pair)
Decides-is_pair size primary pair =
    Decides-like (is_pair size primary pair) (λ t. record { old_from = t.0; old_to = t.1.0; new = t.1.1 }) (λ t. (t.old_from, (t.old_to, t.new)))
    (Decides-and (nat_le 16 pair.old.0) (nat_lt pair.old.0 (total_of size) && list_any (λ p. p == pair.new.0) (spares size primary)) (Decides-leb 16 pair.old.0)
    (Decides-and (nat_lt pair.old.0 (total_of size)) (list_any (λ p. p == pair.new.0) (spares size primary)) (Decides-ltb pair.old.0 (total_of size)) (Decides-true (list_any (λ p. p == pair.new.0) (spares size primary)))))

-- a pair has its own spare beside the later ones
own_later : (pair : Pair) (pairs : List Pair) → Decides (not (list_any (λ later. later.new.0 == pair.new.0) pairs)) (All (HaveOwnSpares pair) pairs)
own_later pair pairs =
    elim (answer_of (list_any (λ later. later.new.0 == pair.new.0) pairs)) [
      | inl w ↦ (
        (λ t. absurd (true_false (sym t ∙ ap not w))),
        (λ own.
            let some = Any-from_list_any (λ (later : Pair). later.new.0 == pair.new.0) pairs w in
            let same : (get_or pairs some.0 some.1).new.0 ≡ pair.new.0 = ap (λ (q : Pair). q.new.0) some.3 ∙ eqb_true some.1.new.0 pair.new.0 some.4 in
            absurd (own some.0 some.1 some.2 (sym same))),
      )
      | inr w ↦ (
        (λ t k d within same. true_false (sym (list_any_at (λ (later : Pair). later.new.0 == pair.new.0) pairs k d within (eqb_same (get_or pairs k d).new.0 pair.new.0 (sym same))) ∙ w)),
        (λ own. ap not w),
      )
    ]

Decides-own : (pairs : List Pair) → Decides (have_own_spares pairs) (AllPairs HaveOwnSpares pairs)
Decides-own [] = ((λ t i j d before within. absurd (omega arith)), (λ t. refl))
Decides-own (pair ∷ pairs) =
    Decides-like (have_own_spares (pair ∷ pairs))
    (λ t. AllPairs-cons pair pairs t.0 t.1)
    (λ own. ((λ k d within. own 0 (suc k) d (omega arith) (omega arith)), (λ i j d before within. own (suc i) (suc j) d (omega arith) (omega arith))))
    (Decides-and (not (list_any (λ later. later.new.0 == pair.new.0) pairs)) (have_own_spares pairs) (own_later pair pairs) (Decides-own pairs))

Decides-primary : (size : Size) (primary : List Psn) → Decides (is_primary_list size primary) (IsPrimaryList size primary)
Decides-primary size primary =
    Decides-like (is_primary_list size primary) (λ t. record { ascending = t.0; few = t.1.0; kept_back = t.1.1 }) (λ t. (t.ascending, (t.few, t.kept_back)))
    (Decides-and (ascends_within 16 (total_of size) primary) (nat_le (length primary) PRIMARY_MAX && nat_le (length primary) size.reserved) (Decides-ascends 16 (total_of size) primary)
    (Decides-and (nat_le (length primary) PRIMARY_MAX) (nat_le (length primary) size.reserved) (Decides-leb (length primary) PRIMARY_MAX) (Decides-leb (length primary) size.reserved)))

Decides-grown : (size : Size) (primary : List Psn) (grown : List Pair) → Decides (is_grown_list size primary grown) (IsGrownList size primary grown)
Decides-grown size primary grown =
    Decides-like (is_grown_list size primary grown) (λ t. record { pairs = t.0; own_spares = t.1.0; few = t.1.1 }) (λ t. (t.pairs, (t.own_spares, t.few)))
    (Decides-and (list_all (is_pair size primary) grown) (have_own_spares grown && nat_le (length grown) PAIRS_MAX)
    (Decides-by_and (is_pair size primary) (IsPair size primary) (list_all (is_pair size primary)) (Decides-is_pair size primary) refl (λ _ _. refl) grown)
    (Decides-and (have_own_spares grown) (nat_le (length grown) PAIRS_MAX) (Decides-own grown) (Decides-leb (length grown) PAIRS_MAX)))

pub test_tells_valid_maps : TestTellsValidMaps
test_tells_valid_maps m =
    Decides-like (is_valid_map m) (λ t. record { primary = t.0; grown = t.1 }) (λ t. (t.primary, t.grown))
    (Decides-and (is_primary_list m.size m.primary) (is_grown_list m.size m.primary m.grown) (Decides-primary m.size m.primary) (Decides-grown m.size m.primary m.grown))
