-- A placer is made pair by pair.
use Rattle.std.proofs.Common.{◌≡◌, ◌≢◌, ℕ, ◌+◌, ◌<◌, suc, false, List, [], ◌∷◌, ◌++◌, length, get_or, take, drop, sym, ◌∙◌, ap, subst, inl, inr, arith, append-nil, length-append}
use Rattle.std.specs.Prelude.{◌↔◌, nat_lt, IsTrue}
use Rattle.std.specs.List.{refill}
use Rattle.std.proofs.lemmas.List.{append_assoc, take_all, drop_all, take-append-drop, take_more, nil_from_length, get_or_append_left}
use Rattle.std.proofs.lemmas.List.Elements.{All-nil}
use Rattle.std.proofs.lemmas.Bool.Decides.{leb_tells, eqb_tells}
use Rattle.disk_base.specs.declared.address.Psn.{Psn}
use Rattle.geometry_map.specs.declared.pair.Pair.{Pair}
use Rattle.geometry_map.specs.declared.placer.Placer.{Placer}
use Rattle.geometry_map.specs.declared.size.Size.{Size}
use Rattle.geometry_map.specs.Size.{capacity_of}
use Rattle.geometry_map.specs.Slips.{slipped}
use Rattle.geometry_map.specs.DefectMap.{DefectMap, slip_place, with_pairs, IsPair, IsGrownList, IsValidMap}
use Rattle.geometry_map.specs.Placer.{remap_of, IsStart, IsPlacerOf}
use Rattle.geometry_map.proofs.SlipLemmas.{slipped-rises}
use Rattle.geometry_map.proofs.OwnSpares.{true_false}
use Rattle.geometry_map.proofs.Places.{start-slipped}
use Rattle.geometry_map.proofs.ChainLemmas.{one_sector}
use Rattle.geometry_map.proofs.RemapLemmas.{moved-few}
use Rattle.geometry_map.proofs.RouteLemmas.{block, one_more}

-- two blocks that slip to one sector are one
one-start : (a b : ℕ) (primary : List Psn) → slipped (16 + a) primary ≡ slipped (16 + b) primary → a ≡ b
one-start a b primary same =
    elim (eqb_tells a b) [
      | inl w ↦ w.1
      | inr w ↦ elim (leb_tells a b) [
        | inl v ↦ absurd (let up : slipped (16 + a) primary < slipped (16 + b) primary = slipped-rises (16 + a) (16 + b) primary (omega (arith, v.1, w.1)) in omega arith)
        | inr v ↦ absurd (let up : slipped (16 + b) primary < slipped (16 + a) primary = slipped-rises (16 + b) (16 + a) primary (omega (arith, v.1)) in omega arith)
      ]
    ]

-- a sector that block b slips to is a block's start where there is such a block
pub start-told : (m : DefectMap) (p : Psn) (b blocks : ℕ) → IsValidMap m → blocks ≡ capacity_of m.size → slipped (16 + b) m.primary ≡ p.0 → IsTrue (nat_lt b blocks) ↔ IsStart m p
start-told m p b blocks valid all at = (
  (λ t.
      let below : b < capacity_of m.size = elim (leb_tells (suc b) blocks) [ inl w ↦ omega (arith, w.1) | inr w ↦ absurd (true_false (sym t ∙ w.0)) ] in
      (block b, below, one_sector (slip_place m.size m.primary (block b)) p (start-slipped m (block b) valid below ∙ at))),
  (λ is.
      let start : slipped (16 + is.0.0) m.primary ≡ p.0 = sym (start-slipped m is.0 valid is.1) ∙ ap (λ (q : Psn). q.0) is.2 in
      let one : is.0.0 ≡ b = one-start is.0.0 b m.primary (start ∙ sym at) in
      elim (leb_tells (suc b) blocks) [ inl w ↦ w.0 | inr w ↦ absurd (omega (arith, w.1, is.1)) ]),
)

-- one that no block slips to is none
pub no-start-told : (m : DefectMap) (p : Psn) → IsValidMap m → ((b : ℕ) → slipped (16 + b) m.primary ≢ p.0) → IsTrue false ↔ IsStart m p
no-start-told m p valid none =
    ((λ t. absurd (true_false (sym t))), (λ is. absurd (none is.0.0 (sym (start-slipped m is.0 valid is.1) ∙ ap (λ (q : Psn). q.0) is.2))))

-- the first of pairs that a list may have are pairs that it may have
pub IsGrownList-front : (size : Size) (primary : List Psn) (pairs more : List Pair) → IsGrownList size primary (pairs ++ more) → IsGrownList size primary pairs
IsGrownList-front size primary pairs more fits =
    let P : Pair → Type 0 = IsPair size primary in
    let within : (k : ℕ) → k < length pairs → k < length (pairs ++ more) = λ k less. omega (arith, length-append pairs more) in
    record {
      pairs = λ k d less. subst P (get_or_append_left pairs more d k less) (fits.pairs k d (within k less));
      own_spares = λ i j d before less same.
          fits.own_spares i j d before (within j less) (ap (λ (x : Pair). x.new.0) (get_or_append_left pairs more d i (omega arith)) ∙ same ∙ ap (λ (x : Pair). x.new.0) (sym (get_or_append_left pairs more d j less)));
      few = omega (arith, length-append pairs more, fits.few);
    }

-- the pairs of a list one by one
pub pairs-more : (m : DefectMap) (pairs : List Pair) (i : ℕ) (d : Pair) → i < length pairs → (m.grown ++ take i pairs) ++ get_or pairs i d ∷ [] ≡ m.grown ++ take (i + 1) pairs
pairs-more m pairs i d within =
    append_assoc m.grown (take i pairs) (get_or pairs i d ∷ []) ∙ ap (λ (l : List Pair). m.grown ++ l) (sym (take_more pairs i d within))

pub fits-more : (m : DefectMap) (pairs : List Pair) (i : ℕ) (d : Pair) → i < length pairs → IsGrownList m.size m.primary (m.grown ++ pairs)
    → IsGrownList m.size m.primary ((m.grown ++ take i pairs) ++ get_or pairs i d ∷ [])
fits-more m pairs i d within fits =
    let G : List Pair → Type 0 = IsGrownList m.size m.primary in
    let parts : m.grown ++ pairs ≡ (m.grown ++ take (i + 1) pairs) ++ drop (i + 1) pairs = ap (λ (l : List Pair). m.grown ++ l) (sym (take-append-drop (i + 1) pairs)) ∙ sym (append_assoc m.grown (take (i + 1) pairs) (drop (i + 1) pairs)) in
    subst G (sym (pairs-more m pairs i d within)) (IsGrownList-front m.size m.primary (m.grown ++ take (i + 1) pairs) (drop (i + 1) pairs) (subst G parts fits))

-- the placer of a map with some pairs and one more
pub placer-more : (placer : Placer) (m : DefectMap) (pairs : List Pair) (i : ℕ) (d : Pair) → i < length pairs
    → IsPlacerOf placer (one_more (with_pairs m (take i pairs)) (get_or pairs i d)) → IsPlacerOf placer (with_pairs m (take (i + 1) pairs))
placer-more placer m pairs i d within is =
    let P : List Pair → Type 0 = λ grown. IsPlacerOf placer (record m { grown = grown }) in
    subst P (pairs-more m pairs i d within) is

-- without more pairs it is the map's
pub placer-none : (placer : Placer) (m : DefectMap) → IsPlacerOf placer m → IsPlacerOf placer (with_pairs m [])
placer-none placer m is =
    let P : List Pair → Type 0 = λ grown. IsPlacerOf placer (record m { grown = grown }) in
    subst P (sym (append-nil m.grown)) is

-- a map without its pairs
abbrev pub unmoved : DefectMap → DefectMap
unmoved m = record m { grown = [] }

pub unmoved-valid : (m : DefectMap) → IsValidMap m → IsValidMap (unmoved m)
unmoved-valid m valid = record {
  primary = valid.primary;
  grown = record { pairs = All-nil (IsPair m.size m.primary); own_spares = λ i j d before within. absurd (omega arith); few = omega arith };
}

-- it has no routes
pub unmoved-remap : (m : DefectMap) → IsValidMap m → remap_of (unmoved m) ≡ []
unmoved-remap m valid =
    nil_from_length (remap_of (unmoved m)) (omega (arith, moved-few (unmoved m) (capacity_of m.size) (unmoved-valid m valid) (omega arith)))

-- a list that is refilled by one of its own length is that one
pub refilled : (xs ws : List Pair) → length ws ≡ length xs → refill (length xs) xs ws ≡ ws
refilled xs ws same =
    let rest : drop (length ws) xs ≡ [] = drop_all (length ws) xs (omega arith) in
    ap (λ (l : List Pair). take (length xs) (ws ++ l)) rest ∙ ap (take (length xs)) (append-nil ws) ∙ take_all (length xs) ws (omega arith)
