-- Chains: where they take a block, and that the map's list takes those of free spares.
use Rattle.std.proofs.Common.{◌≡◌, ◌≢◌, ◌∙◌, ap, sym, refl, ◌+◌, ◌<◌, ◌≤◌, true, Bool, cond, List, [], ◌∷◌, get_or, arith, length-append}
use Rattle.std.specs.Prelude.{All}
use Rattle.std.proofs.lemmas.Bool.{eq-eqb, ne_eqb}
use Rattle.std.proofs.lemmas.List.Elements.{All-nil, All-cons, All-head, All-tail, All-append, All-weaker}
use Rattle.std.proofs.lemmas.List.Sums.{fold-append}
use Rattle.disk_base.specs.declared.address.Psn.{Psn}
use Rattle.disk_base.specs.declared.address.Lba.{Lba}
use Rattle.geometry_map.specs.declared.size.Size.{Size}
use Rattle.geometry_map.specs.declared.pair.Pair.{Pair}
use Rattle.geometry_map.specs.Size.{total_of, capacity_of}
use Rattle.geometry_map.specs.DefectMap.{DefectMap, IsPrimaryList, IsPair, place_of, with_pairs, moved, through, slip_place}
use Rattle.geometry_map.specs.Slips.{slipped}
use Rattle.geometry_map.specs.Chains.{IsChain, chain_end, IsNoNew, IsFreeSpare}
use Rattle.geometry_map.specs.Laws.{ChainsMoveOneBlock, ChainsOfFreeSparesFit}
use Rattle.geometry_map.proofs.SlipLemmas.{slipped-low}
use Rattle.geometry_map.proofs.SpareLemmas.{is_spare_of, spare-kept}
use Rattle.geometry_map.proofs.OwnSpares.{AllPairs-append}
use Rattle.geometry_map.proofs.Places.{in_no_pair-new_of_none, new_of_none-own}

-- a sector is its number
pub one_sector : (p q : Psn) → p.0 ≡ q.0 → p ≡ q
one_sector p q same = λ i. record { 0 = same i }

-- a pair takes its old sector to its new one
goes : (at : Psn) (pair : Pair) → pair.old ≡ at → moved at pair ≡ pair.new
goes at pair is = ap (λ (t : Bool). cond t pair.new at) (eq-eqb at.0 pair.old.0 (sym (ap (λ (p : Psn). p.0) is)))

-- and leaves each other one
stays : (at : Psn) (pair : Pair) → pair.old ≢ at → moved at pair ≡ at
stays at pair other = ap (λ (t : Bool). cond t pair.new at) (ne_eqb at.0 pair.old.0 (λ same. other (sym (one_sector at pair.old same))))

-- a chain takes its beginning to its end
to_end : (at : Psn) (pairs : List Pair) → IsChain at pairs → through pairs at ≡ chain_end at pairs
to_end at [] chain = refl
to_end at (pair ∷ pairs) chain = ap (λ (p : Psn). through pairs p) (goes at pair chain.0) ∙ to_end pair.new pairs chain.1

-- and leaves a sector that is neither its beginning nor one of its spares
left : (p at : Psn) (pairs : List Pair) → IsChain at pairs → p ≢ at → IsNoNew p pairs → through pairs p ≡ p
left p at [] chain apart none = refl
left p at (pair ∷ pairs) chain apart none =
    let P : Pair → Type 0 = λ q. q.new ≢ p in
    ap (λ (q : Psn). through pairs q) (stays p pair (λ same. apart (sym same ∙ chain.0)))
    ∙ left p pair.new pairs chain.1 (λ same. All-head P pair pairs none (sym same)) (All-tail P pair pairs none)

-- more pairs go on from where the map's own have taken a block
onward : (m : DefectMap) (b : Lba) (pairs : List Pair) → place_of (with_pairs m pairs) b ≡ through pairs (place_of m b)
onward m b pairs = fold-append moved (slip_place m.size m.primary b) m.grown pairs

pub chains_move_one_block : ChainsMoveOneBlock
chains_move_one_block m b pairs chain = record {
  own = onward m b pairs ∙ to_end (place_of m b) pairs chain;
  others = λ q apart none. onward m q pairs ∙ left (place_of m q) (place_of m b) pairs chain apart none;
}

-- a chain from a user sector to spares is of pairs that a list may have
chain_pairs : (size : Size) (primary : List Psn) (at : Psn) (pairs : List Pair) → IsPrimaryList size primary → 16 ≤ at.0 → at.0 < total_of size
    → IsChain at pairs → All (λ pair. is_spare_of size primary pair.new.0 ≡ true) pairs → All (IsPair size primary) pairs
chain_pairs size primary at [] listed from to chain spares = All-nil (IsPair size primary)
chain_pairs size primary at (pair ∷ pairs) listed from to chain spares =
    let S : Pair → Type 0 = λ p. is_spare_of size primary p.new.0 ≡ true in
    let spare : is_spare_of size primary pair.new.0 ≡ true = All-head S pair pairs spares in
    let here : pair.old.0 ≡ at.0 = ap (λ (p : Psn). p.0) chain.0 in
    let new = spare-kept size primary pair.new.0 listed spare in
    let low : 16 + capacity_of size ≤ slipped (16 + capacity_of size) primary = slipped-low (16 + capacity_of size) primary in
    All-cons (IsPair size primary) pair pairs (record { old_from = omega arith; old_to = omega arith; new = spare })
    (chain_pairs size primary pair.new pairs listed (omega (arith, new.from)) (omega (arith, new.from, new.to)) chain.1 (All-tail S pair pairs spares))

pub chains_of_free_spares_fit : ChainsOfFreeSparesFit
chains_of_free_spares_fit m valid at from to pairs chain free own few =
    let F : Pair → Type 0 = λ pair. IsFreeSpare m pair.new in
    let spares = All-weaker F (λ pair. is_spare_of m.size m.primary pair.new.0 ≡ true) (λ pair is. is.spare) pairs free in
    record {
      pairs = All-append (IsPair m.size m.primary) m.grown pairs valid.grown.pairs (chain_pairs m.size m.primary at pairs valid.primary from to chain spares);
      own_spares = AllPairs-append m.grown pairs valid.grown.own_spares own
          (λ k d within j e within'. new_of_none-own (get_or pairs j e) m.grown (in_no_pair-new_of_none (get_or pairs j e).new.0 m.grown (free j e within').in_no_pair) k d within);
      few = omega (arith, length-append m.grown pairs);
    }
