-- Maps of a drive of 1,024 sectors, with what is so by each and what is not.
use Rattle.std.proofs.Common.{◌≡◌, ℕ, ◌-◌, List, [], ◌∷◌, ap, refl, lit≤, lit<, true, false, arith}
use Rattle.std.specs.Prelude.{Some, None, replicate}
use Rattle.disk_base.specs.declared.address.Psn.{Psn}
use Rattle.disk_base.specs.declared.address.Lba.{Lba}
use Rattle.geometry_map.specs.declared.limits.TheConstants.{PAIRS_MAX}
use Rattle.geometry_map.specs.declared.size.Size.{Size}
use Rattle.geometry_map.specs.declared.pair.Pair.{Pair}
use Rattle.geometry_map.specs.Placer.{gaps_of, remap_of, followed, IsStart}
use Rattle.geometry_map.specs.Size.{LiesAt}
use Rattle.geometry_map.specs.ValidMap.{is_valid_map}
use Rattle.geometry_map.specs.Chains.{IsChain, chain_end, IsFreeSpare, IsNextSpare}
use Rattle.geometry_map.specs.DefectMap.{DefectMap, sector, factory_map, with_pairs, place_of, next_spare_of, AscendsWithin, IsPair}

abbrev drive : Size
drive = record {
  cylinders = 16;
  heads = 4;
  sectors = 16;
  reserved = 96;
  within_limits = record {
    a_cylinder = lit≤ tt;
    few_cylinders = lit≤ tt;
    a_head = lit≤ tt;
    few_heads = lit≤ tt;
    a_sector = lit≤ tt;
    short_tracks = lit≤ tt;
    least = lit≤ tt;
    greatest = lit≤ tt;
    a_block = lit< tt;
  };
}

abbrev block : ℕ → Lba
block b = record { 0 = b }

abbrev pair : ℕ → ℕ → Pair
pair old new = record { old = sector old; new = sector new }

-- without defects block b is at 16 + b, and the spares are the last 96 sectors
abbrev new_map : DefectMap
new_map = factory_map drive []

first_block : place_of new_map (block 0) ≡ sector 16
first_block = refl

last_block : place_of new_map (block 911) ≡ sector 927
last_block = refl

first_spare : next_spare_of new_map [] ≡ Some (sector 928)
first_spare = refl

-- past a primary defect each block is one sector later
abbrev one_defect : DefectMap
one_defect = factory_map drive (sector 20 ∷ [])

before_the_defect : place_of one_defect (block 3) ≡ sector 19
before_the_defect = refl

after_the_defect : place_of one_defect (block 4) ≡ sector 21
after_the_defect = refl

spare_after_a_slip : next_spare_of one_defect [] ≡ Some (sector 929)
spare_after_a_slip = refl

-- a chain is gone through in order: in the other order it ends at its bad spare
abbrev chain : List Pair
chain = pair 16 928 ∷ pair 928 929 ∷ []

end_of_a_chain : place_of (with_pairs new_map chain) (block 0) ≡ sector 929
end_of_a_chain = refl

other_order : place_of (with_pairs new_map (pair 928 929 ∷ pair 16 928 ∷ [])) (block 0) ≡ sector 928
other_order = refl

-- it is a chain from block 0's place, and ends at its last spare; in the other order it is none, nor from another sector
chain_of_a_block : IsChain (place_of new_map (block 0)) chain
chain_of_a_block = (refl, (refl, tt))

last_spare_of_a_chain : chain_end (sector 16) chain ≡ sector 929
last_spare_of_a_chain = refl

end_of_no_pairs : chain_end (sector 16) [] ≡ sector 16
end_of_no_pairs = refl

one_number : (p q : ℕ) → sector p ≡ sector q → p ≡ q
one_number p q same = ap (λ (r : Psn). r.0) same

no_chain_in_the_other_order : IsChain (sector 16) (pair 928 929 ∷ pair 16 928 ∷ []) → ⊥
no_chain_in_the_other_order is = absurd (omega (arith, one_number 928 16 is.0))

no_chain_of_another_sector : IsChain (sector 17) chain → ⊥
no_chain_of_another_sector is = absurd (omega (arith, one_number 16 17 is.0))

no_chain_past_a_gap : IsChain (sector 16) (pair 16 928 ∷ pair 929 930 ∷ []) → ⊥
no_chain_past_a_gap is = absurd (omega (arith, one_number 929 928 is.1.0))

-- beside the chain spare 930 is free; the chain's own spares are not, nor a sector of a block
free_spare : IsFreeSpare (with_pairs new_map chain) (sector 930)
free_spare = record { spare = refl; in_no_pair = refl }

last_spare_of_a_chain_is_not_free : IsFreeSpare (with_pairs new_map chain) (sector 929) → ⊥
last_spare_of_a_chain_is_not_free is = absurd (let no : true ≡ false = is.in_no_pair in cc)

bad_spare_of_a_chain_is_not_free : IsFreeSpare (with_pairs new_map chain) (sector 928) → ⊥
bad_spare_of_a_chain_is_not_free is = absurd (let no : true ≡ false = is.in_no_pair in cc)

sector_of_a_block_is_not_free : IsFreeSpare new_map (sector 927) → ⊥
sector_of_a_block_is_not_free is = absurd (let no : false ≡ true = is.spare in cc)

-- a free spare that is taken is not the next one
taken_spare_is_not_next : IsNextSpare new_map (sector 928 ∷ []) (sector 928) → ⊥
taken_spare_is_not_next is = absurd (let no : true ≡ false = is.not_taken in cc)

-- neither spare of the chain is given again, nor one that is taken
spare_after_a_chain : next_spare_of (with_pairs new_map chain) [] ≡ Some (sector 930)
spare_after_a_chain = refl

spare_after_taken : next_spare_of (with_pairs new_map chain) (sector 930 ∷ []) ≡ Some (sector 931)
spare_after_taken = refl

-- old of a pair is not given either
spare_after_old : next_spare_of (with_pairs new_map (pair 928 930 ∷ [])) [] ≡ Some (sector 929)
spare_after_old = refl

-- beside the two pairs of the chain all but two sectors that a list may have are taken, or one less
no_spare_past_the_lists : next_spare_of (with_pairs new_map chain) (replicate (PAIRS_MAX - 2) (sector 0)) ≡ None
no_spare_past_the_lists = refl

spare_within_the_lists : next_spare_of (with_pairs new_map chain) (replicate (PAIRS_MAX - 3) (sector 0)) ≡ Some (sector 930)
spare_within_the_lists = refl

-- the lists of a placer, where sector 20 is a primary defect and block 0 is at spare 929
gap_of_a_defect : gaps_of (sector 20 ∷ []) ≡ 4 ∷ []
gap_of_a_defect = refl

gaps_of_neighbours : gaps_of (sector 20 ∷ sector 21 ∷ sector 30 ∷ []) ≡ 4 ∷ 4 ∷ 12 ∷ []
gaps_of_neighbours = refl

route_of_a_pair : remap_of (with_pairs one_defect (pair 16 929 ∷ [])) ≡ pair 16 929 ∷ []
route_of_a_pair = refl

-- a chain is one route, and a pair that no block goes through is none
route_of_a_chain : remap_of (with_pairs new_map (pair 928 930 ∷ chain)) ≡ pair 16 929 ∷ []
route_of_a_chain = refl

-- the first of two pairs with one old takes the block, a defect begins no route, and routes stand by their starts
route_of_the_first : remap_of (with_pairs new_map (pair 16 928 ∷ pair 16 929 ∷ [])) ≡ pair 16 928 ∷ []
route_of_the_first = refl

route_of_a_defect : remap_of (with_pairs one_defect (pair 20 929 ∷ [])) ≡ []
route_of_a_defect = refl

routes_by_start : remap_of (with_pairs new_map (pair 17 928 ∷ pair 16 929 ∷ [])) ≡ pair 16 929 ∷ pair 17 928 ∷ []
routes_by_start = refl

-- a pair takes on the route that ends at its old, and no other
route_taken_on : followed (pair 928 929) (pair 16 928) ≡ pair 16 929
route_taken_on = refl

route_left : followed (pair 16 929) (pair 16 928) ≡ pair 16 928
route_left = refl

-- past defect 20 block 4 starts at 21, and none at 20
start_of_a_block : IsStart one_defect (sector 21)
start_of_a_block = (record { 0 = 4 }, lit< tt, refl)

-- a primary list may not name a sector twice, nor one of the map, nor one past the drive
not_twice : AscendsWithin 16 1024 (sector 20 ∷ sector 20 ∷ []) → ⊥
not_twice up = absurd (omega arith)

not_of_the_map : AscendsWithin 16 1024 (sector 15 ∷ []) → ⊥
not_of_the_map up = absurd (omega arith)

not_past_the_drive : AscendsWithin 16 1024 (sector 1024 ∷ []) → ⊥
not_past_the_drive up = absurd (omega arith)

-- new of a pair may not be a sector of a block
not_to_a_block : IsPair drive [] (pair 16 927) → ⊥
not_to_a_block is = absurd (let no : false ≡ true = is.new in cc)

-- sector 1023 is the last of the last track
last_sector : LiesAt drive 1023 15 3 15
last_sector = record { number = refl; on_a_head = lit< tt; on_a_track = lit< tt }

-- a chain is valid, and so is a pair whose old no block goes through; a spare in two pairs is not, nor is a pair of the map's sectors
valid_chain : is_valid_map (with_pairs new_map chain) ≡ true
valid_chain = refl

valid_stray_pair : is_valid_map (with_pairs one_defect (pair 20 929 ∷ [])) ≡ true
valid_stray_pair = refl

spare_in_two_pairs : is_valid_map (with_pairs new_map (pair 16 928 ∷ pair 17 928 ∷ [])) ≡ false
spare_in_two_pairs = refl

pair_of_the_map : is_valid_map (with_pairs new_map (pair 15 928 ∷ [])) ≡ false
pair_of_the_map = refl

pair_to_a_slipped_block : is_valid_map (with_pairs one_defect (pair 16 928 ∷ [])) ≡ false
pair_to_a_slipped_block = refl

twice_in_the_primary_list : is_valid_map (factory_map drive (sector 20 ∷ sector 20 ∷ [])) ≡ false
twice_in_the_primary_list = refl
