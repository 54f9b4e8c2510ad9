-- The data of READ DEFECT DATA have the form that a history asks for.
use Rattle.std.proofs.Common.{◌≡◌, ℕ, zero, suc, ◌+◌, ◌*◌, ◌<◌, Bool, true, false, cond, List, [], ◌∷◌, ◌++◌, length, take, refl, ap, ◌∙◌, subst, arith, length-append, length-take}
use Rattle.std.specs.Prelude.{◌%◌, ◌==◌, ◌&&◌, min, nat_lt}
use Rattle.std.specs.List.{flat_map}
use Rattle.std.specs.Int.{w16, from_be_bytes}
use Rattle.std.proofs.lemmas.Bool.{eq-eqb, le-ltb}
use Rattle.std.proofs.lemmas.Nat.{from_be_bytes-to_be_bytes_2}
use Rattle.geometry_map.specs.declared.size.Size.{Size}
use Rattle.geometry_map.specs.DefectMap.{DefectMap, IsValidMap}
use Rattle.defect_lists.specs.declared.reply.DefectRequest.{DefectRequest}
use Rattle.defect_lists.specs.DefectData.{defect_data, asked_sectors, descriptor, ascending}
use Rattle.defect_lists.proofs.Addresses.{asked_sectors-few}
use Rattle.defect_lists.proofs.Sorting.{length-ascending}
use Rattle.block_machine.specs.DriveOnly.{defect_heading, has_defect_length}
use Rattle.block_machine.proofs.Booleans.{and_both}

-- eight bytes a sector
length-addresses : (size : Size) (sectors : List ℕ) → length (flat_map (descriptor size) sectors) ≡ 8 * length sectors
length-addresses size [] = refl
length-addresses size (p ∷ ps) =
    let rest = length-addresses size ps in
    let all : length (descriptor size p ++ flat_map (descriptor size) ps) ≡ length (descriptor size p) + length (flat_map (descriptor size) ps) =
    length-append (descriptor size p) (flat_map (descriptor size) ps) in
    let one : length (descriptor size p) ≡ 8 = refl in
    omega (arith, all, one, rest)

-- the first two bytes
heads : (allocation x y : ℕ) (rest : List ℕ) → take 2 (take allocation (x ∷ y ∷ rest)) ≡ take allocation (x ∷ y ∷ [])
heads zero x y rest = refl
heads (suc zero) x y rest = refl
heads (suc (suc zero)) x y rest = refl
heads (suc (suc (suc k))) x y rest = refl

-- the length, where it is there, and what follows
lengths : (allocation x y high low n : ℕ) (rest : List ℕ) → from_be_bytes w16 (high ∷ low ∷ []) ≡ 8 * n → length rest ≡ 8 * n
    → has_defect_length allocation (take allocation (x ∷ y ∷ high ∷ low ∷ rest)) ≡ true
lengths zero x y high low n rest two long = refl
lengths (suc zero) x y high low n rest two long = refl
lengths (suc (suc zero)) x y high low n rest two long = refl
lengths (suc (suc (suc zero))) x y high low n rest two long = refl
lengths (suc (suc (suc (suc k)))) x y high low n rest two long =
    let bytes : List ℕ = x ∷ y ∷ high ∷ low ∷ take k rest in
    let cut : length (take k rest) ≡ min k (length rest) = length-take k rest in
    let all : length (x ∷ y ∷ high ∷ low ∷ take k rest) ≡ 4 + length (take k rest) = omega arith in
    let enough : nat_lt (length (x ∷ y ∷ high ∷ low ∷ take k rest)) 4 ≡ false = le-ltb _ 4 (omega arith) in
    let whole : (from_be_bytes w16 (high ∷ low ∷ []) % 8 == 0) ≡ true = eq-eqb _ 0 (omega (arith, two)) in
    let so_many : (length (x ∷ y ∷ high ∷ low ∷ take k rest) == min (4 + k) (4 + from_be_bytes w16 (high ∷ low ∷ []))) ≡ true =
    eq-eqb _ _ (omega (arith, all, cut, two, long)) in
    let four : 4 + k ≡ suc (suc (suc (suc k))) = omega arith in
    subst (λ (n : ℕ). has_defect_length n (x ∷ y ∷ high ∷ low ∷ take k rest) ≡ true) four
    (ap (λ (b : Bool). cond b (length (x ∷ y ∷ high ∷ low ∷ take k rest) == 4 + k)
    (from_be_bytes w16 (high ∷ low ∷ []) % 8 == 0 && length (x ∷ y ∷ high ∷ low ∷ take k rest) == min (4 + k) (4 + from_be_bytes w16 (high ∷ low ∷ [])))) enough
    ∙ and_both _ _ whole so_many)

-- they begin with their heading
pub defect_data-heading : (m : DefectMap) (request : DefectRequest) → take 2 (defect_data m request) ≡ defect_heading request.primary request.grown request.allocation
defect_data-heading m request = heads request.allocation _ _ _

-- and have their length
pub defect_data-length : (m : DefectMap) (request : DefectRequest) → IsValidMap m → has_defect_length request.allocation (defect_data m request) ≡ true
defect_data-length m request valid =
    let sectors : List ℕ = ascending (asked_sectors m request) in
    let few : 8 * length (ascending (asked_sectors m request)) < 65536 =
    omega (arith, length-ascending (asked_sectors m request), asked_sectors-few m request valid) in
    lengths request.allocation _ _ _ _ (length (ascending (asked_sectors m request))) (flat_map (descriptor m.size) (ascending (asked_sectors m request)))
    (from_be_bytes-to_be_bytes_2 (8 * length (ascending (asked_sectors m request))) few)
    (length-addresses m.size (ascending (asked_sectors m request)))
