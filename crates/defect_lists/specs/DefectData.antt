-- The data of READ DEFECT DATA (10), in the physical sector format (SBC-3, READ DEFECT DATA and address descriptor formats).
use Rattle.std.specs.Prelude.{ℕ, ◌+◌, ◌*◌, ◌/◌, ◌%◌, nat_le, if◌then◌else◌, List, [], ◌∷◌, ◌++◌, length, map, take, drop}
use Rattle.std.specs.List.{flat_map}
use Rattle.std.specs.Int.{w16, w32, to_be_bytes}
use Rattle.geometry_map.specs.declared.size.Size.{Size}
use Rattle.geometry_map.specs.DefectMap.{DefectMap}
use Rattle.defect_lists.specs.declared.reply.DefectRequest.{DefectRequest}

-- a number put before the first that is not below it
abbrev pub insert_before : ℕ → List ℕ → List ℕ
insert_before x [] = x ∷ []
insert_before x (y ∷ ys) = if nat_le x y then x ∷ y ∷ ys else y ∷ insert_before x ys

-- the numbers in ascending order, each as often as it stands there
abbrev pub ascending : List ℕ → List ℕ
ascending [] = []
ascending (x ∷ xs) = insert_before x (ascending xs)

-- the sectors that are asked for: those of the primary list, and old of each pair of the grown list
abbrev pub asked_sectors : DefectMap → DefectRequest → List ℕ
asked_sectors m request =
    (if request.primary then map (λ p. p.0) m.primary else []) ++ (if request.grown then map (λ pair. pair.old.0) m.grown else [])

-- a zero; bit 4 for the primary list, bit 3 for the grown list, and format 5; and the length of the addresses in two bytes
abbrev pub header : DefectRequest → ℕ → List ℕ
header request count =
    0 ∷ ((if request.primary then 16 else 0) + (if request.grown then 8 else 0) + 5) ∷ to_be_bytes w16 (8 * count)

-- the address of a sector: its cylinder in three bytes, its head, and its number on the track in four
abbrev pub descriptor : Size → ℕ → List ℕ
descriptor size p =
    drop 1 (to_be_bytes w32 (p / size.sectors / size.heads)) ++ (p / size.sectors % size.heads) ∷ to_be_bytes w32 (p % size.sectors)

-- the header and the addresses of the sectors asked for, ascending, as far as the allocation length goes
abbrev pub defect_data : DefectMap → DefectRequest → List ℕ
defect_data m request =
    let sectors = ascending (asked_sectors m request) in
    take request.allocation (header request (length sectors) ++ flat_map (descriptor m.size) sectors)
