-- Writes to spares and their checks.
use Rattle.std.proofs.Common.{◌≡◌, ◌≢◌, ℕ, zero, suc, ◌+◌, ◌-◌, ◌<◌, ◌≤◌, Bool, true, false, cond, List, [], ◌∷◌, drop, Option, Some, None, refl, sym, ◌∙◌, ap, subst, arith}
use Rattle.std.specs.Prelude.{◌==◌, ◌||◌, not, All, IsTrue, filter}
use Rattle.std.specs.List.{list_any, range_with_len}
use Rattle.std.proofs.lemmas.Bool.{eqb-true}
use Rattle.std.proofs.lemmas.List.Elements.{All-nil, All-cons, All-head, All-tail}
use Rattle.disk_base.specs.declared.address.Lba.{Lba}
use Rattle.disk_base.specs.declared.address.Psn.{Psn}
use Rattle.disk_base.specs.declared.block.Value.{Value}
use Rattle.disk_base.specs.declared.block.Value.TheVariants.{Data, Lost}
use Rattle.disk_base.specs.declared.payload.Payload.{Payload}
use Rattle.platter_model.specs.Sector.{meant}
use Rattle.platter_model.specs.State.{State}
use Rattle.geometry_map.specs.Size.{total_of, capacity_of}
use Rattle.geometry_map.specs.Laws.{FreeSparesAreNoPlaces}
use Rattle.geometry_map.specs.DefectMap.{DefectMap, sector, place_of, slip_list, is_listed}
use Rattle.geometry_map.specs.Chains.{IsFreeSpare}
use Rattle.sector_store.specs.Shapes.{payload_on}
use Rattle.sector_store.specs.Stored.{value_in}
use Rattle.sector_store.specs.Spares.{SparesAreUserSectors, WritesToSparesKeepBlocks}
use Rattle.sector_store.proofs.Meant.{is_sector-apart, write-apart}

-- what holds of each number of a list holds of one that is in it
head_or_later : (P : ℕ → Type 0) (p x : ℕ) (xs : List ℕ) → P x → (IsTrue (list_any (λ q. q == p) xs) → P p) → (b : Bool) → (x == p) ≡ b
    → IsTrue (b || list_any (λ q. q == p) xs) → P p
head_or_later P p x xs head later true is here = subst P (eqb-true x p is) head
head_or_later P p x xs head later false is there = later there

has_it : (P : ℕ → Type 0) (p : ℕ) (xs : List ℕ) → All P xs → IsTrue (list_any (λ q. q == p) xs) → P p
has_it P p [] all in_list = let never : ⊥ = cc in absurd never
has_it P p (x ∷ xs) all in_list =
    head_or_later P p x xs (All-head P x xs all) (has_it P p xs (All-tail P x xs all)) (x == p) refl in_list

kept_or_not : (P : ℕ → Type 0) (x : ℕ) (rest : List ℕ) → P x → All P rest → (b : Bool) → All P (cond b (x ∷ rest) rest)
kept_or_not P x rest head all true = All-cons P x rest head all
kept_or_not P x rest head all false = all

all_filtered : (P : ℕ → Type 0) (keep : ℕ → Bool) (xs : List ℕ) → All P xs → All P (filter keep xs)
all_filtered P keep [] all = All-nil P
all_filtered P keep (x ∷ xs) all =
    kept_or_not P x (filter keep xs) (All-head P x xs all) (all_filtered P keep xs (All-tail P x xs all)) (keep x)

all_dropped : (P : ℕ → Type 0) (n : ℕ) (xs : List ℕ) → All P xs → All P (drop n xs)
all_dropped P zero xs all = all
all_dropped P (suc n) [] all = all
all_dropped P (suc n) (x ∷ xs) all = all_dropped P n xs (All-tail P x xs all)

all_ranged : (P : ℕ → Type 0) (from n : ℕ) → ((k : ℕ) → from ≤ k → k < from + n → P k) → All P (range_with_len from n)
all_ranged P from zero each = All-nil P
all_ranged P from (suc n) each =
    All-cons P from (range_with_len (from + 1) n) (each from (omega arith) (omega arith))
    (all_ranged P (from + 1) n (λ k above below. each k (omega (arith, above)) (omega (arith, below))))

pub spares_are_user_sectors : SparesAreUserSectors
spares_are_user_sectors m p free =
    let P : ℕ → Type 0 = λ k. (16 ≤ k) × (k < total_of m.size) in
    has_it P p.0 (drop (capacity_of m.size) (slip_list m.size m.primary))
    (all_dropped P (capacity_of m.size) (slip_list m.size m.primary)
    (all_filtered P (λ q. not (is_listed q m.primary)) (range_with_len 16 (total_of m.size - 16))
    (all_ranged P 16 (total_of m.size - 16) (λ k above below. (above, omega (arith, above, below))))))
    free.spare

pub writes_to_spares_keep_blocks : FreeSparesAreNoPlaces → WritesToSparesKeepBlocks
writes_to_spares_keep_blocks no_places m before p payload valid free own b below =
    ap (value_in b) (write-apart before p (place_of m b) payload
    (is_sector-apart payload.psn (place_of m b) (λ same. no_places m valid p free b below (ap sector (same ∙ ap (λ (q : Psn). q.0) own)))))

-- a payload on its sector
pub on_own : (p : Psn) (b : Lba) (v : Value) (payload : Payload) → payload ≡ payload_on p b v → payload.psn ≡ p
on_own p b (Data bytes) payload is = ap (λ (x : Payload). x.psn) is
on_own p b Lost payload is = ap (λ (x : Payload). x.psn) is

pub within : (m : DefectMap) (p : Psn) (platter : State) → SparesAreUserSectors → IsFreeSpare m p → platter.sectors ≡ total_of m.size → p.0 < platter.sectors
within m p platter law free sectors = subst (λ (n : ℕ). p.0 < n) (sym sectors) (law m p free).1
