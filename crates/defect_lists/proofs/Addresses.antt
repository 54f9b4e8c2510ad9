-- A sector's address, and how many are asked for.
use Rattle.std.proofs.Common.{◌≡◌, ℕ, ◌+◌, ◌*◌, ◌/◌, ◌%◌, ◌<◌, ◌≤◌, true, false, List, [], length, ◌∙◌, ap, arith, length-append}
use Rattle.std.specs.Prelude.{map, if◌then◌else◌, Bool}
use Rattle.std.proofs.lemmas.Nat.{div-mul-add}
use Rattle.std.proofs.lemmas.List.{length-map}
use Rattle.geometry_map.specs.declared.limits.TheConstants.{PRIMARY_MAX, PAIRS_MAX}
use Rattle.geometry_map.specs.declared.size.Size.{Size}
use Rattle.geometry_map.specs.Size.{LiesAt}
use Rattle.geometry_map.specs.DefectMap.{DefectMap, IsValidMap}
use Rattle.defect_lists.specs.declared.reply.DefectRequest.{DefectRequest}
use Rattle.defect_lists.specs.DefectData.{asked_sectors}

-- a quotient and a remainder are those of the division
pub quotient_of : (n a w b : ℕ) → n ≡ a * w + b → b < w → n / w ≡ a
quotient_of n a w b e less = ap (λ (m : ℕ). m / w) e ∙ div-mul-add a w b less

pub remainder_of : (n a w b : ℕ) → n ≡ a * w + b → b < w → n % w ≡ b
remainder_of n a w b e less =
    let q : n / w ≡ a = quotient_of n a w b e less in
    let whole : n / w * w + n % w ≡ n = omega arith in
    let whole' : a * w + n % w ≡ n = rw (← q) whole in
    omega arith

-- the cylinder, the head and the sector of a number
pub cylinder_is : (size : Size) (p c h s : ℕ) → LiesAt size p c h s → p / size.sectors / size.heads ≡ c
cylinder_is size p c h s lies =
    let track : p / size.sectors ≡ c * size.heads + h = quotient_of p (c * size.heads + h) size.sectors s lies.number lies.on_a_track in
    quotient_of (p / size.sectors) c size.heads h track lies.on_a_head

pub head_is : (size : Size) (p c h s : ℕ) → LiesAt size p c h s → p / size.sectors % size.heads ≡ h
head_is size p c h s lies =
    let track : p / size.sectors ≡ c * size.heads + h = quotient_of p (c * size.heads + h) size.sectors s lies.number lies.on_a_track in
    remainder_of (p / size.sectors) c size.heads h track lies.on_a_head

pub sector_is : (size : Size) (p c h s : ℕ) → LiesAt size p c h s → p % size.sectors ≡ s
sector_is size p c h s lies = remainder_of p (c * size.heads + h) size.sectors s lies.number lies.on_a_track

-- no more are asked for than two lists hold
pub asked_sectors-few : (m : DefectMap) (request : DefectRequest) → IsValidMap m → length (asked_sectors m request) ≤ PRIMARY_MAX + PAIRS_MAX
asked_sectors-few m request valid =
    let part : (asked : Bool) (xs : List ℕ) → length (if asked then xs else []) ≤ length xs = λ asked xs. elim asked as (λ b. length (if b then xs else []) ≤ length xs) [ true ↦ omega arith | false ↦ omega arith ] in
    let primary : List ℕ = map (λ p. p.0) m.primary in
    let grown : List ℕ = map (λ pair. pair.old.0) m.grown in
    omega (
      arith,
      length-append (if request.primary then map (λ p. p.0) m.primary else []) (if request.grown then map (λ pair. pair.old.0) m.grown else []),
      part request.primary primary,
      part request.grown grown,
      length-map m.primary (λ p. p.0),
      length-map m.grown (λ pair. pair.old.0),
      valid.primary.few,
      valid.grown.few,
    )
