-- Parameters of findings, one after the other.
use Rattle.std.proofs.Common.{◌≡◌, ℕ, zero, suc, ◌+◌, ◌-◌, ◌*◌, ◌≤◌, List, [], ◌∷◌, ◌++◌, length, map, drop, slice_get, Some, refl, sym, ap, ◌∙◌, arith, append_assoc, length-append, length-drop}
use Rattle.std.specs.Int.{w16, to_be_bytes}
use Rattle.std.proofs.lemmas.List.{drop-map, drop_more}
use Rattle.std.proofs.lemmas.Option.{slice_get_within, get_or_from_slice_get}
use Rattle.scan_log.specs.declared.finding.Finding.{Finding}
use Rattle.scan_log.specs.declared.state.ScanState.{ScanState}
use Rattle.scan_log.specs.Pages.{log_page, parameter, finding_content, parameters_from, contents}

-- each has 24 bytes
length-parameters : (code : ℕ) (fs : List Finding) → length (parameters_from code (map finding_content fs)) ≡ 24 * length fs
length-parameters code [] = refl
length-parameters code (f ∷ fs) =
    let rest = length-parameters (code + 1) fs in
    let long : length (parameter code (finding_content f)) ≡ 24 = refl in
    omega (arith, length-append (parameter code (finding_content f)) (parameters_from (code + 1) (map finding_content fs)))

-- the findings from a place on are the one there and those behind it
drop-at : (fs : List Finding) (i : ℕ) (f : Finding) → slice_get fs i ≡ Some f → drop i fs ≡ f ∷ drop (i + 1) fs
drop-at fs i f e =
    drop_more fs i f (slice_get_within fs i f e) ∙ ap (λ (g : Finding). g ∷ drop (i + 1) fs) (get_or_from_slice_get fs i f f e)

-- so its parameter stands first, and theirs follow
parameters-at : (fs : List Finding) (i : ℕ) (f : Finding) → slice_get fs i ≡ Some f
    → parameters_from (i + 1) (map finding_content (drop i fs))
    ≡ parameter (i + 1) (finding_content f) ++ parameters_from (i + 1 + 1) (map finding_content (drop (i + 1) fs))
parameters-at fs i f e = rw (drop-at fs i f e) refl

-- one more parameter is written: what is written, with those still to come, stays the same
pub parameters-step : (page given whole : List ℕ) (fs : List Finding) (i : ℕ) (f : Finding) → slice_get fs i ≡ Some f
    → given ≡ parameter (i + 1) (finding_content f)
    → page ++ parameters_from (i + 1) (map finding_content (drop i fs)) ≡ whole
    → (page ++ given) ++ parameters_from (i + 1 + 1) (map finding_content (drop (i + 1) fs)) ≡ whole
parameters-step page given whole fs i f here e rest =
    let next = parameters_from (i + 1 + 1) (map finding_content (drop (i + 1) fs)) in
    let one : parameters_from (i + 1) (map finding_content (drop i fs)) ≡ given ++ next =
    parameters-at fs i f here ∙ ap (λ (t : List ℕ). t ++ next) (sym e) in
    append_assoc page given next ∙ ap (λ (t : List ℕ). page ++ t) (sym one) ∙ rest

-- the heading, the parameters in front and the findings make the page
pub page-whole : (front : List ℕ) (fs : List Finding) (first long : ℕ) → first ≤ length fs
    → long ≡ length front + (length fs - first) * 24
    → ((0x15 ∷ 0x00 ∷ to_be_bytes w16 long) ++ front) ++ parameters_from (first + 1) (map finding_content (drop first fs))
    ≡ log_page 0x15 (front ++ parameters_from (first + 1) (map finding_content (drop first fs)))
page-whole front fs first long within e =
    let behind = parameters_from (first + 1) (map finding_content (drop first fs)) in
    let counted : length behind ≡ 24 * length (drop first fs) = length-parameters (first + 1) (drop first fs) in
    let all : length (front ++ behind) ≡ long = omega (arith, length-append front behind, length-drop first fs) in
    rw all refl

-- a pointer above 0 leaves out the status and the findings before it
pub contents-behind : (state : ScanState) (fs : List Finding) (pointer : ℕ) → (pointer ≡ 0 → ⊥)
    → parameters_from pointer (drop pointer (contents state fs))
    ≡ parameters_from (pointer - 1 + 1) (map finding_content (drop (pointer - 1) fs))
contents-behind state fs zero above = absurd (above refl)
contents-behind state fs (suc p) above =
    let place : suc p - 1 ≡ p = omega arith in
    let code : p + 1 ≡ suc p = omega arith in
    rw (place, code, drop-map finding_content p fs) refl
