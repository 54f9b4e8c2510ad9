-- A list of pages, one page further.
use Rattle.std.proofs.Common.{◌≡◌, ℕ, zero, suc, ◌+◌, ◌-◌, ◌*◌, ◌<◌, true, false, cond, slice_index, ◌≤◌, List, [], ◌∷◌, length, drop, Ok, Err, refl, ap, ◌∙◌, arith}
use Rattle.sense_data.specs.declared.sense.Sense.{Sense}
use Rattle.mode_pages.specs.declared.settings.Settings.{Settings}
use Rattle.mode_pages.specs.ModeSelect.{and_then, front_page, page_length, has_subpage, page_taken, front_taken, pages_taken}

-- the rest of a page is passed over
pub pages_taken-passed : (k : ℕ) (s : Settings) (list : List ℕ) → pages_taken k s list ≡ pages_taken 0 s (drop k list)
pages_taken-passed zero s list = refl
pages_taken-passed (suc k) s [] = refl
pages_taken-passed (suc k) s (b ∷ list) = pages_taken-passed k s list

-- every page has a head
page_length-head : (list : List ℕ) → 2 ≤ page_length list
page_length-head list = elim (has_subpage list) as (λ b. 2 ≤ cond b (4 + (slice_index list 2 * 256 + slice_index list 3)) (2 + slice_index list 1)) [ true ↦ omega arith | false ↦ omega arith ]

-- after the front page is taken, its bytes are gone
pub pages_taken-step : (s t : Settings) (list page : List ℕ) → 0 < length list → front_page list ≡ Ok page → page_taken s page ≡ Ok t
    → pages_taken 0 s list ≡ pages_taken 0 t (drop (page_length list) list)
pages_taken-step s t [] page some front taken = absurd (omega arith)
pages_taken-step s t (b ∷ list) page some front taken =
    let here : front_taken s (b ∷ list) ≡ Ok t = ap (λ r. and_then r (page_taken s)) front ∙ taken in
    let next : pages_taken 0 s (b ∷ list) ≡ pages_taken (page_length (b ∷ list) - 1) t list = ap (λ r. and_then r (λ u. pages_taken (page_length (b ∷ list) - 1) u list)) here in
    let rest = pages_taken-passed (page_length (b ∷ list) - 1) t list in
    let head = page_length-head (b ∷ list) in
    let one_more : suc (page_length (b ∷ list) - 1) ≡ page_length (b ∷ list) = omega arith in
    next ∙ rest ∙ ap (λ n. pages_taken 0 t (drop n (b ∷ list))) one_more

-- a fault in the front page is the refusal
pub pages_taken-fault : (s : Settings) (list : List ℕ) (fault : Sense) → 0 < length list → front_taken s list ≡ Err fault → pages_taken 0 s list ≡ Err fault
pages_taken-fault s [] fault some wrong = absurd (omega arith)
pages_taken-fault s (b ∷ list) fault some wrong =
    ap (λ r. and_then r (λ u. pages_taken (page_length (b ∷ list) - 1) u list)) wrong
