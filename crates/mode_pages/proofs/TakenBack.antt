-- What MODE SENSE shows of the present values, MODE SELECT takes back.
use Rattle.std.proofs.Common.{◌≡◌, ℕ, ◌<◌, ◌≤◌, min, Bool, true, false, cond, ◌==◌, ◌&&◌, ◌||◌, nat_lt, List, [], ◌∷◌, ◌++◌, length, take, drop, Some, Result, Ok, Err, refl, ap, sym, ◌∙◌, arith}
use Rattle.std.specs.List.{flat_map}
use Rattle.std.proofs.lemmas.Bool.{le-ltb, le-leb}
use Rattle.std.proofs.lemmas.Bool.Decides.{nat_tests}
use Rattle.std.proofs.lemmas.List.{take_all}
use Rattle.std.proofs.lemmas.Nat.{from_be_bytes-to_be_bytes_4}
use Rattle.sense_data.specs.declared.sense.Sense.{Sense}
use Rattle.mode_pages.specs.declared.settings.Settings.{Settings}
use Rattle.mode_pages.specs.declared.page.Page.{Page}
use Rattle.mode_pages.specs.declared.page.Page.TheVariants.{ErrorRecovery, Caching, BackgroundControl}
use Rattle.mode_pages.specs.Pages.{page_bytes, changeable}
use Rattle.mode_pages.specs.Refusals.{parameter_list_length_error, invalid_field_in_list, saving_not_supported}
use Rattle.mode_pages.specs.ModeSense.{page_shown, block_descriptor, with_header, mode_data, sensed_pages}
use Rattle.mode_pages.specs.ModeSelect.{and_then, describes, behind_descriptor, pages_part, front_page, page_length, page_taken, may_be_taken, with_page, known_page_taken, pages_taken, selected, retries_allowed}
use Rattle.mode_pages.specs.Laws.{WhatIsShownIsTaken}
use Rattle.mode_pages.proofs.Bits.{differ_only_in-same, error_recovery_flags, caching_flags, background_flag}
use Rattle.mode_pages.proofs.FrontPage.{pages_taken-step}

-- a page tells the settings that it was made of
with_page-same : (p : Page) (s : Settings) → with_page p s (page_bytes p s) ≡ s
with_page-same ErrorRecovery s =
    let f = error_recovery_flags s.awre s.arre s.per in
    let awre = f.0 in
    let arre = f.1 in
    let per = f.2 in
    rw (awre, arre, per)
with_page-same Caching s =
    let f = caching_flags s.wce s.rcd in
    let wce = f.0 in
    let rcd = f.1 in
    rw (wce, rcd)
with_page-same BackgroundControl s =
    let bms = background_flag s.bms in
    rw bms

retries_allowed-same : (p : Page) (s : Settings) → s.retry ≤ 20 → retries_allowed p (page_bytes p s) ≡ true
retries_allowed-same ErrorRecovery s few = le-leb s.retry 20 few
retries_allowed-same Caching s few = refl
retries_allowed-same BackgroundControl s few = refl

-- it may be taken
may_be_taken-same : (p : Page) (s : Settings) → s.retry ≤ 20 → may_be_taken s p (page_bytes p s) ≡ true
may_be_taken-same ErrorRecovery s few =
    ap (λ b. b && retries_allowed ErrorRecovery (page_bytes ErrorRecovery s)) (differ_only_in-same (drop 2 (changeable ErrorRecovery)) (drop 2 (page_bytes ErrorRecovery s)))
    ∙ retries_allowed-same ErrorRecovery s few
may_be_taken-same Caching s few =
    ap (λ b. b && true) (differ_only_in-same (drop 2 (changeable Caching)) (drop 2 (page_bytes Caching s)))
may_be_taken-same BackgroundControl s few =
    ap (λ b. b && true) (differ_only_in-same (drop 4 (changeable BackgroundControl)) (drop 4 (page_bytes BackgroundControl s)))

-- and then changes nothing
known_taken-same : (p : Page) (s : Settings) → s.retry ≤ 20 → known_page_taken s (page_bytes p s) (Some p) ≡ Ok s
known_taken-same p s few =
    ap (λ b. cond b (Ok (with_page p s (page_bytes p s))) (Err invalid_field_in_list)) (may_be_taken-same p s few) ∙ ap (λ t. Ok t) (with_page-same p s)

page_taken-same : (p : Page) (s : Settings) → s.retry ≤ 20 → page_taken s (page_bytes p s) ≡ Ok s
page_taken-same ErrorRecovery s few = known_taken-same ErrorRecovery s few
page_taken-same Caching s few = known_taken-same Caching s few
page_taken-same BackgroundControl s few = known_taken-same BackgroundControl s few

-- it is the front page where it stands at the front
front_page-same : (p : Page) (s : Settings) (rest : List ℕ) → front_page (page_bytes p s ++ rest) ≡ Ok (page_bytes p s)
front_page-same ErrorRecovery s rest = let long = le-ltb (length (page_bytes ErrorRecovery s ++ rest)) 12 (omega arith) in ap (λ b. cond b (Err parameter_list_length_error) (Ok (page_bytes ErrorRecovery s))) long
front_page-same Caching s rest = let long = le-ltb (length (page_bytes Caching s ++ rest)) 20 (omega arith) in ap (λ b. cond b (Err parameter_list_length_error) (Ok (page_bytes Caching s))) long
front_page-same BackgroundControl s rest = let long = le-ltb (length (page_bytes BackgroundControl s ++ rest)) 16 (omega arith) in ap (λ b. cond b (Err parameter_list_length_error) (Ok (page_bytes BackgroundControl s))) long

-- and then the rest is what stands behind it
front_page-rest : (p : Page) (s : Settings) (rest : List ℕ) → drop (page_length (page_bytes p s ++ rest)) (page_bytes p s ++ rest) ≡ rest
front_page-rest ErrorRecovery s rest = refl
front_page-rest Caching s rest = refl
front_page-rest BackgroundControl s rest = refl

front_page-some : (p : Page) (s : Settings) (rest : List ℕ) → 0 < length (page_bytes p s ++ rest)
front_page-some ErrorRecovery s rest = omega arith
front_page-some Caching s rest = omega arith
front_page-some BackgroundControl s rest = omega arith

-- so pages of the present settings change nothing
pages_taken-same : (s : Settings) (ps : List Page) → s.retry ≤ 20 → pages_taken 0 s (flat_map (page_shown 0 s) ps) ≡ Ok s
pages_taken-same s [] few = refl
pages_taken-same s (p ∷ ps) few =
    let rest = flat_map (page_shown 0 s) ps in
    pages_taken-step s s (page_bytes p s ++ rest) (page_bytes p s) (front_page-some p s rest) (front_page-same p s rest) (page_taken-same p s few)
    ∙ ap (pages_taken 0 s) (front_page-rest p s rest) ∙ pages_taken-same s ps few

-- the block count that is shown may be given
count_allowed : (capacity count : ℕ) → count ≡ min capacity 0xFFFF_FFFF → ((count == 0) || (count == 0xFFFF_FFFF) || (count == capacity)) ≡ true
count_allowed capacity count e = grind (arith, nat_tests)

behind_descriptor-same : (capacity : ℕ) (rest : List ℕ) → behind_descriptor capacity (block_descriptor capacity ++ rest) ≡ Ok rest
behind_descriptor-same capacity rest =
    let count = from_be_bytes-to_be_bytes_4 (min capacity 0xFFFF_FFFF) (omega arith) in
    let long : nat_lt (length (block_descriptor capacity ++ rest)) 8 ≡ false = le-ltb _ 8 (omega arith) in
    let told : describes capacity (block_descriptor capacity ++ rest) ≡ true = ap (λ b. b && true) (count_allowed capacity _ count) in
    ap (λ b. cond b (Err parameter_list_length_error) (cond (describes capacity (block_descriptor capacity ++ rest)) (Ok rest) (Err invalid_field_in_list))) long
    ∙ ap (λ b. cond b (Ok rest) (Err invalid_field_in_list)) told

-- behind a header that is there in full stands the rest
behind_header : (n : ℕ) (rest : Result (List ℕ) Sense) (list : List ℕ) → n ≤ length list → cond (nat_lt (length list) n) (Err parameter_list_length_error) rest ≡ rest
behind_header n rest list long = ap (λ b. cond b (Err parameter_list_length_error) rest) (le-ltb (length list) n long)

-- the pages behind a header and descriptor that were shown
pages_part-same : (capacity : ℕ) (ten dbd : Bool) (pages : List ℕ)
    → pages_part capacity ten (with_header ten dbd (cond dbd [] (block_descriptor capacity) ++ pages)) ≡ Ok pages
pages_part-same capacity true true pages = behind_header 8 (Ok pages) (with_header true true pages) (omega arith)
pages_part-same capacity true false pages =
    behind_header 8 (behind_descriptor capacity (block_descriptor capacity ++ pages)) (with_header true false (block_descriptor capacity ++ pages)) (omega arith)
    ∙ behind_descriptor-same capacity pages
pages_part-same capacity false true pages = behind_header 4 (Ok pages) (with_header false true pages) (omega arith)
pages_part-same capacity false false pages =
    behind_header 4 (behind_descriptor capacity (block_descriptor capacity ++ pages)) (with_header false false (block_descriptor capacity ++ pages)) (omega arith)
    ∙ behind_descriptor-same capacity pages

-- a list with a header isn't empty
some : (n : ℕ) → 0 < n → (n == 0) ≡ false
some n more = grind (arith, nat_tests)

with_header-some : (ten dbd : Bool) (body : List ℕ) → 0 < length (with_header ten dbd body)
with_header-some true dbd body = omega arith
with_header-some false dbd body = omega arith

selected-same : (s : Settings) (capacity : ℕ) (ten dbd : Bool) (ps : List Page) → s.retry ≤ 20
    → selected s capacity ten (with_header ten dbd (cond dbd [] (block_descriptor capacity) ++ flat_map (page_shown 0 s) ps)) ≡ Ok s
selected-same s capacity ten dbd ps few =
    let pages = flat_map (page_shown 0 s) ps in
    let list : List ℕ = with_header ten dbd (cond dbd [] (block_descriptor capacity) ++ pages) in
    ap (λ b. cond b (Ok s) (and_then (pages_part capacity ten list) (pages_taken 0 s))) (some (length list) (with_header-some ten dbd _))
    ∙ ap (λ part. and_then part (pages_taken 0 s)) (pages_part-same capacity ten dbd pages) ∙ pages_taken-same s ps few

pub shown_is_taken : WhatIsShownIsTaken
shown_is_taken s capacity r pages shown few present asked whole is =
    let all : List ℕ = mode_data s capacity r pages in
    let cut : sensed_pages s capacity r (Some pages) ≡ Ok shown = ap (sensed_pages s capacity r) (sym asked) ∙ is in
    let unsaved : (r.control == 3) ≡ false = ap (λ c. c == 3) present in
    let given : Ok (take r.allocation all) ≡ Ok shown = sym (ap (λ b. cond b (Err saving_not_supported) (Ok (take r.allocation all))) unsaved) ∙ cut in
    let same : take r.allocation all ≡ shown = cc in
    let uncut : all ≡ shown = sym (take_all r.allocation all whole) ∙ same in
    let now : all ≡ with_header r.ten r.dbd (cond r.dbd [] (block_descriptor capacity) ++ flat_map (page_shown 0 s) pages)
    = ap (λ c. with_header r.ten r.dbd (cond r.dbd [] (block_descriptor capacity) ++ flat_map (page_shown c s) pages)) present in
    ap (selected s capacity r.ten) (sym uncut ∙ now) ∙ selected-same s capacity r.ten r.dbd pages few
