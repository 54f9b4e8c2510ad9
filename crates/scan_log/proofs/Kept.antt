-- Findings whose status and sense key have four bits each, in lists.
use Rattle.std.proofs.Common.{◌≡◌, ℕ, zero, suc, ◌<◌, List, [], ◌∷◌, ◌++◌, drop, slice_get, Some, IsTrue, arith}
use Rattle.std.specs.List.{list_all}
use Rattle.std.proofs.lemmas.Bool.{and_parts}
use Rattle.std.proofs.lemmas.Bool.Decides.{nat_tests}
use Rattle.scan_log.specs.declared.finding.Finding.{Finding}
use Rattle.scan_log.specs.Findings.{fits_a_byte, AllFit}

-- leaving out some in front keeps it
pub all_fit-drop : (n : ℕ) (xs : List Finding) → AllFit xs → AllFit (drop n xs)
all_fit-drop zero xs fit = fit
all_fit-drop (suc n) [] fit = fit
all_fit-drop (suc n) (x ∷ xs) fit = all_fit-drop n xs (and_parts (fits_a_byte x) (list_all fits_a_byte xs) fit).1

-- so does one more that fits
pub all_fit-push : (xs : List Finding) (f : Finding) → AllFit xs → f.status < 16 → f.key < 16 → AllFit (xs ++ f ∷ [])
all_fit-push [] f fit status key = grind (arith, nat_tests)
all_fit-push (x ∷ xs) f fit status key =
    let both = and_parts (fits_a_byte x) (list_all fits_a_byte xs) fit in
    let rest = all_fit-push xs f both.1 status key in
    cc

-- each of them fits
pub all_fit-at : (xs : List Finding) (i : ℕ) (f : Finding) → AllFit xs → slice_get xs i ≡ Some f → IsTrue (fits_a_byte f)
all_fit-at [] i f fit e = cc
all_fit-at (x ∷ xs) zero f fit e =
    let here = (and_parts (fits_a_byte x) (list_all fits_a_byte xs) fit).0 in
    cc
all_fit-at (x ∷ xs) (suc i) f fit e = all_fit-at xs i f (and_parts (fits_a_byte x) (list_all fits_a_byte xs) fit).1 e
