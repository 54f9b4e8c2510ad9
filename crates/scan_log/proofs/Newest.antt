-- The newest findings of a list that grows.
use Rattle.std.proofs.Common.{◌≡◌, ℕ, ◌+◌, ◌-◌, ◌≤◌, List, [], ◌∷◌, ◌++◌, length, drop, sym, ap, ◌∙◌, arith, length-append, length-drop}
use Rattle.std.proofs.lemmas.List.{drop-drop, drop-append-le}
use Rattle.scan_log.specs.declared.finding.Finding.{Finding}
use Rattle.scan_log.specs.Findings.{newest_64}

-- one more behind the newest has the same newest as one more behind all
pub newest_64-push : (xs : List Finding) (f : Finding) → newest_64 (newest_64 xs ++ f ∷ []) ≡ newest_64 (xs ++ f ∷ [])
newest_64-push xs f =
    let one = f ∷ [] in
    let old = length xs - 64 in
    let within : old ≤ length xs = omega arith in
    let behind : drop old xs ++ one ≡ drop old (xs ++ one) = sym (drop-append-le old xs one within) in
    let lost : old + (length (drop old xs ++ one) - 64) ≡ length (xs ++ one) - 64 =
    omega (arith, length-append (drop old xs) one, length-drop old xs, length-append xs one) in
    ap (λ (t : List Finding). drop (length (drop old xs ++ one) - 64) t) behind ∙
    drop-drop (length (drop old xs ++ one) - 64) old (xs ++ one) ∙
    ap (λ (i : ℕ). drop i (xs ++ one)) lost
