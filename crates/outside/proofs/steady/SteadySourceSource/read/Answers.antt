-- what was copied and what is left are what was left
use Rattle.std.proofs.Common.{◌≡◌, ℕ, ◌+◌, ◌≤◌, List, ◌++◌, length, take, drop, sym, ap, ◌∙◌, arith}
use Rattle.std.proofs.lemmas.List.{drop-drop, take_at, take_rest, take-append-drop, length-take-le}
use Rattle.outside.proofs.steady.SteadySourceSource.read.Goals as goal

copied_on : (bytes copied behind : List ℕ) (given n : ℕ) → copied ≡ take n (drop given bytes) → length copied ≡ n
    → drop given bytes ≡ take n (copied ++ behind) ++ drop (given + n) bytes
copied_on bytes copied behind given n same long =
    let front : take n (copied ++ behind) ≡ take n (drop given bytes) = take_at copied behind n long ∙ same in
    sym (ap (λ t. t ++ drop (given + n) bytes) front ∙ ap (λ t. take n (drop given bytes) ++ t) (sym (drop-drop n given bytes)) ∙ take-append-drop n (drop given bytes))

pub returns-clause-got : goal.returns-clause-got
returns-clause-got c =
    let bytes = c.self.inside.bytes in
    let given = c.self.inside.given in
    let all = c.as_slice.result.now in
    let n = c.min-count.result in
    let copy = c.copy_from_slice.ensures in
    let whole : n ≤ length c.args.into.now = omega arith in
    sym (ap (λ s. s.left) c.self.view_is)
    ∙ copied_on bytes c.copy_from_slice.new.self _ given n
    (copy.after ∙ ap (take n) (take_rest all given) ∙ ap (λ t. take n (drop given t)) c.as_slice.ensures)
    (copy.len ∙ length-take-le n c.args.into.now whole)
