-- The closure gives the start of a route.
use Rattle.std.proofs.Common.{◌≡◌, rules, ℕ}
use denote.Ref.{Bor}
use Rattle.std.proofs.lemmas.List.Sorted.{answers_always}
use Rattle.geometry_map.specs.declared.pair.Pair.{Pair}
use Rattle.geometry_map.proofs.placer.route_from.Goals as goal

pub returns-clause-position : goal.returns-clause-position
returns-clause-position c =
    let key : Pair → ℕ = λ route. route.old.0 in
    let GivesStart : Bor Pair × Unit {0} → ℕ → Type 0 = λ a r. r ≡ a.0.now.old.0 in
    c.binary_search_by_key.ensures.position key (answers_always {F = Unit {0}} {X = Bor Pair × Unit {0}} {R = ℕ} _ GivesStart tt (λ f a r q k. search rules))
