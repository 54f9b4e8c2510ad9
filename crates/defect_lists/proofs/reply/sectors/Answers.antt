-- The sort gives the one ascending order of both lists together.
use Rattle.std.proofs.Common.{◌≡◌, ◌∙◌, ◌++◌, [], List, ℕ, ap}
use Rattle.std.specs.Prelude.{map, if◌then◌else◌}
use Rattle.std.proofs.lemmas.List.Sorted.{IsNonDecreasingBy-from_sort}
use Rattle.defect_lists.specs.DefectData.{ascending, asked_sectors}
use Rattle.defect_lists.proofs.Sorting.{ascending-from_sort}
use Rattle.defect_lists.proofs.reply.sectors.Goals as goal

pub returns : goal.returns
returns c =
    let all : c.extend_from_slice.new.self.items ≡ asked_sectors c.args.map.now c.args.request.now =
    c.in_ok-extend_from_slice.ensures.items
    ∙ ap (λ (l : List ℕ). l ++ c.deref.result.now) c.in_ok-sectors.ensures
    ∙ ap (λ (l : List ℕ). (if c.args.request.now.primary then map (λ p. p.0) c.args.map.now.primary else []) ++ l) (c.deref.ensures.value ∙ c.in_ok-grown_sectors.ensures) in
    ascending-from_sort c.extend_from_slice.new.self.items c.sort_unstable.new.self.items c.sort_unstable.ensures.permutation
    (IsNonDecreasingBy-from_sort (λ x. x) c.sort_unstable.new.self.items c.sort_unstable.ensures.sorted)
    ∙ ap ascending all
