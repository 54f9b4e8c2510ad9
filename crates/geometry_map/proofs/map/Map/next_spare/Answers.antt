-- The first open sector from the first spare on.
use Rattle.std.proofs.Common.{◌≡◌, ◌∙◌, ap, arith, length}
use Rattle.geometry_map.specs.declared.size.Size.{Size}
use Rattle.geometry_map.specs.Size.{total_of}
use Rattle.geometry_map.proofs.SpareLemmas.{first_of}
use Rattle.geometry_map.proofs.Places.{next_spare-by}
use Rattle.geometry_map.proofs.map.Map.next_spare.Goals as goal

pub returns : goal.returns
returns c =
    let first : c.first_spare-first.result ≡ first_of c.args.self.now.size c.args.self.now.primary =
    c.first_spare-first.ensures ∙ ap (λ (size : Size). first_of size c.primary.result.now) c.size.ensures ∙ ap (first_of c.args.self.now.size) c.primary.ensures in
    let total : c.total.result ≡ total_of c.args.self.now.size = c.total.ensures.value ∙ ap total_of c.size-2.ensures in
    c.first_open.ensures
    ∙ next_spare-by c.args.self.now c.args.taken.now _ _ _ _ c.lists_are_valid.ensures (omega (arith, ap length c.grown.ensures)) c.primary-2.ensures c.grown-2.ensures first total
